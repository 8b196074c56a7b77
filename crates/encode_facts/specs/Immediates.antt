-- What an Immediate of a size holds, of the numbers from 0 on, and its remainder (02, N2).
use Rattle.std.specs.Prelude.{ℕ, suc, ◌+◌, ◌-◌, ◌%◌, ◌^◌, ◌<◌, ◌≤◌, ◌≡◌, refl, Bool, true, ◌&&◌, ◌||◌, [], ◌∷◌, eqb, ltb, leb, pos}
use Rattle.std.proofs.Common.{ap, sym, ◌∙◌, arith}
use Rattle.std.proofs.Math.Option.{some}
use Rattle.isa.specs.declared.Size.{Size}
use Rattle.isa.specs.declared.Size.TheVariants.{Byte, Word, Long}
use Rattle.isa.specs.declared.Field.TheVariants as field
use Rattle.isa_spec.specs.Field.{holds, ranges, top_of, also_holds, remainder_of}
use Rattle.encode_spec.specs.Item.{word}
use Rattle.encode_spec.specs.Ea.{immediate_words}
use Rattle.isa_facts.specs.Field.{from_zero}
use Rattle.base_facts.specs.Tests.{Lt, lt?, less, past, and_yes, or_no, ltb-true, leb-true, leb_not, eqb_is, eqb_not}

pub immediate_holds : (s : Size) (v : ℕ) → holds (field.Immediate s) (pos v) ≡ (ltb v (suc (top_of s)) || also_holds (some s) (pos v))
unfolding holds ranges
immediate_holds s v =
    and_yes (leb 0 v && leb v (top_of s) || also_holds (some s) (pos v)) ∙ ap (λ (b : Bool). b || also_holds (some s) (pos v)) (from_zero v (top_of s))

pub immediate_held : (s : Size) (v : ℕ) → v < suc (top_of s) → holds (field.Immediate s) (pos v) ≡ true
immediate_held s v h = rw (immediate_holds s v, ltb-true v (suc (top_of s)) h)

-- ---- a number of Byte or Word is held exactly where it is its remainder, or that sign-extended to 32 bits
exactly : (h base v r : ℕ) → h + h ≤ base → r < h + h → (v < h + h → r ≡ v) → (base ≤ v → v ≡ base + r) → v < base + (h + h)
    → (ltb v (h + h) || leb (base + h) v && leb v (base + (h + h) - 1)) ≡ (eqb v r || leb h r && eqb v (base + r))
exactly h base v r hb hr low high hv = go (lt? v (h + h))
  where
    below : Lt r h → v < base + h → leb h r && eqb v (base + r) ≡ (leb (base + h) v && leb v (base + (h + h) - 1))
    below (less l e) g = rw (leb_not h r l, leb_not (base + h) v g)
    below (past l e) g = rw (leb-true h r l, leb_not (base + h) v g, eqb_not v (base + r) (λ q. omega arith))

    above : Lt v (base + h) → (leb (base + h) v && leb v (base + (h + h) - 1)) ≡ leb h r && eqb v (base + r)
    above (less l e) = sym (below (lt? r h) l)
    above (past l e) =
        let q : v ≡ base + r = high (omega arith) in
        rw (leb-true (base + h) v l, leb-true v (base + (h + h) - 1) (omega arith), leb-true h r (omega arith), eqb_is v (base + r) q)

    go : Lt v (h + h) → (ltb v (h + h) || leb (base + h) v && leb v (base + (h + h) - 1)) ≡ (eqb v r || leb h r && eqb v (base + r))
    go (less l e) = rw (e, eqb_is v r (sym (low l)))
    go (past l e) = rw (e, eqb_not v r (λ q. omega arith)) (above (lt? v (base + h)))

pub byte-holds : (v : ℕ) → v < 2 ^ 32
    → holds (field.Immediate Byte) (pos v) ≡ (eqb v (v % 256) || leb 128 (v % 256) && eqb v (2 ^ 32 - 256 + v % 256))
byte-holds v h = immediate_holds Byte v ∙ exactly 128 (2 ^ 32 - 256) v (v % 256) (omega arith) (omega arith) (λ l. omega arith) (λ l. omega arith) (omega arith)

pub word_holds : (v : ℕ) → v < 2 ^ 32
    → holds (field.Immediate Word) (pos v) ≡ (eqb v (v % 65536) || leb 32768 (v % 65536) && eqb v (2 ^ 32 - 65536 + v % 65536))
word_holds v h = immediate_holds Word v ∙ exactly 32768 (2 ^ 32 - 65536) v (v % 65536) (omega arith) (omega arith) (λ l. omega arith) (λ l. omega arith) (omega arith)

-- a long holds no more than its pair
pub long-holds : (v : ℕ) → holds (field.Immediate Long) (pos v) ≡ ltb v (2 ^ 32)
long-holds v = immediate_holds Long v ∙ or_no (ltb v (2 ^ 32))

-- ---- remainders
pub own_remainder : (s : Size) (v : ℕ) → v < suc (top_of s) → remainder_of s v ≡ v
own_remainder Byte v h = omega arith
own_remainder Word v h = omega arith
own_remainder Long v h = refl

-- the remainder of a number that is held is held too, and has the same words
pub as_remainder : (s : Size) (v : ℕ) → holds (field.Immediate s) (pos v) ≡ true
    → (holds (field.Immediate s) (pos (remainder_of s v)) ≡ true) × (immediate_words (remainder_of s v) s ≡ immediate_words v s)
as_remainder Byte v h = (immediate_held Byte (v % 256) (omega arith), ap (λ (w : ℕ). word w ∷ []) (omega arith))
as_remainder Word v h = (immediate_held Word (v % 65536) (omega arith), ap (λ (w : ℕ). word w ∷ []) (omega arith))
as_remainder Long v h = (h, refl)
