-- Laws of what is printed. Assumes nothing.
use Rattle.std.specs.Prelude.{◌≡◌, refl, Bool, true, false, cond, ◌&&◌, List, [], ◌∷◌, ◌++◌, ℕ, zero, suc, ◌+◌, ◌≤◌, ◌<◌, leb, ℤ, length, take, drop, get_or}
use Rattle.std.proofs.Math.Path.{sym}
use Rattle.std.proofs.Common.{ap, ◌∙◌, append_assoc, arith, add-one, take-suc}
use Rattle.base_facts.specs.Tests.{cond_true, cond_false, leb-true}
use Rattle.base_spec.specs.Written.{hex2_of}
use Rattle.base_spec.specs.Refused.{tab, not_in_form}
use Rattle.base_text.specs.declared.LineNumbers.{LineNumbers}
use Rattle.base_text.specs.Numbers.{line_numbers}
use Rattle.numeric_places.specs.declared.Numbers.{Numbers}
use Rattle.numeric_spec.specs.declared.Built.{Built}
use Rattle.numeric_spec.specs.Take.{Taken, taken, not_there, take_both, take_unsigned, take_long}
use Rattle.numeric_places.specs.Places.{numbers_held, built_from}
use Rattle.numeric_facts.specs.Built.{build_long}
use Rattle.numeric_facts.specs.Exact.{thence, unsigned_exact}
use Rattle.numeric_facts.specs.Payload.{long_exact}
use Rattle.numeric_fields.specs.declared.UnsignedAt.{UnsignedAt}
use Rattle.numeric_fields.specs.declared.LongAt.{LongAt}
use Rattle.numeric_fields.specs.Number.{unsigned_at, long_at}
use Rattle.numeric_fields.specs.NumberLaws.{unsigned_le}
use Rattle.numeric_fields.specs.Taken.{Whole, same-both, unsigned_same, long_same}
use Rattle.print_spec.specs.BytesAnswer.{counted_from, lent_before, listed_bytes, called_text, lent_text, lent_numbers_text, bytes_answer_of}
use Rattle.encode_answers.specs.Places.{places_in}
use Rattle.encode_answers.specs.AnswerLaws.{line_yes, line_no}
use Rattle.bytes_answers.specs.Places.{lent_places_text}

-- one byte more
pub bytes_next : (bs : List ℕ) (i : ℕ) → i < length bs → listed_bytes (take (i + 1) bs) ≡ listed_bytes (take i bs) ++ (tab ++ hex2_of (get_or bs i 0))
bytes_next bs i h = rw (add-one, take-suc bs i 0 h) (go (take i bs))
  where
    go : (ls : List ℕ) → listed_bytes (ls ++ (get_or bs i 0 ∷ [])) ≡ listed_bytes ls ++ (tab ++ hex2_of (get_or bs i 0))
    go [] = refl
    go (b ∷ ls) = rw (go ls, append_assoc)

counted_first : (b n m : ℕ) → n ≤ m → take n (counted_from b m) ≡ counted_from b n
counted_first b zero m h = refl
counted_first b (suc n) zero h = absurd (omega arith)
counted_first b (suc n) (suc m) h = ap (λ (l : List ℕ). b ∷ l) (counted_first (b + 1) n m (omega arith))

pub counted_length : (b n : ℕ) → length (counted_from b n) ≡ n
counted_length b zero = refl
counted_length b (suc n) = ap suc (counted_length (b + 1) n)

-- n of the 32 bytes
pub lent_first : (lent : List ℕ) (n : ℕ) → lent ≡ lent_before 32 → n ≤ 32 → take n lent ≡ lent_before n
lent_first lent n e h = ap (take n) e ∙ counted_first 160 n 32 h

-- ---- how many bytes are lent, an address, then an instruction, in places
module _ (ns : Numbers) (l : UnsignedAt) (e : l ≡ unsigned_at 32 ns 0) (a : LongAt) (f : a ≡ long_at ns l.next) where
  pub lent_yes : (b : Built) → b ≡ built_from ns a.next → l.ok && a.ok ≡ true → lent_places_text ns ≡ called_text b l.value a.value
  unfolding lent_places_text
  lent_yes b g h = rw (sym e, sym f) (cond_true (l.ok && a.ok) _ _ h ∙ rw g)

  pub lent_no : l.ok && a.ok ≡ false → lent_places_text ns ≡ not_in_form
  unfolding lent_places_text
  lent_no h = rw (sym e, sym f) (cond_false (l.ok && a.ok) _ _ h)

  pub lent_most : l.value ≤ 32
  lent_most = rw e (unsigned_le 32 ns 0)

places_lent : (ns : Numbers) → Whole ns → ns.count ≤ 24 → lent_places_text ns ≡ lent_numbers_text (numbers_held ns)
unfolding lent_places_text lent_numbers_text
places_lent ns w few = go (l.ok && a.ok) (same-both take_long (unsigned_same ns w 32 0) (long_same ns w l.next)).is
  where
    l : UnsignedAt
    l = unsigned_at 32 ns 0

    a : LongAt
    a = long_at ns l.next

    go : (t : Bool) → take_both (take_unsigned 32) take_long (numbers_held ns) ≡ cond t (taken (l.value, a.value) (drop a.next (numbers_held ns))) not_there
        → cond t (called_text (built_from ns a.next) l.value a.value) not_in_form ≡ lent_text (take_both (take_unsigned 32) take_long (numbers_held ns))
    go true e = ap (λ (b : Built). called_text b l.value a.value) (cond_true (leb ns.count 24) _ _ (leb-true ns.count 24 few)) ∙ sym (ap lent_text e)
    go false e = sym (ap lent_text e)

long_lent : (zs : List ℤ) → 24 < length zs → lent_numbers_text zs ≡ not_in_form
unfolding lent_numbers_text
long_lent zs h = go (take_both (take_unsigned 32) take_long zs) refl
  where
    go : (t : Taken (ℕ × ℕ)) → take_both (take_unsigned 32) take_long zs ≡ t → lent_text t ≡ not_in_form
    go (taken (n, address) rest) e =
        let s = (thence (unsigned_exact 32) long_exact).sound zs (n, address) rest e in
        let l : length zs ≡ suc (suc (length rest)) = ap length s.0 in
        ap (λ (b : Built). called_text b n address) (build_long rest (omega arith))
    go not_there e = refl

-- ---- the line
module _ (line : List ℕ) (n : LineNumbers) (e : n ≡ line_numbers line) where
  pub bytes_yes : (ns : Numbers) → ns ≡ places_in n → n.ok ≡ true → bytes_answer_of line ≡ lent_places_text ns
  unfolding bytes_answer_of
  bytes_yes = line_yes lent_numbers_text lent_places_text places_lent long_lent line n e

  pub bytes_no : n.ok ≡ false → bytes_answer_of line ≡ not_in_form
  unfolding bytes_answer_of
  bytes_no = line_no lent_numbers_text lent_places_text places_lent long_lent line n e
