-- Laws of a variant's name found by its key or by its length. Assumes nothing.
use Prim.Native.Nat.{ℕ, zero, suc, ◌+◌, ◌*◌, ◌≤◌, ◌<◌}
use mathlib.Core.Path.{◌≡◌, refl, sym, ap, subst, ◌∙◌}
use mathlib.Core.Bool.{Bool, true, false, cond, not, ◌&&◌, ◌||◌, false≢true}
use mathlib.Core.List.{List, [], ◌∷◌, map}
use native.Mathlib.Omega.{arith}
use lib.Dec.{eqb, leb, ltb}
use lib.ListN.{length, drop, get_or, drop_of_length-le}
use lib.Seq.{drop-cons}
use Rattle.std.specs.Prelude.{Some, None}
use borrow.Author.Tests.{le-leb, eqb-true, eq-eqb, ne_eqb}
use Rattle.sheet_spec.specs.declared.Kind.{Kind}
use Rattle.sheet_spec.specs.declared.Kind.TheVariants as kind
use Rattle.sheet_spec.specs.Names.{bytes, names_of}
use Rattle.sheet_spec.specs.Line.{literal, invalid, equal, is_none, place_from, as_variant}
use Rattle.sheet_tokens.specs.Values.{value_of}
use Rattle.sheet_facts.specs.Facts.{equal_is, equal_refl}
use Rattle.base_facts.specs.Tests.{and-true, true_not_false, ltb_is, leb_is}
use Rattle.sheet_field.specs.Place.{key_of, has_key, key_place, short_place, long_from, long_place, place_value}
use Rattle.sheet_field.proofs.Laws.{equal_lengths}

-- the key of a field of n bytes, a byte at a time
abbrev pub key_from : ℕ → ℕ → List ℕ → ℕ
key_from i zero f = 0
key_from i (suc n) f = get_or f i 0 + 256 * key_from (suc i) n f

key_from_lem : (i n : ℕ) (f : List ℕ) → length f ≡ i + n → key_of (drop i f) ≡ key_from i n f
key_from_lem i zero f h = let g : length f ≤ i = omega arith in rw (drop_of_length-le f g)
key_from_lem i (suc n) f h = rw (drop-cons f i 0 (omega arith)) (ap (λ (k : ℕ). get_or f i 0 + 256 * k) (key_from_lem (suc i) n f (omega arith)))

pub key_bytes : (n : ℕ) (f : List ℕ) → length f ≡ n → key_of f ≡ key_from 0 n f
key_bytes n f h = key_from_lem 0 n f (omega arith)

-- a field that its key decides: bytes, and the last is not 0
abbrev pub Keyed : List ℕ → Type 0
Keyed [] = Unit {0}
Keyed (b ∷ []) = (b < 256) × (0 < b)
Keyed (b ∷ (d ∷ bs)) = (b < 256) × Keyed (d ∷ bs)

key_some : (b : ℕ) (bs : List ℕ) → Keyed (b ∷ bs) → 0 < key_of (b ∷ bs)
key_some b [] h = omega (arith, h.1)
key_some b (d ∷ bs) h = omega (arith, key_some d bs h.1)

keyed_first : (b : ℕ) (bs : List ℕ) → Keyed (b ∷ bs) → b < 256
keyed_first b [] h = h.0
keyed_first b (d ∷ bs) h = h.0

keyed_rest : (b : ℕ) (bs : List ℕ) → Keyed (b ∷ bs) → Keyed bs
keyed_rest b [] h = tt
keyed_rest b (d ∷ bs) h = h.1

pub key_is : (f g : List ℕ) → Keyed f → Keyed g → key_of f ≡ key_of g → f ≡ g
key_is [] [] h k e = refl
key_is [] (y ∷ ys) h k e = absurd (omega (arith, key_some y ys k))
key_is (x ∷ xs) [] h k e = absurd (omega (arith, key_some x xs h))
key_is (x ∷ xs) (y ∷ ys) h k e =
    let p : x ≡ y = omega (arith, keyed_first x xs h, keyed_first y ys k) in
    let q : key_of xs ≡ key_of ys = omega (arith, keyed_first x xs h, keyed_first y ys k) in
    let r = key_is xs ys (keyed_rest x xs h) (keyed_rest y ys k) q in
    λ i. p i ∷ r i

-- a lent field whose last byte is not 0
pub lent_keyed : (f : List ℕ) (l : ℕ) → suc l ≡ length f → ((i : ℕ) → get_or f i 0 < 256) → (get_or f l 0 ≡ 0 → ⊥) → Keyed f
lent_keyed [] l e h z = absurd (omega arith)
lent_keyed (b ∷ []) zero e h z = (h 0, omega (arith, z))
lent_keyed (b ∷ []) (suc l) e h z = absurd (omega arith)
lent_keyed (b ∷ (d ∷ bs)) zero e h z = absurd (omega arith)
lent_keyed (b ∷ (d ∷ bs)) (suc l) e h z = (h 0, lent_keyed (d ∷ bs) l (omega arith) (λ i. h (suc i)) z)

-- every name is such a field: a computed test
abbrev keyed : List ℕ → Bool
keyed [] = true
keyed (b ∷ []) = ltb b 256 && ltb 0 b
keyed (b ∷ (d ∷ bs)) = ltb b 256 && keyed (d ∷ bs)

keyed-is : (f : List ℕ) → keyed f ≡ true → Keyed f
keyed-is [] e = tt
keyed-is (b ∷ []) e = let t = and-true (ltb b 256) (ltb 0 b) e in (ltb_is b 256 t.0, ltb_is 0 b t.1)
keyed-is (b ∷ (d ∷ bs)) e = let t = and-true (ltb b 256) (keyed (d ∷ bs)) e in (ltb_is b 256 t.0, keyed-is (d ∷ bs) t.1)

abbrev all_keyed : List (List ℕ) → Bool
all_keyed [] = true
all_keyed (n ∷ ns) = keyed n && all_keyed ns

abbrev test : Kind → Bool
test k = all_keyed (map bytes (names_of k))

tested : (k : Kind) → test k ≡ true
tested kind.Number = refl
tested kind.Target = refl
tested kind.Place = refl
tested kind.Size = refl
tested kind.TargetDirection = refl
tested kind.RegisterOperand = refl
tested kind.AddressWidth = refl
tested kind.Condition = refl
tested kind.BranchSize = refl
tested kind.ShiftDirection = refl
tested kind.Sign = refl
tested kind.BitFieldOperation = refl
tested kind.FieldValue = refl
tested kind.TrapOperand = refl
tested kind.RegisterChoice = refl
tested kind.Operand = refl
tested kind.Instruction = refl

-- the place of a field of at most eight bytes
module _ (b : ℕ) (bs : List ℕ) (few : length (b ∷ bs) ≤ 8) (h : Keyed (b ∷ bs)) where
  key_same : (n : List ℕ) → keyed n ≡ true → has_key n && eqb (key_of (b ∷ bs)) (key_of n) ≡ equal (b ∷ bs) n && true
  key_same n t = go (equal f n) refl (has_key n && eqb (key_of f) (key_of n)) refl
    where
      f : List ℕ
      f = b ∷ bs

      own : has_key (b ∷ bs) && eqb (key_of (b ∷ bs)) (key_of (b ∷ bs)) ≡ true
      own = rw (le-leb (length (b ∷ bs)) 8 few, eq-eqb (key_of (b ∷ bs)) (key_of (b ∷ bs)) refl)

      go : (u : Bool) → equal f n ≡ u → (v : Bool) → has_key n && eqb (key_of f) (key_of n) ≡ v → v ≡ u && true
      go true e v d = sym d ∙ ap (λ (m : List ℕ). has_key m && eqb (key_of f) (key_of m)) (sym (equal_is f n e)) ∙ own
      go false e true d =
          let k = eqb-true (key_of f) (key_of n) (and-true (has_key n) (eqb (key_of f) (key_of n)) d).1 in
          true_not_false (ap (equal f) (sym (key_is f n h (keyed-is n t) k)) ∙ equal_refl f) e
      go false e false d = refl

  short-from : (k : ℕ) (ns : List (List ℕ)) → all_keyed ns ≡ true → value_of (place_from k (b ∷ bs) ns) ≡ place_value (key_place (key_of (b ∷ bs)) k ns)
  short-from k [] t = refl
  short-from k (n ∷ ns) t =
      let u = and-true (keyed n) (all_keyed ns) t in
      rw (key_same n u.0) (go (equal f n && true) (short-from (suc k) ns u.1))
    where
      f : List ℕ
      f = b ∷ bs

      go : (v : Bool) → value_of (place_from (suc k) f ns) ≡ place_value (key_place (key_of f) (suc k) ns)
          → value_of (cond v (literal false k) (place_from (suc k) f ns)) ≡ place_value (cond v (Some k) (key_place (key_of f) (suc k) ns))
      go true e = refl
      go false e = e

pub by_key : (kind : Kind) (f : List ℕ) → 0 < length f → length f ≤ 8 → Keyed f → value_of (as_variant kind f) ≡ place_value (short_place kind (key_of f))
unfolding short_place
by_key kind [] some few h = absurd (omega arith)
by_key kind (b ∷ bs) some few h =
    short-from b bs few h 0 (map bytes (names_of kind)) (tested kind)

-- the place of a longer one
module _ (b : ℕ) (bs : List ℕ) (many : 8 < length (b ∷ bs)) where
  long_from_lem : (k : ℕ) (ns : List (List ℕ)) → value_of (place_from k (b ∷ bs) ns) ≡ place_value (long_from k (b ∷ bs) ns)
  long_from_lem k [] = refl
  long_from_lem k (n ∷ ns) = go (leb (length n) 8) refl (equal f n) refl (long_from_lem (suc k) ns)
    where
      f : List ℕ
      f = b ∷ bs

      go : (u : Bool) → leb (length n) 8 ≡ u → (v : Bool) → equal f n ≡ v → value_of (place_from (suc k) f ns) ≡ place_value (long_from (suc k) f ns)
          → value_of (cond (v && true) (literal false k) (place_from (suc k) f ns)) ≡ place_value (cond u (long_from (suc k) f ns) (cond v (Some k) (long_from (suc k) f ns)))
      go true e true d r = true_not_false d (equal_lengths f n (λ q. omega (arith, leb_is (length n) 8 e)))
      go true e false d r = r
      go false e true d r = refl
      go false e false d r = r

pub by_length : (kind : Kind) (f : List ℕ) → 8 < length f → value_of (as_variant kind f) ≡ place_value (long_place kind f)
unfolding long_place
by_length kind [] many = absurd (omega arith)
by_length kind (b ∷ bs) many =
    long_from_lem b bs many 0 (map bytes (names_of kind))

-- no name ends in a byte 0
keyed-last : (n : List ℕ) (l : ℕ) → suc l ≡ length n → Keyed n → 0 < get_or n l 0
keyed-last [] l e h = absurd (omega arith)
keyed-last (b ∷ []) zero e h = h.1
keyed-last (b ∷ []) (suc l) e h = absurd (omega arith)
keyed-last (b ∷ (d ∷ bs)) zero e h = absurd (omega arith)
keyed-last (b ∷ (d ∷ bs)) (suc l) e h = keyed-last (d ∷ bs) l (omega arith) h.1

module _ (f : List ℕ) (l : ℕ) (e : suc l ≡ length f) (z : get_or f l 0 ≡ 0) where
  no_zero_from : (k : ℕ) (ns : List (List ℕ)) → all_keyed ns ≡ true → place_from k f ns ≡ invalid
  no_zero_from k [] t = refl
  no_zero_from k (n ∷ ns) t = go (equal f n) refl (no_zero_from (suc k) ns u.1)
    where
      u : (keyed n ≡ true) × (all_keyed ns ≡ true)
      u = and-true (keyed n) (all_keyed ns) t

      go : (v : Bool) → equal f n ≡ v → place_from (suc k) f ns ≡ invalid → cond (v && not (is_none f)) (literal false k) (place_from (suc k) f ns) ≡ invalid
      go true d r =
          let h : Keyed f = subst Keyed (sym (equal_is f n d)) (keyed-is n u.0) in
          absurd (omega (arith, keyed-last f l e h))
      go false d r = r

  pub no_zero : (kind : Kind) → as_variant kind f ≡ invalid
  no_zero kind =
      no_zero_from 0 (map bytes (names_of kind)) (tested kind)

-- a number that is none of a match's
abbrev pub RestFrom : Type 0 → List ℕ → ℕ → Type 0
RestFrom R [] n = R
RestFrom R (k ∷ ks) n = RestFrom (R × (n ≡ k → ⊥)) ks n

abbrev Apart : List ℕ → ℕ → Type 0
Apart [] n = Unit {0}
Apart (k ∷ ks) n = (n ≡ k → ⊥) × Apart ks n

rest_apart : (R : Type 0) (ks : List ℕ) (n : ℕ) → RestFrom R ks n → R × Apart ks n
rest_apart R [] n r = (r, tt)
rest_apart R (k ∷ ks) n r =
    let p = rest_apart (R × (n ≡ k → ⊥)) ks n r in
    (p.0.0, (p.0.1, p.1))

abbrev is_in : ℕ → List ℕ → Bool
is_in m [] = false
is_in m (k ∷ ks) = eqb m k || is_in m ks

apart_in : (ks : List ℕ) (m n : ℕ) → is_in m ks ≡ true → Apart ks n → n ≡ m → ⊥
apart_in [] m n t a e = false≢true t
apart_in (k ∷ ks) m n t a e = go (eqb m k) refl t (λ q. apart_in ks m n q a.1 e)
  where
    go : (u : Bool) → eqb m k ≡ u → u || is_in m ks ≡ true → (is_in m ks ≡ true → ⊥) → ⊥
    go true d q next = a.0 (e ∙ eqb-true m k d)
    go false d q next = next q

-- a key that no name has
abbrev pub keys_of : List (List ℕ) → List ℕ
keys_of [] = []
keys_of (n ∷ ns) = cond (has_key n) (key_of n ∷ keys_of ns) (keys_of ns)

no_key_from : (key k : ℕ) (ns : List (List ℕ)) → Apart (keys_of ns) key → key_place key k ns ≡ None
no_key_from key k [] a = refl
no_key_from key k (n ∷ ns) a = go (has_key n) a (no_key_from key (suc k) ns)
  where
    go : (t : Bool) → Apart (cond t (key_of n ∷ keys_of ns) (keys_of ns)) key → (Apart (keys_of ns) key → key_place key (suc k) ns ≡ None) → cond (t && eqb key (key_of n)) (Some k) (key_place key (suc k) ns) ≡ None
    go true r next = rw (ne_eqb key (key_of n) r.0) (next r.1)
    go false r next = next r

pub no_key : (kind : Kind) (key : ℕ) → RestFrom (Unit {0}) (keys_of (map bytes (names_of kind))) key → None ≡ short_place kind key
unfolding short_place
no_key kind key r =
    let ns = map bytes (names_of kind) in
    sym (no_key_from key 0 ns (rest_apart (Unit {0}) (keys_of ns) key r).1)
