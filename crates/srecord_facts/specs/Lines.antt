-- What the tests of a line tell, and the bytes of its record. Assumes nothing.
use Rattle.std.specs.Prelude.{◌≡◌, refl, Bool, true, false, not, ◌&&◌, ◌||◌, List, [], ◌∷◌, ◌++◌, ℕ, suc, ◌+◌, ◌-◌, ◌%◌, ◌^◌, ◌≤◌, ◌<◌, eqb, leb, take, drop, get_or}
use Rattle.std.proofs.Common.{sym, ap, ◌∙◌, arith, length-append, length-take, length-drop, take_all, take-suc, take-add}
use Rattle.std.proofs.Math.ListN.{length}
use Rattle.base_facts.specs.Tests.{and-true, true_and, leb_is, leb-true, eqb_eq, eqb_is, never}
use Rattle.srecord_spec.specs.Record.{SRecord, address_width, closes, bytes_to, address_and_data, count_of, record_bytes, are_pairs, number_from, line_bytes, count_in, type_in, record_in, is_record}
use Rattle.srecord_spec.specs.Promises.{AllBelow, InForm}
use Rattle.srecord_facts.specs.Bytes.{below_take, below_drop, below_at, bytes_length, number_again}
use Rattle.srecord_facts.specs.Digits.{pairs_again}

-- ---- the tests of a line, each with those before it
abbrev pub type_right : List ℕ → Bool
type_right p = eqb (get_or p 0 0) 83 && leb 1 (address_width (type_in p))

abbrev pub digits_right : List ℕ → Bool
digits_right p = type_right p && are_pairs (drop 2 p)

abbrev pub count_right : List ℕ → Bool
count_right p = digits_right p && eqb (length (line_bytes p)) (1 + count_in p)

abbrev pub room_right : List ℕ → Bool
room_right p = count_right p && leb (address_width (type_in p) + 1) (count_in p)

abbrev pub even_right : List ℕ → Bool
even_right p = room_right p && eqb (length (record_in p).bytes % 2) 0

-- a closing record has no data
abbrev pub none_right : List ℕ → Bool
none_right p = not (closes (type_in p)) || eqb (length (record_in p).bytes) 0

pub record SizedLine (p : List ℕ) : Type 0 where
  pub letter : get_or p 0 0 ≡ 83
  pub known : 1 ≤ address_width (type_in p)
  pub pairs : are_pairs (drop 2 p) ≡ true
  pub all : length (line_bytes p) ≡ 1 + count_in p
  pub least : address_width (type_in p) + 1 ≤ count_in p

pub record RecordLine (p : List ℕ) : Type 0 where
  pub sized : SizedLine p
  pub even : length (record_in p).bytes % 2 ≡ 0
  pub none : closes (type_in p) ≡ true → length (record_in p).bytes ≡ 0

either : (a b : Bool) → (not a || b) ≡ true → a ≡ true → b ≡ true
either true b e h = e
either false b e h = never h

or_not : (a b : Bool) → (a ≡ true → b ≡ true) → (not a || b) ≡ true
or_not true b f = f refl
or_not false b f = refl

module _ (p : List ℕ) where
  abbrev w : ℕ
  w = address_width (type_in p)

  abbrev n : ℕ
  n = length (record_in p).bytes

  pub sized_is : room_right p ≡ true → SizedLine p
  sized_is e =
      let room = and-true (count_right p) (leb (w + 1) (count_in p)) e in
      let count = and-true (digits_right p) (eqb (length (line_bytes p)) (1 + count_in p)) room.0 in
      let digits = and-true (type_right p) (are_pairs (drop 2 p)) count.0 in
      let type = and-true (eqb (get_or p 0 0) 83) (leb 1 w) digits.0 in
      record {
        letter = eqb_eq (get_or p 0 0) 83 type.0;
        known = leb_is 1 w type.1;
        pairs = digits.1;
        all = eqb_eq (length (line_bytes p)) (1 + count_in p) count.1;
        least = leb_is (w + 1) (count_in p) room.1;
      }

  pub line_is : is_record p ≡ true → RecordLine p
  unfolding is_record
  line_is e =
      let none = and-true (even_right p) (none_right p) e in
      let even = and-true (room_right p) (eqb (n % 2) 0) none.0 in
      record {
        sized = sized_is even.0;
        even = eqb_eq (n % 2) 0 even.1;
        none = λ c. eqb_eq n 0 (either (closes (type_in p)) (eqb n 0) none.1 c);
      }

  pub is_line : RecordLine p → is_record p ≡ true
  unfolding is_record
  is_line l =
      let s = l.sized in
      let type = true_and (eqb (get_or p 0 0) 83) (leb 1 w) (eqb_is (get_or p 0 0) 83 s.letter) (leb-true 1 w s.known) in
      let digits = true_and (type_right p) (are_pairs (drop 2 p)) type s.pairs in
      let count = true_and (digits_right p) (eqb (length (line_bytes p)) (1 + count_in p)) digits (eqb_is (length (line_bytes p)) (1 + count_in p) s.all) in
      let room = true_and (count_right p) (leb (w + 1) (count_in p)) count (leb-true (w + 1) (count_in p) s.least) in
      let even = true_and (room_right p) (eqb (n % 2) 0) room (eqb_is (n % 2) 0 l.even) in
      true_and (even_right p) (none_right p) even (or_not (closes (type_in p)) (eqb n 0) (λ c. eqb_is n 0 (l.none c)))

-- ---- the bytes of its record
pub no_bytes : (record_in []).bytes ≡ []
unfolding record_in
no_bytes = refl

pub address_data_length : (r : SRecord) → length (address_and_data r) ≡ address_width r.type + length r.bytes
address_data_length r =
    length-append (bytes_to (address_width r.type) r.address) r.bytes
    ∙ ap (λ (n : ℕ). n + length r.bytes) (bytes_length (address_width r.type) r.address)

split : (bs : List ℕ) (w c : ℕ) → length bs ≡ 1 + c → w + 1 ≤ c
    → get_or bs 0 0 ∷ (take w (drop 1 bs) ++ take (c - (w + 1)) (drop (1 + w) bs) ++ (get_or bs c 0 ∷ [])) ≡ bs
split bs w c e h =
    let m = c - (w + 1) in
    let n : 1 + w + m ≡ c = omega arith in
    let x : take 1 bs ≡ get_or bs 0 0 ∷ [] = take-suc bs 0 0 (omega arith) in
    let y : take (1 + w) bs ≡ take 1 bs ++ take w (drop 1 bs) = take-add 1 w bs in
    let z : take c bs ≡ take (1 + w) bs ++ take m (drop (1 + w) bs) = ap (λ (k : ℕ). take k bs) (sym n) ∙ take-add (1 + w) m bs in
    let v : take (suc c) bs ≡ take c bs ++ (get_or bs c 0 ∷ []) = take-suc bs c 0 (omega arith) in
    let u : take c bs ≡ (get_or bs 0 0 ∷ take w (drop 1 bs)) ++ take m (drop (1 + w) bs) =
    z ∙ ap (λ (l : List ℕ). l ++ take m (drop (1 + w) bs)) (y ∙ ap (λ (l : List ℕ). l ++ take w (drop 1 bs)) x) in
    sym (sym (take_all (suc c) bs (omega arith)) ∙ v ∙ ap (λ (l : List ℕ). l ++ (get_or bs c 0 ∷ [])) u)

no_length : (l : List ℕ) → length l ≡ 0 → l ≡ []
no_length [] e = refl
no_length (x ∷ xs) e = absurd (omega arith)

module _ (p : List ℕ) (l : RecordLine p) where
  pairs_below : AllBelow 256 (line_bytes p)
  pairs_below = (pairs_again (drop 2 p) l.sized.pairs).1

  address_bytes : List ℕ
  address_bytes = take (address_width (type_in p)) (drop 1 (line_bytes p))

  address_is : (bytes_to (address_width (type_in p)) (number_from 0 address_bytes) ≡ address_bytes) × (number_from 0 address_bytes < 256 ^ address_width (type_in p))
  unfolding address_bytes
  address_is =
      let w = address_width (type_in p) in
      let n : length (take w (drop 1 (line_bytes p))) ≡ w = rw (length-take, length-drop) (omega (arith, l.sized.all, l.sized.least)) in
      number_again w (take w (drop 1 (line_bytes p))) n (below_take 256 w (drop 1 (line_bytes p)) (below_drop 256 1 (line_bytes p) pairs_below))

  count_is : count_of (record_in p) ≡ count_in p
  unfolding record_in
  count_is =
      let w = address_width (type_in p) in
      let n : length (record_in p).bytes ≡ count_in p - (w + 1) = rw (length-take, length-drop) (omega (arith, l.sized.all, l.sized.least)) in
      omega (arith, address_data_length (record_in p), n, l.sized.least)

  pub line_bytes_lem : record_bytes (record_in p) ≡ line_bytes p
  unfolding record_in address_bytes
  line_bytes_lem =
      let w = address_width (type_in p) in
      let r = record_in p in
      (λ i. count_is i ∷ (address_is.0 i ++ r.bytes ++ (r.checksum ∷ []))) ∙ split (line_bytes p) w (count_in p) l.sized.all l.sized.least

  pub line_form : InForm (record_in p)
  unfolding record_in address_bytes
  line_form =
      let w = address_width (type_in p) in
      let bs = line_bytes p in
      record {
        known = l.sized.known;
        address = address_is.1;
        bytes = below_take 256 (count_in p - (w + 1)) (drop (1 + w) bs) (below_drop 256 (1 + w) bs pairs_below);
        even = l.even;
        none = λ c. no_length (record_in p).bytes (l.none c);
        count = rw count_is (below_at 256 bs 0 (omega arith) pairs_below);
        checksum = below_at 256 bs (count_in p) (omega arith) pairs_below;
      }
