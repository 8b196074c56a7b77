-- Laws of a line: what the code tests and takes is what its record is. Assumes nothing.
use Rattle.std.specs.Prelude.{◌≡◌, Bool, true, false, cond, not, ◌&&◌, ◌||◌, List, [], ◌∷◌, eqb, ltb, length, take, drop, get_or}
use Rattle.std.proofs.Math.Path.{refl, sym, ap}
use Rattle.std.proofs.Common.{◌∙◌, length-take, length-drop, take_all, lt-ltb, eq-eqb, ne_eqb, le-leb}
use Rattle.std.proofs.Math.Bool.{and-false}
use Prim.Native.Nat.{ℕ, suc, ◌+◌, ◌*◌, ◌-◌, ◌%◌, ◌^◌, ◌≤◌, ◌<◌}
use native.Mathlib.Omega.{arith}
use Rattle.std.proofs.Math.Nat.{pow-le-pow_right}
use Rattle.std.proofs.Math.Dec.{leb}
use Rattle.std.proofs.lemmas.Bool.{lt-leb}
use Rattle.base_facts.specs.Tests.{and-true, never, cond_true, cond_false, lt?, Lt, less, past, eq?, Eq, same, other}
use Rattle.sheet_spec.specs.Sheet.{total}
use Rattle.srecord_spec.specs.Record.{digit_value, is_hex_digit, are_pairs, pair_bytes, number_from, address_width, closes, address_and_data, count_of, checksum_of, record_in, is_record}
use Rattle.srecord_facts.specs.Bytes.{total_append, twice, twice-is}
use Rattle.srecord_facts.specs.Digits.{pair_length}
use Rattle.srecord_facts.specs.Lines.{type_right, digits_right, count_right, room_right, even_right, none_right, SizedLine, sized_is, line_is, line_bytes_lem, line_form}
use Rattle.srecord_read.specs.declared.Record.{Record}
use Rattle.srecord_read.specs.Line.{sum_of, form_of, no_record, record_says, line_says, is_due, refusal_number}
use Rattle.srecord_read.specs.PairLaws.{pair_take, width-most}

-- ---- tests
pub and_step : (x y a b : Bool) → x ≡ y → (y ≡ true → a ≡ b) → x && a ≡ y && b
and_step x true a b e f = rw (e, f refl)
and_step x false a b e f = rw e

pub eqb_iff : (a b c d : ℕ) → (a ≡ b → c ≡ d) → (c ≡ d → a ≡ b) → eqb a b ≡ eqb c d
eqb_iff a b c d f g = go (eq? a b)
  where
    go : Eq a b → eqb a b ≡ eqb c d
    go (same e t) = t ∙ sym (eq-eqb c d (f e))
    go (other n t) = t ∙ sym (ne_eqb c d (λ e. n (g e)))

opens : (t : ℕ) → ltb t 55 ≡ not (closes (t - 48))
opens t = go (lt? t 55)
  where
    go : Lt t 55 → ltb t 55 ≡ not (closes (t - 48))
    go (less l e) = rw (e, lt-leb 7 (t - 48) (omega arith))
    go (past l e) = rw (e, le-leb 7 (t - 48) (omega arith))

closes-is : (t : ℕ) → leb 55 t ≡ closes (t - 48)
closes-is t = go (lt? t 55)
  where
    go : Lt t 55 → leb 55 t ≡ closes (t - 48)
    go (less l e) = rw (lt-leb 55 t l, lt-leb 7 (t - 48) (omega arith))
    go (past l e) = rw (le-leb 55 t l, le-leb 7 (t - 48) (omega arith))

-- ---- a line of four bytes and more
module _ (s t x y : ℕ) (ds : List ℕ) where
  abbrev p : List ℕ
  p = s ∷ (t ∷ (x ∷ (y ∷ ds)))

  abbrev w : ℕ
  w = address_width (t - 48)

  abbrev count : ℕ
  count = digit_value x * 16 + digit_value y

  abbrev bs : List ℕ
  bs = pair_bytes ds

  abbrev sum : ℕ
  sum = sum_of 0 (x ∷ (y ∷ ds))

  pub data_is : (record_in p).bytes ≡ take (count - (w + 1)) (drop w bs)
  unfolding record_in
  data_is = let q : 1 + w ≡ suc w = omega arith in rw q

  address_is : (record_in p).address ≡ number_from 0 (take w bs)
  unfolding record_in
  address_is = refl

  type_is : (record_in p).type ≡ t - 48
  unfolding record_in
  type_is = refl

  data_length : SizedLine p → length (record_in p).bytes ≡ count - (w + 1)
  data_length g = rw (data_is, length-take, length-drop) (omega (arith, g.all))

  pairs_sum : ltb sum 256 ≡ are_pairs (x ∷ (y ∷ ds))
  pairs_sum = go (are_pairs (x ∷ (y ∷ ds)))
    where
      go : (b : Bool) → ltb (cond b ((0 + total (pair_bytes (x ∷ (y ∷ ds)))) % 256) 256) 256 ≡ b
      go true = lt-ltb ((0 + total (pair_bytes (x ∷ (y ∷ ds)))) % 256) 256 (omega arith)
      go false = refl

  pub rest_pairs : are_pairs (x ∷ (y ∷ ds)) ≡ true → are_pairs ds ≡ true
  rest_pairs h = (and-true (is_hex_digit x && is_hex_digit y) (are_pairs ds) h).1

  form : form_of s t w sum count (length p) ≡ even_right p && none_right p
  form =
      let e3 : type_right p && ltb sum 256 ≡ digits_right p = rw pairs_sum in
      let e4 : type_right p && ltb sum 256 && eqb (length p) (4 + 2 * count) ≡ count_right p =
      and_step (type_right p && ltb sum 256) (digits_right p) (eqb (length p) (4 + 2 * count)) (eqb (suc (length bs)) (1 + count)) e3
      (λ h.
      let n = pair_length ds (rest_pairs (and-true (type_right p) (are_pairs (x ∷ (y ∷ ds))) h).1) in
      eqb_iff (length p) (4 + 2 * count) (suc (length bs)) (1 + count) (λ e. omega arith) (λ e. omega arith)) in
      let e5 : type_right p && ltb sum 256 && eqb (length p) (4 + 2 * count) && leb (w + 1) count ≡ room_right p = ap (λ (b : Bool). b && leb (w + 1) count) e4 in
      let e6 =
      and_step (type_right p && ltb sum 256 && eqb (length p) (4 + 2 * count) && leb (w + 1) count) (room_right p) (eqb ((count + w) % 2) 1) (eqb (length (record_in p).bytes % 2) 0) e5
      (λ h.
      let g = sized_is p h in
      let n = data_length g in
      eqb_iff ((count + w) % 2) 1 (length (record_in p).bytes % 2) 0 (λ e. omega (arith, g.least)) (λ e. omega (arith, g.least))) in
      and_step (type_right p && ltb sum 256 && eqb (length p) (4 + 2 * count) && leb (w + 1) count && eqb ((count + w) % 2) 1) (even_right p) (ltb t 55 || eqb count (w + 1))
      (none_right p) e6
      (λ h.
      let g = sized_is p (and-true (room_right p) (eqb (length (record_in p).bytes % 2) 0) h).0 in
      let n = data_length g in
      let q : eqb count (w + 1) ≡ eqb (length (record_in p).bytes) 0 = eqb_iff count (w + 1) (length (record_in p).bytes) 0 (λ e. omega arith) (λ e. omega (arith, g.least)) in
      rw (opens t, q))

  pub form_is : form_of s t w sum count (length p) ≡ is_record p
  unfolding is_record
  form_is = form

  module _ (is : is_record p ≡ true) where
    pub bytes_count : length (record_in p).bytes ≡ count - w - 1
    bytes_count = omega (arith, data_length (line_is p is).sized)

    pub address_below : (record_in p).address < 2 ^ 32
    address_below =
        let m : 256 ^ w ≤ 256 ^ 4 = pow-le-pow_right (omega arith) (width-most (t - 48)) in
        omega (arith, rw type_is at (line_form p (line_is p is)).address)

    pub right_is : eqb sum 255 ≡ eqb (record_in p).checksum (checksum_of (record_in p))
    unfolding checksum_of
    right_is =
        let l = line_is p is in
        let r = record_in p in
        let e = ap total (line_bytes_lem p l) in
        let a = total_append (address_and_data r) (r.checksum ∷ []) in
        let m = (line_form p l).checksum in
        rw l.sized.pairs
        (eqb_iff ((0 + (count + total bs)) % 256) 255 r.checksum (255 - (count_of r + total (address_and_data r)) % 256) (λ h. omega arith) (λ h. omega arith))

    address_digits : number_from 0 (pair_bytes (take (4 + 2 * w - 4) ds)) % 2 ^ 32 ≡ (record_in p).address
    address_digits =
        let q : 4 + 2 * w - 4 ≡ twice w = omega (arith, twice-is w) in
        let l : (record_in p).address % 2 ^ 32 ≡ (record_in p).address = omega (arith, address_below) in
        rw (q, pair_take w ds, ← address_is) l

    pub says : record { form = true; right = eqb sum 255; closing = leb 55 t; address = number_from 0 (pair_bytes (take (4 + 2 * w - 4) ds)) % 2 ^ 32; size = count - w - 1 } ≡ line_says p
    unfolding line_says
    says =
        let c : leb 55 t ≡ closes (record_in p).type = closes-is t ∙ ap closes (sym type_is) in
        rw is (λ i. record { form = true; right = right_is i; closing = c i; address = address_digits i; size = sym bytes_count i })

-- ---- any line
abbrev pub width_in : List ℕ → ℕ
width_in p = address_width (get_or p 1 0 - 48)

abbrev pub count_at : List ℕ → ℕ
count_at p = digit_value (get_or p 2 0) * 16 + digit_value (get_or p 3 0)

pub short : (p : List ℕ) → length p < 4 → is_record p ≡ false
unfolding is_record
short [] h = refl
short (s ∷ []) h = simp and-false
short (s ∷ (t ∷ [])) h = simp and-false
short (s ∷ (t ∷ (x ∷ []))) h = simp and-false
short (s ∷ (t ∷ (x ∷ (y ∷ ds)))) h = absurd (omega arith)

pub short_says : (p : List ℕ) → length p < 4 → line_says p ≡ no_record
unfolding line_says
short_says p h = rw (short p h)

pub no_says : (p : List ℕ) → is_record p ≡ false → line_says p ≡ no_record
unfolding line_says
no_says p h = rw h

pub yes_says : (p : List ℕ) → is_record p ≡ true → line_says p ≡ record_says p
unfolding line_says
yes_says p h = rw h

pub form_of_lem : (p : List ℕ) → 4 ≤ length p → form_of (get_or p 0 0) (get_or p 1 0) (width_in p) (sum_of 0 (drop 2 p)) (count_at p) (length p) ≡ is_record p
form_of_lem [] h = absurd (omega arith)
form_of_lem (s ∷ []) h = absurd (omega arith)
form_of_lem (s ∷ (t ∷ [])) h = absurd (omega arith)
form_of_lem (s ∷ (t ∷ (x ∷ []))) h = absurd (omega arith)
form_of_lem (s ∷ (t ∷ (x ∷ (y ∷ ds)))) h = form_is s t x y ds

pub form_says : (p : List ℕ) → 4 ≤ length p → is_record p ≡ true
    → record { form = true; right = eqb (sum_of 0 (drop 2 p)) 255; closing = leb 55 (get_or p 1 0); address = number_from 0 (pair_bytes (take (4 + 2 * width_in p - 4) (drop 4 p))) % 2 ^ 32; size = count_at p - width_in p - 1 }
    ≡ line_says p
form_says [] h is = absurd (omega arith)
form_says (s ∷ []) h is = absurd (omega arith)
form_says (s ∷ (t ∷ [])) h is = absurd (omega arith)
form_says (s ∷ (t ∷ (x ∷ []))) h is = absurd (omega arith)
form_says (s ∷ (t ∷ (x ∷ (y ∷ ds)))) h is = says s t x y ds is

-- what a record in form is
pub record Formed (p : List ℕ) : Type 0 where
  pub size : length p ≡ 4 + 2 * count_at p
  pub room : width_in p + 1 ≤ count_at p
  pub even_bytes : length (record_in p).bytes % 2 ≡ 0
  pub no_bytes : closes (record_in p).type ≡ true → length (record_in p).bytes ≡ 0
  pub address : (record_in p).address < 2 ^ 32

pub formed : (p : List ℕ) → is_record p ≡ true → Formed p
formed [] is = never (sym (short [] (omega arith)) ∙ is)
formed (s ∷ []) is = never (sym (short (s ∷ []) (omega arith)) ∙ is)
formed (s ∷ (t ∷ [])) is = never (sym (short (s ∷ (t ∷ [])) (omega arith)) ∙ is)
formed (s ∷ (t ∷ (x ∷ []))) is = never (sym (short (s ∷ (t ∷ (x ∷ []))) (omega arith)) ∙ is)
formed (s ∷ (t ∷ (x ∷ (y ∷ ds)))) is =
    let l = line_is (s ∷ (t ∷ (x ∷ (y ∷ ds)))) is in
    let n = pair_length ds (rest_pairs s t x y ds l.sized.pairs) in
    record {
      size = omega (arith, l.sized.all);
      room = l.sized.least;
      even_bytes = l.even;
      no_bytes = λ c. l.none (rw (type_is s t x y ds) at c);
      address = address_below s t x y ds is;
    }

-- ---- as the code has it: by the width, the sum and the count that it found
module _ (p : List ℕ) (width sum-found count-found : ℕ) (h : 4 ≤ length p) (e : width ≡ width_in p)
    (f : sum-found ≡ sum_of 0 (take (length p - 2) (drop 2 p))) (g : count-found ≡ count_at p) where
  all_digits : take (length p - 2) (drop 2 p) ≡ drop 2 p
  all_digits = take_all (length p - 2) (drop 2 p) (rw length-drop (omega arith))

  module _ (b : Bool) (q : b ≡ form_of (get_or p 0 0) (get_or p 1 0) width sum-found count-found (length p)) where
    form_found : b ≡ is_record p
    form_found = q ∙ rw (e, f, g, all_digits) (form_of_lem p h)

    pub none_found : b ≡ false → line_says p ≡ no_record
    none_found t = no_says p (sym form_found ∙ t)

    module _ (t : b ≡ true) where
      pub formed_found : Formed p
      formed_found = formed p (sym form_found ∙ t)

      pub says_found : (a : ℕ) → a ≡ number_from 0 (pair_bytes (take (4 + 2 * width - 4) (drop 4 p))) % 2 ^ 32
          → record { form = true; right = eqb sum-found 255; closing = leb 55 (get_or p 1 0); address = a; size = count-found - width - 1 } ≡ line_says p
      says_found a s = rw (s, e, f, g, all_digits) (form_says p h (sym form_found ∙ t))

-- ---- the number of a record's refusal
module _ (r : Record) (start next : ℕ) where
  pub refused_form : r.form ≡ false → 12 ≡ refusal_number r start next
  unfolding refusal_number
  refused_form e = sym (cond_false r.form (cond r.right (cond (is_due r start next) 0 14) 13) 12 e)

  module _ (f : r.form ≡ true) where
    in_form : refusal_number r start next ≡ cond r.right (cond (is_due r start next) 0 14) 13
    unfolding refusal_number
    in_form = cond_true r.form (cond r.right (cond (is_due r start next) 0 14) 13) 12 f

    pub refused_sum : r.right ≡ false → 13 ≡ refusal_number r start next
    refused_sum e = sym (in_form ∙ cond_false r.right (cond (is_due r start next) 0 14) 13 e)

    pub refused-due : r.right ≡ true → (b : Bool) → b ≡ is_due r start next → cond b 0 14 ≡ refusal_number r start next
    refused-due e b g = ap (λ (t : Bool). cond t 0 14) g ∙ sym (in_form ∙ cond_true r.right (cond (is_due r start next) 0 14) 13 e)
