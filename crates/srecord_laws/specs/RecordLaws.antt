-- A line in the form is the spelling of exactly one record, and its bytes add up to 255 where its checksum is right. Assumes nothing.
use Rattle.std.specs.Prelude.{◌≡◌, refl, true, take, drop}
use Rattle.std.proofs.Common.{sym, ◌∙◌, length-append, take_at, drop_at}
use Rattle.std.proofs.Math.Path.{ap}
use mathlib.Core.List.{List, [], ◌∷◌, ◌++◌, append_assoc}
use Prim.Native.Nat.{ℕ, zero, suc, ◌+◌, ◌-◌, ◌%◌, ◌≤◌}
use native.Mathlib.Omega.{arith}
use Rattle.std.proofs.Math.ListN.{length, get_or}
use Rattle.std.proofs.Math.Seq.{get_or-append_seam}
use Rattle.sheet_spec.specs.Sheet.{total}
use Rattle.srecord_spec.specs.Record.{SRecord, address_width, closes, bytes_to, address_and_data, count_of, checksum_of, record_bytes, digits_of, spell_record, number_from, line_bytes, count_in, type_in, record_in, is_record}
use Rattle.srecord_spec.specs.Promises.{AllBelow, InForm}
use Rattle.srecord_facts.specs.Bytes.{below_append, total_append, bytes_length, bytes_below, number_back}
use Rattle.srecord_facts.specs.Digits.{digits_pairs, digits_back, pairs_again}
use Rattle.srecord_facts.specs.Lines.{RecordLine, is_line, line_is, address_data_length, line_bytes_lem, line_form}

-- ---- a type and the bytes behind it, as a record
abbrev record_from : ℕ → List ℕ → SRecord
record_from t bs =
    record {
      type = t;
      address = number_from 0 (take (address_width t) (drop 1 bs));
      bytes = take (get_or bs 0 0 - (address_width t + 1)) (drop (1 + address_width t) bs);
      checksum = get_or bs (get_or bs 0 0) 0;
    }

record_from_lem : (p : List ℕ) → record_in p ≡ record_from (type_in p) (line_bytes p)
unfolding record_in
record_from_lem p = refl

-- ---- from a record to its line and back
module _ (r : SRecord) (f : InForm r) where
  all-below : AllBelow 256 (record_bytes r)
  all-below =
      let c = below_append 256 (bytes_to (address_width r.type) r.address) r.bytes (bytes_below (address_width r.type) r.address) f.bytes in
      (f.count, below_append 256 (address_and_data r) (r.checksum ∷ []) c (f.checksum, tt))

  spelled_type : type_in (spell_record r) ≡ r.type
  unfolding spell_record
  spelled_type = omega arith

  pub spelled-bytes : line_bytes (spell_record r) ≡ record_bytes r
  unfolding spell_record
  spelled-bytes = digits_back (record_bytes r) all-below

  from_bytes : record_from r.type (record_bytes r) ≡ r
  from_bytes =
      let w = address_width r.type in
      let a = bytes_to w r.address in
      let k = r.checksum ∷ [] in
      let s : address_and_data r ++ k ≡ a ++ (r.bytes ++ k) = append_assoc a r.bytes k in
      let n : count_of r - (w + 1) ≡ length r.bytes = omega (arith, address_data_length r) in
      let one : 1 + w ≡ suc w = omega arith in
      let c : count_of r ≡ suc (length (address_and_data r)) = omega arith in
      let t : take w (address_and_data r ++ k) ≡ a = ap (take w) s ∙ take_at a (r.bytes ++ k) w (bytes_length w r.address) in
      let d : drop (1 + w) (record_bytes r) ≡ r.bytes ++ k =
      ap (λ (m : ℕ). drop m (record_bytes r)) one ∙ ap (drop w) s ∙ drop_at a (r.bytes ++ k) w (bytes_length w r.address) in
      let p : number_from 0 (take w (address_and_data r ++ k)) ≡ r.address = ap (number_from 0) t ∙ number_back w r.address f.address in
      let q : take (count_of r - (w + 1)) (drop (1 + w) (record_bytes r)) ≡ r.bytes = (λ i. take (n i) (d i)) ∙ take_at r.bytes k (length r.bytes) refl in
      let z : get_or (record_bytes r) (count_of r) 0 ≡ r.checksum = ap (λ (m : ℕ). get_or (record_bytes r) m 0) c ∙ get_or-append_seam (address_and_data r) r.checksum [] 0 in
      λ i. record { type = r.type; address = p i; bytes = q i; checksum = z i }

  spelled_record : record_in (spell_record r) ≡ r
  spelled_record = record_from_lem (spell_record r) ∙ (λ i. record_from (spelled_type i) (spelled-bytes i)) ∙ from_bytes

  spelled_line_lem : RecordLine (spell_record r)
  unfolding spell_record
  spelled_line_lem =
      let w = address_width r.type in
      let c : count_in (spell_record r) ≡ count_of r = ap (λ (bs : List ℕ). get_or bs 0 0) spelled-bytes in
      let l : length (line_bytes (spell_record r)) ≡ 1 + (length (address_and_data r) + 1) =
      ap length spelled-bytes ∙ ap suc (length-append (address_and_data r) (r.checksum ∷ [])) ∙ omega arith in
      let e : (record_in (spell_record r)).bytes ≡ r.bytes = ap (λ (s : SRecord). s.bytes) spelled_record in
      let t : type_in (spell_record r) ≡ r.type = spelled_type in
      let u : address_width (type_in (spell_record r)) ≡ w = ap address_width t in
      record {
        sized =
            record {
              letter = refl;
              known = rw u f.known;
              pairs = digits_pairs (record_bytes r);
              all = l ∙ ap (λ (n : ℕ). 1 + n) (sym c);
              least = rw (u, c) (omega (arith, address_data_length r));
            };
        even = ap (λ (bs : List ℕ). length bs % 2) e ∙ f.even;
        none = λ x. ap length (e ∙ f.none (ap closes (sym t) ∙ x));
      }

pub record_complete : (r : SRecord) → InForm r → (is_record (spell_record r) ≡ true) × (record_in (spell_record r) ≡ r)
record_complete r f = (is_line (spell_record r) (spelled_line_lem r f), spelled_record r f)

-- ---- from a line to its record and back
known_type : (t : ℕ) → 1 ≤ address_width t → 1 ≤ t
known_type zero h = absurd (omega arith)
known_type (suc t) h = omega arith

line_text_lem : (p : List ℕ) → get_or p 0 0 ≡ 83 → 1 ≤ type_in p → 83 ∷ (48 + type_in p) ∷ drop 2 p ≡ p
line_text_lem [] e h = absurd (omega arith)
line_text_lem (a ∷ []) e h = absurd (omega arith)
line_text_lem (a ∷ (b ∷ ds)) e h = let t : 48 + (b - 48) ≡ b = omega arith in λ i. sym e i ∷ t i ∷ ds

line_spelled : (p : List ℕ) → RecordLine p → spell_record (record_in p) ≡ p
unfolding spell_record
line_spelled p l =
    let t : (record_in p).type ≡ type_in p = ap (λ (s : SRecord). s.type) (record_from_lem p) in
    let d : digits_of (record_bytes (record_in p)) ≡ drop 2 p = ap digits_of (line_bytes_lem p l) ∙ (pairs_again (drop 2 p) l.sized.pairs).0 in
    (λ i. 83 ∷ (48 + t i) ∷ d i) ∙ line_text_lem p l.sized.letter (known_type (type_in p) l.sized.known)

pub record_sound : (p : List ℕ) → is_record p ≡ true → InForm (record_in p) × (spell_record (record_in p) ≡ p)
record_sound p e = let l = line_is p e in (line_form p l, line_spelled p l)

-- ---- sums
complement : (s k : ℕ) → k ≡ 255 - s % 256 → (s + k) % 256 ≡ 255
complement s k e = omega arith

pub record_sum : (r : SRecord) → r.checksum ≡ checksum_of r → total (record_bytes r) % 256 ≡ 255
unfolding checksum_of
record_sum r e =
    let t : total (record_bytes r) ≡ count_of r + total (address_and_data r) + r.checksum = omega (arith, total_append (address_and_data r) (r.checksum ∷ [])) in
    ap (λ (n : ℕ). n % 256) t ∙ complement (count_of r + total (address_and_data r)) r.checksum e

pub line_sum : (p : List ℕ) → is_record p ≡ true → (record_in p).checksum ≡ checksum_of (record_in p) → total (line_bytes p) % 256 ≡ 255
line_sum p e s = ap (λ (bs : List ℕ). total bs % 256) (sym (line_bytes_lem p (line_is p e))) ∙ record_sum (record_in p) s
