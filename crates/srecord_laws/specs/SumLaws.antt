-- A spelling has one record; the bytes of every written record add up to 255, and where those of a line do, its checksum is right. Assumes nothing.
use Rattle.std.specs.Prelude.{◌≡◌, true, List, [], ◌∷◌, ◌++◌, map, ℕ, zero, suc, ◌+◌, ◌-◌, ◌/◌, ◌%◌, ◌<◌, length, take, drop, replicate}
use Rattle.std.proofs.Common.{sym, ap, ◌∙◌, arith}
use Rattle.sheet_spec.specs.Sheet.{total}
use Rattle.srecord_spec.specs.Record.{SRecord, address_and_data, count_of, checksum_of, record_bytes, spell_record, line_bytes, record_in, is_record}
use Rattle.srecord_spec.specs.Write.{summed, data_records, records_for}
use Rattle.srecord_spec.specs.Promises.{InForm}
use Rattle.srecord_laws.specs.RecordLaws.{spelled-bytes, record_complete, record_sound, record_sum}
use Rattle.srecord_facts.specs.Bytes.{total_append}
use Rattle.srecord_laws.specs.ReadBack.{summed_sum}

pub one-spelling : (r s : SRecord) → InForm r → InForm s → spell_record r ≡ spell_record s → r ≡ s
one-spelling r s f g e = sym (record_complete r f).1 ∙ ap record_in e ∙ (record_complete s g).1

-- ---- what is written
summed-total : (t a : ℕ) (bs : List ℕ) → total (record_bytes (summed t a bs)) % 256 ≡ 255
summed-total t a bs = record_sum (summed t a bs) (summed_sum t a bs)

data_sum : (n a start : ℕ) (bs : List ℕ)
    → map (λ r. total (record_bytes r) % 256) (data_records n a bs ++ (summed 7 start [] ∷ []))
    ≡ replicate (length (data_records n a bs ++ (summed 7 start [] ∷ []))) 255
data_sum zero a start bs = λ i. summed-total 7 start [] i ∷ []
data_sum (suc n) a start bs = λ i. summed-total 3 a (take 32 bs) i ∷ data_sum n (a + 32) start (drop 32 bs) i

pub written_sum : (start : ℕ) (bs : List ℕ) → map (λ r. total (record_bytes r) % 256) (records_for start bs) ≡ replicate (length (records_for start bs)) 255
written_sum start bs = data_sum ((length bs + 31) / 32) start start bs

-- ---- what is read
complemented : (s k : ℕ) → k < 256 → (s + k) % 256 ≡ 255 → k ≡ 255 - s % 256
complemented s k h e = omega arith

record_right : (r : SRecord) → r.checksum < 256 → total (record_bytes r) % 256 ≡ 255 → r.checksum ≡ checksum_of r
unfolding checksum_of
record_right r h e =
    let t : total (record_bytes r) ≡ count_of r + total (address_and_data r) + r.checksum = omega (arith, total_append (address_and_data r) (r.checksum ∷ [])) in
    complemented (count_of r + total (address_and_data r)) r.checksum h (ap (λ (n : ℕ). n % 256) (sym t) ∙ e)

pub sum_right : (p : List ℕ) → is_record p ≡ true → total (line_bytes p) % 256 ≡ 255 → (record_in p).checksum ≡ checksum_of (record_in p)
sum_right p e s =
    let t = record_sound p e in
    let b : record_bytes (record_in p) ≡ line_bytes p = sym (spelled-bytes (record_in p) t.0) ∙ ap line_bytes t.1 in
    record_right (record_in p) t.0.checksum (ap (λ (bs : List ℕ). total bs % 256) b ∙ s)
