-- What the code makes of a line.
use Rattle.std.specs.Prelude.{Bool, true, false, cond, ◌&&◌, ◌||◌, List, ℕ, ◌+◌, ◌*◌, ◌-◌, ◌%◌, ◌^◌, eqb, leb, ltb, length}
use Rattle.sheet_spec.specs.Sheet.{total}
use Rattle.srecord_spec.specs.Record.{are_pairs, pair_bytes, closes, checksum_of, record_in, is_record}
use Rattle.srecord_read.specs.declared.Record.{Record}

-- the low byte of a and the bytes that digits write; 256 where they are no pairs of digits
abbrev pub sum_of : ℕ → List ℕ → ℕ
sum_of a ds = cond (are_pairs ds) ((a + total (pair_bytes ds)) % 256) 256

abbrev pub form_of : ℕ → ℕ → ℕ → ℕ → ℕ → ℕ → Bool
form_of first digit width sum count n =
    eqb first 83 && leb 1 width && ltb sum 256 && eqb n (4 + 2 * count) && leb (width + 1) count && eqb ((count + width) % 2) 1 && (ltb digit 55 || eqb count (width + 1))

abbrev pub no_record : Record
no_record = record { form = false; right = false; closing = false; address = 0; size = 0 }

abbrev pub record_says : List ℕ → Record
record_says p =
    record {
      form = true;
      right = eqb (record_in p).checksum (checksum_of (record_in p));
      closing = closes (record_in p).type;
      address = (record_in p).address;
      size = length (record_in p).bytes;
    }

unfoldable pub line_says : List ℕ → Record
line_says p = cond (is_record p) (record_says p) no_record

-- a record stands where it is due
abbrev pub is_due : Record → ℕ → ℕ → Bool
is_due r start next = cond r.closing (eqb r.address start) (eqb r.address next && leb r.size (2 ^ 32 - r.address))

-- the number of its refusal, 0 where it is accepted
unfoldable pub refusal_number : Record → ℕ → ℕ → ℕ
refusal_number r start next = cond r.form (cond r.right (cond (is_due r start next) 0 14) 13) 12
