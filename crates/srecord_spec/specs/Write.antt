-- The text of an image (02, N1), and what `write_records` answers and leaves.
use Rattle.std.specs.Prelude.{List, [], ◌∷◌, ◌++◌, ℕ, zero, suc, ◌+◌, ◌/◌, ◌^◌, leb, length, take, drop}
use Rattle.encode_spec.specs.Encode as bytes
use Rattle.sheet_spec.specs.Sheet.{end_of}
use Rattle.sheet_spec.specs.Translate.{Outcome, in_order, refused, and_then, require, image_as}
use Rattle.srecord_spec.specs.declared.Written.{Written}
use Rattle.srecord_spec.specs.Record.{SRecord, checksum_of, spell_record}

-- a record with its checksum
unfoldable pub summed : ℕ → ℕ → List ℕ → SRecord
summed t a bs =
    record { type = t; address = a; bytes = bs; checksum = checksum_of (record { type = t; address = a; bytes = bs; checksum = 0 }) }

-- n S3 records of 32 data bytes, the last with what remains
abbrev pub data_records : ℕ → ℕ → List ℕ → List SRecord
data_records zero a bs = []
data_records (suc n) a bs = summed 3 a (take 32 bs) ∷ data_records n (a + 32) (drop 32 bs)

-- as many as the bytes need, and an S7 with the start
abbrev pub records_for : ℕ → List ℕ → List SRecord
records_for start bs = data_records ((length bs + 31) / 32) start bs ++ (summed 7 start [] ∷ [])

-- each record ended by LF
abbrev pub text_of : List SRecord → List ℕ
text_of [] = []
text_of (r ∷ rs) = spell_record r ++ (10 ∷ []) ++ text_of rs

-- the text of an image, each word high byte first
unfoldable pub image_text : ℕ → List ℕ → List ℕ
image_text start image = text_of (records_for start (bytes.bytes_in image))

-- an end above 2^32 gives 9, then a lent text too short 11
unfoldable pub write_outcome : ℕ → List ℕ → ℕ → Outcome
write_outcome start image room =
    and_then (require (leb (end_of start (length image)) (2 ^ 32)) 9) (require (leb (length (image_text start image)) room) 11)

abbrev pub written_as : Outcome → ℕ → Written
written_as in_order count = record { count = count; number = 0 }
written_as (refused number line detail value) count = record { count = 0; number = number }

-- the answer, and what the lent text then is: unchanged where refused, and past what is written
unfoldable pub written_of : ℕ → List ℕ → ℕ → Written
written_of start image room = written_as (write_outcome start image room) (length (image_text start image))

unfoldable pub text_left : ℕ → List ℕ → List ℕ → List ℕ
text_left start image lent = image_as (write_outcome start image (length lent)) (image_text start image) lent
