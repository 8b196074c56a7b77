-- The reading of a text of S-records (02, N1), and what `read_records` answers and leaves.
use Rattle.std.specs.Prelude.{Bool, cond, ◌&&◌, List, [], ◌∷◌, ◌++◌, ℕ, suc, ◌+◌, ◌*◌, ◌^◌, eqb, leb, pos, length, get_or}
use Rattle.base_spec.specs.Parts.{parts}
use Rattle.sheet_spec.specs.Translate.{Outcome, in_order, refused, and_then, require, image_as}
use Rattle.srecord_spec.specs.declared.Loaded.{Loaded}
use Rattle.srecord_spec.specs.Record.{SRecord, closes, checksum_of, record_in, is_record}

-- refused at record k where a test fails
abbrev pub require_at : ℕ → Bool → ℕ → Outcome
require_at k b number = cond b in_order (refused number k 0 (pos 0))

-- nothing stands behind the LF of the closing record
abbrev pub is_end : List ℕ → List (List ℕ) → Bool
is_end q qs = eqb (length q + length qs) 0

-- a record is spelled right: 12, then 13
abbrev pub record_outcome : ℕ → List ℕ → Outcome
record_outcome k p = and_then (require_at k (is_record p) 12) (require_at k (eqb (record_in p).checksum (checksum_of (record_in p))) 13)

-- it begins where the last ended and does not pass 2^32
abbrev pub is_next : ℕ → SRecord → Bool
is_next next r = eqb r.address next && leb (next + length r.bytes) (2 ^ 32)

-- records from record k on, where the data begin at start and the next record is due at next; the text parted by LF, so that its last part is no record:
-- one is wanting there, or has no LF. A closing record names the start again, and nothing stands after it
abbrev pub records_from : ℕ → ℕ → ℕ → List (List ℕ) → Outcome
records_from start next k [] = refused 12 k 0 (pos 0)
records_from start next k (p ∷ []) = refused 12 k 0 (pos 0)
records_from start next k (p ∷ (q ∷ qs)) =
    and_then (record_outcome k p)
    (cond (closes (record_in p).type)
    (and_then (require_at k (eqb (record_in p).address start) 14) (require_at (suc k) (is_end q qs) 12))
    (and_then (require_at k (is_next next (record_in p)) 14) (records_from start (next + length (record_in p).bytes) (suc k) (q ∷ qs))))

-- the start: the first record's address, a data record's or, without any, the closing one's
abbrev pub first_address : List (List ℕ) → ℕ
first_address ps = (record_in (get_or ps 0 [])).address

-- the image: the data of all records, each word high byte first
abbrev pub paired_words : List ℕ → List ℕ
paired_words [] = []
paired_words (a ∷ []) = []
paired_words (a ∷ (b ∷ bs)) = (a * 256 + b) ∷ paired_words bs

abbrev pub words_in : List (List ℕ) → List ℕ
words_in [] = []
words_in (p ∷ ps) = paired_words (record_in p).bytes ++ words_in ps

abbrev pub start_read : List ℕ → ℕ
start_read text = first_address (parts 10 text)

abbrev pub image_read : List ℕ → List ℕ
image_read text = words_in (parts 10 text)

-- every record, then lent memory too short
unfoldable pub text_outcome : List ℕ → Outcome
text_outcome text = records_from (start_read text) (start_read text) 1 (parts 10 text)

unfoldable pub read_outcome : List ℕ → ℕ → Outcome
read_outcome text room = and_then (text_outcome text) (require (leb (length (image_read text)) room) 11)

abbrev pub loaded_as : Outcome → ℕ → ℕ → Loaded
loaded_as in_order start words = record { start = start; words = words; number = 0; line = 0 }
loaded_as (refused number line detail value) start words = record { start = 0; words = 0; number = number; line = line }

-- the answer, and what the lent image then is: unchanged where refused, and past the words
unfoldable pub loaded_of : List ℕ → ℕ → Loaded
loaded_of text room = loaded_as (read_outcome text room) (start_read text) (length (image_read text))

unfoldable pub image_left : List ℕ → List ℕ → List ℕ
image_left text lent = image_as (read_outcome text (length lent)) (image_read text) lent
