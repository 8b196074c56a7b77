-- The definitions at work.
use Rattle.std.specs.Prelude.{◌≡◌, refl, true, List, [], ◌∷◌, ◌++◌, ℕ, length}
use Rattle.srecord_spec.specs.Record.{checksum_of, record_in, is_record}
use Rattle.srecord_spec.specs.Read.{text_outcome, read_outcome, loaded_of, image_left}
use Rattle.srecord_read.specs.Text.{refused_as}

-- S1137AF00A0A0D0000000000000000000000000061
known : List ℕ
known = 83 ∷ 49 ∷ 49 ∷ 51 ∷ 55 ∷ 65 ∷ 70 ∷ 48 ∷ 48 ∷ 65 ∷ 48 ∷ 65 ∷ 48 ∷ 68 ∷ 48 ∷ 48 ∷ 48 ∷ 48 ∷ 48 ∷ 48 ∷ 48 ∷ 48 ∷ 48 ∷ 48 ∷ 48 ∷ 48 ∷ 48 ∷ 48 ∷ 48 ∷ 48 ∷ 48 ∷ 48 ∷ 48 ∷ 48 ∷ 48 ∷ 48 ∷ 48 ∷ 48 ∷ 48 ∷ 48 ∷ 54 ∷ 49 ∷ []

known_is : (is_record known ≡ true) × ((record_in known).address ≡ 31472) × (length (record_in known).bytes ≡ 16) × ((record_in known).checksum ≡ 97) × (checksum_of (record_in known) ≡ 97)
unfolding known is_record record_in checksum_of
known_is = (refl, refl, refl, refl, refl)

-- S10500001234B4, S9030000FC, S9030000FD, S9030002FA, each with its LF
word : List ℕ
word = 83 ∷ 49 ∷ 48 ∷ 53 ∷ 48 ∷ 48 ∷ 48 ∷ 48 ∷ 49 ∷ 50 ∷ 51 ∷ 52 ∷ 66 ∷ 52 ∷ 10 ∷ []

closing : List ℕ
closing = 83 ∷ 57 ∷ 48 ∷ 51 ∷ 48 ∷ 48 ∷ 48 ∷ 48 ∷ 70 ∷ 67 ∷ 10 ∷ []

wrong_sum : List ℕ
wrong_sum = 83 ∷ 57 ∷ 48 ∷ 51 ∷ 48 ∷ 48 ∷ 48 ∷ 48 ∷ 70 ∷ 68 ∷ 10 ∷ []

wrong_start : List ℕ
wrong_start = 83 ∷ 57 ∷ 48 ∷ 51 ∷ 48 ∷ 48 ∷ 48 ∷ 50 ∷ 70 ∷ 65 ∷ 10 ∷ []

-- one word; no words
accepted : (loaded_of (word ++ closing) 1 ≡ record { start = 0; words = 1; number = 0; line = 0 }) × (image_left (word ++ closing) (7 ∷ 8 ∷ []) ≡ 4660 ∷ 8 ∷ [])
    × (loaded_of closing 0 ≡ record { start = 0; words = 0; number = 0; line = 0 })
unfolding word closing loaded_of image_left read_outcome text_outcome record_in is_record checksum_of
accepted = (refl, refl, refl)

-- a record is wanting, stands after the closing one or begins where it is not due; the sum, the start, the room
refusals : (loaded_of [] 1 ≡ refused_as 12 1) × (loaded_of word 1 ≡ refused_as 12 2) × (loaded_of (closing ++ word) 1 ≡ refused_as 12 2) × (loaded_of (word ++ word) 2 ≡ refused_as 14 2)
    × (loaded_of (word ++ wrong_sum) 1 ≡ refused_as 13 2) × (loaded_of (word ++ wrong_start) 1 ≡ refused_as 14 2) × (loaded_of (word ++ closing) 0 ≡ refused_as 11 0)
unfolding word closing wrong_sum wrong_start loaded_of read_outcome text_outcome record_in is_record checksum_of
refusals = (refl, refl, refl, refl, refl, refl, refl)
