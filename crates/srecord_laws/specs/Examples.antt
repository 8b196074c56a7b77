-- The definitions at work.
use Rattle.std.specs.Prelude.{◌≡◌, refl, List, [], ◌∷◌, ◌++◌, ℕ, replicate}
use Rattle.sheet_spec.specs.Names.{bytes}
use Rattle.srecord_spec.specs.declared.Written.{Written}
use Rattle.srecord_spec.specs.declared.Loaded.{Loaded}
use Rattle.srecord_spec.specs.Record.{checksum_of, spell_record, record_in, is_record}
use Rattle.srecord_spec.specs.Write.{summed, image_text, write_outcome, written_of, text_left}
use Rattle.srecord_spec.specs.Read.{image_read, text_outcome, read_outcome, loaded_of, image_left}

-- ---- written

-- the countdown of 01
abbrev countdown : List ℕ
countdown = 0x7005 ∷ 0x5340 ∷ 0x66FC ∷ 0x4E75 ∷ []

countdown_text : image_text 4096 countdown ≡ bytes "S30D000010007005534066FC4E75B5\nS70500001000EA\n"
unfolding image_text summed checksum_of spell_record
countdown_text = refl

-- an empty image; 34 bytes, two records; an odd start
other_texts : (image_text 4096 [] ≡ bytes "S70500001000EA\n")
    × (image_text 4096 (replicate 17 0)
    ≡ bytes "S325000010000000000000000000000000000000000000000000000000000000000000000000CA\nS307000010200000C8\nS70500001000EA\n")
    × (image_text 4097 (0x4E75 ∷ []) ≡ bytes "S307000010014E7524\nS70500001001E9\n")
unfolding image_text summed checksum_of spell_record
other_texts = (refl, refl, refl)

abbrev written : ℕ → Written
written count = record { count = count; number = 0 }

abbrev unwritten : ℕ → Written
unwritten number = record { count = 0; number = number }

-- all of it, one byte too few, an end at 2^32, an end above 2^32 before a text too short
written_answers : (written_of 4096 countdown 46 ≡ written 46) × (written_of 4096 countdown 45 ≡ unwritten 11)
    × (written_of 0xFFFFFFFE (0x4E75 ∷ []) 34 ≡ written 34) × (written_of 0xFFFFFFFF (0x4E75 ∷ []) 0 ≡ unwritten 9)
unfolding written_of write_outcome image_text summed checksum_of spell_record
written_answers = (refl, refl, refl, refl)

-- past the text and refused, lent bytes are unchanged
text_left_lem : (text_left 4096 [] (replicate 16 1) ≡ bytes "S70500001000EA\n" ++ (1 ∷ [])) × (text_left 4096 [] (1 ∷ 2 ∷ []) ≡ 1 ∷ 2 ∷ [])
unfolding text_left write_outcome image_text summed checksum_of spell_record
text_left_lem = (refl, refl)

-- ---- read

abbrev read : ℕ → ℕ → Loaded
read start words = record { start = start; words = words; number = 0; line = 0 }

abbrev refused_at : ℕ → ℕ → Loaded
refused_at number line = record { start = 0; words = 0; number = number; line = line }

countdown-read : (loaded_of (bytes "S30D000010007005534066FC4E75B5\nS70500001000EA\n") 4 ≡ read 4096 4)
    × (image_read (bytes "S30D000010007005534066FC4E75B5\nS70500001000EA\n") ≡ countdown)
unfolding loaded_of read_outcome text_outcome is_record record_in checksum_of
countdown-read = (refl, refl)

-- S1, S2, S3 and S9; S2, S1 and S8
mixes : (loaded_of (bytes "S1051000700575\nS206001002534054\nS3090000100466FC4E75BD\nS9031000EC\n") 4 ≡ read 4096 4)
    × (image_read (bytes "S1051000700575\nS206001002534054\nS3090000100466FC4E75BD\nS9031000EC\n") ≡ countdown)
    × (loaded_of (bytes "S206001000700574\nS1051002534055\nS804001000EB\n") 2 ≡ read 4096 2)
unfolding loaded_of read_outcome text_outcome is_record record_in checksum_of
mixes = (refl, refl, refl)

-- closing records alone; an odd start; a data record without data; an S1 past 2^16; an end at 2^32
also_read : (loaded_of (bytes "S70500001000EA\n") 0 ≡ read 4096 0) × (loaded_of (bytes "S804001000EB\n") 0 ≡ read 4096 0)
    × (loaded_of (bytes "S9031000EC\n") 0 ≡ read 4096 0) × (loaded_of (bytes "S10510014E7526\nS9031001EB\n") 1 ≡ read 4097 1)
    × (loaded_of (bytes "S1031000EC\nS10510004E7527\nS9031000EC\n") 1 ≡ read 4096 1)
    × (loaded_of (bytes "S107FFFE70055340F3\nS2060100024E7533\nS80400FFFEFE\n") 3 ≡ read 65534 3)
    × (loaded_of (bytes "S307FFFFFFFE4E753A\nS705FFFFFFFEFF\n") 1 ≡ read 4294967294 1)
unfolding loaded_of read_outcome text_outcome is_record record_in checksum_of
also_read = (refl, refl, refl, refl, refl, refl, refl)

-- 12 for its form: S0, S5, small letters, CR, an empty line, no digits, another letter
form_refused : (loaded_of (bytes "S0030000FC\n") 9 ≡ refused_at 12 1) × (loaded_of (bytes "S5030001FB\n") 9 ≡ refused_at 12 1)
    × (loaded_of (bytes "S9031000ec\n") 9 ≡ refused_at 12 1) × (loaded_of (bytes "S9031000EC\r\n") 9 ≡ refused_at 12 1)
    × (loaded_of (bytes "S1051000700575\n\nS9031000EC\n") 9 ≡ refused_at 12 2) × (loaded_of (bytes "S9\n") 9 ≡ refused_at 12 1)
    × (loaded_of (bytes "T9031000EC\n") 9 ≡ refused_at 12 1)
unfolding loaded_of read_outcome text_outcome is_record record_in checksum_of
form_refused = (refl, refl, refl, refl, refl, refl, refl)

-- 12 for its length: a count too large, too small, half a byte, one data byte, a closing record with data
length_refused : (loaded_of (bytes "S1061000700574\n") 9 ≡ refused_at 12 1) × (loaded_of (bytes "S1041000700576\n") 9 ≡ refused_at 12 1)
    × (loaded_of (bytes "S105100070057\n") 9 ≡ refused_at 12 1) × (loaded_of (bytes "S1051000700575\nS10410024E9B\n") 9 ≡ refused_at 12 2)
    × (loaded_of (bytes "S90510004E7527\n") 9 ≡ refused_at 12 1)
unfolding loaded_of read_outcome text_outcome is_record record_in checksum_of
length_refused = (refl, refl, refl, refl, refl)

-- 12 where one is wanting, has no LF, or stands after the closing one
wanting : (loaded_of [] 9 ≡ refused_at 12 1) × (loaded_of (bytes "S1051000700575\n") 9 ≡ refused_at 12 2)
    × (loaded_of (bytes "S9031000EC") 9 ≡ refused_at 12 1) × (loaded_of (bytes "S9031000EC\nS9031000EC\n") 9 ≡ refused_at 12 2)
    × (loaded_of (bytes "S9031000EC\n\n") 9 ≡ refused_at 12 2) × (loaded_of (bytes "S9031000EC\nS") 9 ≡ refused_at 12 2)
unfolding loaded_of read_outcome text_outcome is_record record_in checksum_of
wanting = (refl, refl, refl, refl, refl, refl)

-- 13 comes before 14, and 14 before what stands in a later record
checksum_refused : (loaded_of (bytes "S1051000700574\nS9031000EC\n") 9 ≡ refused_at 13 1)
    × (loaded_of (bytes "S1051000700575\nS9031002EB\n") 9 ≡ refused_at 13 2) × (loaded_of (bytes "S1051000700575\nS10510044E7500\nS0\n") 9 ≡ refused_at 13 2)
unfolding loaded_of read_outcome text_outcome is_record record_in checksum_of
checksum_refused = (refl, refl, refl)

-- 14: a gap, another start, past 2^32, and after an end at 2^32
place-refused : (loaded_of (bytes "S1051000700575\nS10510044E7523\nS0\n") 9 ≡ refused_at 14 2)
    × (loaded_of (bytes "S1051000700575\nS9031002EA\nS\n") 9 ≡ refused_at 14 2)
    × (loaded_of (bytes "S309FFFFFFFE4E754E7575\nS705FFFFFFFEFF\n") 9 ≡ refused_at 14 1)
    × (loaded_of (bytes "S307FFFFFFFE4E753A\nS1030000FC\nS705FFFFFFFEFF\n") 9 ≡ refused_at 14 2)
unfolding loaded_of read_outcome text_outcome is_record record_in checksum_of
place-refused = (refl, refl, refl, refl)

-- 11 comes last, outside records
short-refused : (loaded_of (bytes "S1051000700575\nS9031000EC\n") 0 ≡ refused_at 11 0) × (loaded_of (bytes "S1051000700575\nS9031002EA\n") 0 ≡ refused_at 14 2)
unfolding loaded_of read_outcome text_outcome is_record record_in checksum_of
short-refused = (refl, refl)

-- past the words and refused, lent words are unchanged
image_left_lem : (image_left (bytes "S1051000700575\nS9031000EC\n") (1 ∷ 2 ∷ []) ≡ 0x7005 ∷ 2 ∷ [])
    × (image_left (bytes "S1051000700574\nS9031000EC\n") (1 ∷ 2 ∷ []) ≡ 1 ∷ 2 ∷ [])
unfolding image_left read_outcome text_outcome is_record record_in checksum_of
image_left_lem = (refl, refl)
