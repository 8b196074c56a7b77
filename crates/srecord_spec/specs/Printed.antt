-- What `srecord`, `image` and `srecords` print: an image line, the text of S-records, or a refusal.
use Rattle.std.specs.Prelude.{cond, List, [], ◌∷◌, ◌++◌, ℕ, leb, length}
use Rattle.base_spec.specs.Written.{decimal_of}
use Rattle.sheet_spec.specs.Sheet as sheet
use Rattle.sheet_spec.specs.Translate.{full, outcome_of}
use Rattle.print_spec.specs.Printed.{listed_words, printed_as, too_long_input}
use Rattle.srecord_spec.specs.Write.{image_text, write_outcome}
use Rattle.srecord_spec.specs.Read.{start_read, image_read, read_outcome}

-- the start in decimal, then words of four capital hexadecimal digits, parted by tabs, ended by LF
unfoldable pub image_line : ℕ → List ℕ → List ℕ
image_line start words = decimal_of start ++ listed_words words ++ (10 ∷ [])

-- for an image written into `room` bytes
unfoldable pub written_text : ℕ → List ℕ → ℕ → List ℕ
written_text start image room = printed_as (write_outcome start image room) (image_text start image)

-- for a text of S-records read into `room` words
unfoldable pub loaded_text : List ℕ → ℕ → List ℕ
loaded_text text room = printed_as (read_outcome text room) (image_line (start_read text) (image_read text))

-- for the input of `image`, which takes 1 MiB and has 45,056 words
unfoldable pub image_printed : List ℕ → List ℕ
image_printed text = cond (leb (length text) 1048576) (loaded_text text 45056) too_long_input

-- for a sheet, with so many scratch places and image words: its image as S-records, or its refusal
unfoldable pub sheet_records : List ℕ → ℕ → ℕ → List ℕ
sheet_records text places room = printed_as (outcome_of full text places room) (image_text (sheet.start_in text) (sheet.image (sheet.sheet_in text)))
