-- What `unsheet` prints, and `unsheets` for one case: the sheet of an image, or a refusal.
use Rattle.std.specs.Prelude.{ℕ, cond, List, leb, length}
use Rattle.print_spec.specs.Printed.{printed_as, too_long_input}
use Rattle.sheet_spec.specs.Translate.{and_then}
use Rattle.srecord_spec.specs.Read.{start_read, image_read, read_outcome}
use Rattle.unsheet_spec.specs.Text.{sheet_text}
use Rattle.unsheet_spec.specs.Unsheet.{unsheet_outcome}

-- for an image, with so many bytes lent
unfoldable pub unsheet_text : ℕ → List ℕ → ℕ → List ℕ
unsheet_text start image room = printed_as (unsheet_outcome start image room) (sheet_text start image)

-- for S-records with so many words lent: their refusal, or what is printed for their image with so many bytes lent
unfoldable pub records_sheet : List ℕ → ℕ → ℕ → List ℕ
records_sheet text words room = printed_as (and_then (read_outcome text words) (unsheet_outcome (start_read text) (image_read text) room)) (sheet_text (start_read text) (image_read text))

-- for the input of `unsheet`, which takes 1 MiB and has 45,056 words and 65,536 bytes
unfoldable pub unsheet_printed : List ℕ → List ℕ
unsheet_printed text = cond (leb (length text) 1048576) (records_sheet text 45056 65536) too_long_input
