-- What is answered to a case of the list.
use Rattle.std.specs.Prelude.{Bool, List, ℕ}
use Rattle.base_list.specs.declared.Header.{Header}
use Rattle.base_list.specs.declared.Limits.{Limits}
use Rattle.srecord_line.specs.Line.{is_read}
use Rattle.srecord_line.specs.LineForm.{image_line_start, image_line_words}
use Rattle.unsheet_spec.specs.Printed.{unsheet_text}

-- a header has how many bytes are lent, at most 70,000
abbrev pub limits : Limits
limits = record { least = 2; most = 2; second = 70000; third = 0; fourth = 0 }

-- there are more words than an image line of 1 MiB has
abbrev pub is_answered : Header → List ℕ → Bool
is_answered h bytes = is_read bytes 209715

abbrev pub case_text : Header → List ℕ → List ℕ
case_text h bytes = unsheet_text (image_line_start bytes) (image_line_words bytes) h.second
