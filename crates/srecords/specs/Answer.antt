-- What is answered to a case of the list.
use Rattle.std.specs.Prelude.{Bool, cond, ◌&&◌, List, ◌++◌, ℕ, eqb, leb, take, drop, Result, Ok, Err}
use Rattle.base_list.specs.declared.Header.{Header}
use Rattle.base_list.specs.declared.Limits.{Limits}
use Rattle.srecord_line.specs.Line.{is_read, words_left}
use Rattle.srecord_line.specs.LineForm.{image_line_start, image_line_words}
use Rattle.srecord_spec.specs.Printed.{written_text, loaded_text}
use Rattle.srecord_spec.specs.Read.{image_left}
use Rattle.srecords.specs.declared.Way.{Way}
use Rattle.srecords.specs.declared.Way.TheVariants.{Write, Read}
use Rattle.srecords.specs.declared.UnknownWay.{UnknownWay}

-- way 0 is an image line, which is written; way 1 a text, which is read into at most 45,056 words
abbrev pub is_answered : ℕ → List ℕ → ℕ → ℕ → Bool
is_answered way bytes room words = cond (eqb way 0) (is_read bytes words) (eqb way 1 && leb room 45056)

abbrev pub answer_text : ℕ → List ℕ → ℕ → List ℕ
answer_text way bytes room = cond (eqb way 0) (written_text (image_line_start bytes) (image_line_words bytes) room) (loaded_text bytes room)

-- what the words in which images stand then are
abbrev pub loaded_into : List ℕ → ℕ → List ℕ → List ℕ
loaded_into text room image = cond (leb room 45056) (image_left text (take room image) ++ drop room image) image

abbrev pub image_after : ℕ → List ℕ → ℕ → List ℕ → List ℕ
image_after way bytes room image = cond (eqb way 0) (words_left bytes image) (cond (eqb way 1) (loaded_into bytes room image) image)

-- the way of a number
abbrev pub way_of : ℕ → Result Way UnknownWay
way_of n = cond (eqb n 0) (Ok Write) (cond (eqb n 1) (Ok Read) (Err (record { 0 = n })))

-- a header has a way and how much is lent, at most 262,144 bytes or words
abbrev pub limits : Limits
limits = record { least = 3; most = 3; second = 1; third = 262144; fourth = 0 }

-- for an image line there are more words than one of 1 MiB has
abbrev pub is_answered_case : Header → List ℕ → Bool
is_answered_case h bytes = is_answered h.second bytes h.third 209715

abbrev pub case_text : Header → List ℕ → List ℕ
case_text h bytes = answer_text h.second bytes h.third
