-- What the program `sheet` prints (01, "The listing").
use Rattle.std.specs.Prelude.{ℕ, suc, List, [], ◌∷◌, ◌++◌, ℤ, pos, leb, length, ◌≡◌, Bool, true, false, cond}
use Rattle.base_spec.specs.Written.{placed, hex4_of, hex8_of, signed_of}
use Rattle.base_spec.specs.Refused.{tab, field_text}
use Rattle.sheet_spec.specs.Names.{bytes}
use Rattle.isa.specs.declared.Encoded.{Encoded}
use Rattle.sheet_spec.specs.Sheet.{Sheet, sheet_in, addresses, encoded, encoded_words}
use Rattle.sheet_spec.specs.Translate.{ScratchRule, Outcome, in_order, refused, outcome_of, image_of, scratch_of}
use Rattle.print_spec.specs.declared.Output.{Output}

-- a tab and each word
abbrev pub listed_words : List ℕ → List ℕ
listed_words [] = []
listed_words (w ∷ ws) = tab ++ hex4_of w ++ listed_words ws

-- number⇥address⇥words
unfoldable pub line_text : ℕ → ℕ → List ℕ → List ℕ
line_text k address words = field_text k ++ hex8_of address ++ listed_words words ++ (10 ∷ [])

-- the lines from line k on, at these addresses
abbrev pub listing_from : ℕ → List ℕ → List Encoded → List ℕ
listing_from k [] es = []
listing_from k (a ∷ later) [] = []
listing_from k (a ∷ later) (e ∷ es) = line_text k a (encoded_words e) ++ listing_from (suc k) later es

unfoldable pub listing_of : Sheet → List ℕ
listing_of s = listing_from 1 (addresses s) (encoded s)

-- refused⇥number⇥line⇥detail⇥value
unfoldable pub line_refusal : ℕ → ℕ → ℕ → ℤ → List ℕ
line_refusal number line detail value =
    bytes "refused\t" ++ field_text number ++ field_text line ++ field_text detail ++ signed_of value ++ (10 ∷ [])

abbrev pub printed_as : Outcome → List ℕ → List ℕ
printed_as in_order listing = listing
printed_as (refused number line detail value) listing = line_refusal number line detail value

-- with so many scratch places and image words
unfoldable pub printed_of : ScratchRule → List ℕ → ℕ → ℕ → List ℕ
printed_of rule text places room = printed_as (outcome_of rule text places room) (listing_of (sheet_in text))

-- a text written into a buffer that is wide enough for 4,096 lines of at most 69 bytes: how much was written; else nothing
abbrev pub is_wide : List ℕ → Bool
is_wide out = leb 282624 (length out)

pub record Put (t out out' : List ℕ) (r : Output) : Type 0 where
  pub answer : r ≡ cond (is_wide out) (record { wide = true; count = length t }) (record { wide = false; count = 0 })
  pub buffer : out' ≡ cond (is_wide out) (placed out 0 t) out

-- what is printed for a text, with an image v and a scratch s; where the buffer is not wide, both are as they were
pub record Printed (rule : ScratchRule) (text v s out v' s' out' : List ℕ) (r : Output) : Type 0 where
  pub put : Put (printed_of rule text (length s) (length v)) out out' r
  pub image : v' ≡ cond (is_wide out) (image_of rule text (length s) v) v
  pub scratch : s' ≡ cond (is_wide out) (scratch_of rule text s v) s

-- what is printed for an input that is longer than a program takes
abbrev pub too_long_input : List ℕ
too_long_input = line_refusal 10 0 0 (pos 0)
