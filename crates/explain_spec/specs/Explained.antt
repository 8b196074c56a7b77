-- A text with the sentences of its refusals: every line is passed on, and a refusal's sentence follows it.
use Rattle.std.specs.Prelude.{ℕ, Bool, false, cond, ◌≡◌, List, [], ◌∷◌, ◌++◌, leb, ltb, length}
use Rattle.base_spec.specs.declared.Step.{Step}
use Rattle.base_spec.specs.Parts.{parts}
use Rattle.base_spec.specs.Lines.{answered_of, step_of}
use Rattle.base_spec.specs.Written.{placed}
use Rattle.explain_spec.specs.Refusal.{refusal_in}
use Rattle.explain_spec.specs.Sentence.{sentence_of}

-- a line of 65,536 bytes or more is passed on as it is
unfoldable pub explained_line : List ℕ → List ℕ
explained_line line = line ++ (10 ∷ cond (ltb (length line) 65536) (sentence_of (refusal_in line)) [])

-- the lines of a text, parted by LF; what follows the last LF is passed on as it is
-- `begun`: the first is the rest of a line that is passed on as it is
abbrev pub explained_parts : Bool → List (List ℕ) → List ℕ
explained_parts begun [] = []
explained_parts begun (l ∷ []) = l
explained_parts begun (l ∷ (m ∷ ls)) = cond begun (l ++ (10 ∷ [])) (explained_line l) ++ explained_parts false (m ∷ ls)

unfoldable pub explained_from : Bool → List ℕ → List ℕ
explained_from begun text = explained_parts begun (parts 10 text)

abbrev pub explained : List ℕ → List ℕ
explained text = explained_from false text

-- what `explain` writes for the lines of a text of at most 65,536 bytes from `from` on, as far as there is room, and where it stops; nothing for a longer text
abbrev pub is_short : List ℕ → Bool
is_short text = leb (length text) 65536

pub record Explains (text : List ℕ) (from : ℕ) (out out' : List ℕ) (r : Step) : Type 0 where
  pub step : r ≡ cond (is_short text) (step_of explained_line 73728 text from (length out)) (record { next = from; count = 0 })
  pub buffer : out' ≡ cond (is_short text) (placed out 0 (answered_of explained_line 73728 text from (length out))) out
