-- What is printed for a text, line by line, as far as a buffer has room; `answer` is what a line gets, and `need` the places that must be left before one.
use Rattle.std.specs.Prelude.{cond, List, [], ◌∷◌, ◌++◌, ℕ, ◌+◌, ◌-◌, eqb, ltb, length, drop}
use Rattle.base_spec.specs.Parts.{onto}
use Rattle.base_spec.specs.declared.Step.{Step}

-- the lines of a text, parted by LF; the last may lack it
abbrev pub lines_of : List ℕ → List (List ℕ)
lines_of [] = []
lines_of (b ∷ bs) = cond (eqb b 10) ([] ∷ lines_of bs) (onto b (lines_of bs))

abbrev pub answers_to : (List ℕ → List ℕ) → List (List ℕ) → List ℕ
answers_to answer [] = []
answers_to answer (l ∷ ls) = answer l ++ answers_to answer ls

unfoldable pub answers_of : (List ℕ → List ℕ) → List ℕ → List ℕ
answers_of answer text = answers_to answer (lines_of text)

-- the lines that are answered in `room` places: those before the first that finds fewer than it needs
abbrev pub fitting : (List ℕ → List ℕ) → ℕ → ℕ → List (List ℕ) → List (List ℕ)
fitting answer need room [] = []
fitting answer need room (l ∷ ls) = cond (ltb room need) [] (l ∷ fitting answer need (room - length (answer l)) ls)

-- the places of lines in a text, each with its LF
abbrev pub span_of : List (List ℕ) → ℕ
span_of [] = 0
span_of (l ∷ ls) = length l + 1 + span_of ls

-- what is written of the text from `from` on, where and after how much it stops
unfoldable pub answered_of : (List ℕ → List ℕ) → ℕ → List ℕ → ℕ → ℕ → List ℕ
answered_of answer need text from room = answers_to answer (fitting answer need room (lines_of (drop from text)))

unfoldable pub step_of : (List ℕ → List ℕ) → ℕ → List ℕ → ℕ → ℕ → Step
step_of answer need text from room =
    record {
      next = from + span_of (fitting answer need room (lines_of (drop from text)));
      count = length (answered_of answer need text from room);
    }
