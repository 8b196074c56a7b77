-- What `unsheet` answers, and what it leaves in the lent bytes (02, N6).
use Rattle.std.specs.Prelude.{ℕ, ◌%◌, ◌^◌, Bool, true, cond, ◌&&◌, List, eqb, leb, pos, length}
use Rattle.std.proofs.Math.Option.{Option}
use Rattle.read_spec.specs.Reading.{Reading, Read, Short, Nothing}
use Rattle.sheet_spec.specs.Made.{is_some}
use Rattle.sheet_spec.specs.Sheet.{end_of}
use Rattle.sheet_spec.specs.Follow.{Next, on, to, either, stop, next_of}
use Rattle.sheet_spec.specs.Translate.{Outcome, in_order, refused, and_then, require, in_turn, image_as}
use Rattle.unsheet_spec.specs.declared.Unsheeted.{Unsheeted}
use Rattle.unsheet_spec.specs.Lines.{ReadLine, lines_in, landing}
use Rattle.unsheet_spec.specs.Text.{sheet_text}

-- 5 for a line that is cut, 6 for words without reading, with its place
abbrev pub reading_outcome : ℕ → Reading → Outcome
reading_outcome place (Read i n) = in_order
reading_outcome place Short = refused 5 0 0 (pos place)
reading_outcome place Nothing = refused 6 0 0 (pos place)

-- a branch, which is what goes to a target, lands on a line
abbrev pub goes_to_line : (ℕ → Option ℕ) → Next → Bool
goes_to_line lands on = true
goes_to_line lands (to t) = is_some (lands t)
goes_to_line lands (either t) = is_some (lands t)
goes_to_line lands stop = true

-- 16 for a branch that lands on no line, with its place
abbrev pub branch_outcome : (ℕ → Option ℕ) → ℕ → Reading → Outcome
branch_outcome lands place (Read i n) = cond (goes_to_line lands (next_of i)) in_order (refused 16 0 0 (pos place))
branch_outcome lands place Short = in_order
branch_outcome lands place Nothing = in_order

-- along the image: the first line of which `says` says that it is refused
abbrev pub along_lines : (ℕ → Reading → Outcome) → List ReadLine → Outcome
along_lines says ls = in_turn (λ k l. says l.place l.reading) 1 ls

-- 17 for a text over 65,536 bytes or over what is lent
abbrev pub length_outcome : List ℕ → ℕ → Outcome
length_outcome text room = require (leb (length text) 65536 && leb (length text) room) 17

-- 16 for the first branch that lands on no line, then 17
abbrev pub landed_outcome : (ℕ → Option ℕ) → List ReadLine → List ℕ → ℕ → Outcome
landed_outcome lands ls text room = and_then (along_lines (branch_outcome lands) ls) (length_outcome text room)

-- 5 or 6 along the image, then 10 for over 4,096 lines, then these
abbrev pub found_outcome : ℕ → List ℕ → ℕ → Outcome
found_outcome start image room =
    and_then (along_lines reading_outcome (lines_in start image))
    (and_then (require (leb (length (lines_in start image)) 4096) 10)
    (landed_outcome (landing start (lines_in start image)) (lines_in start image) (sheet_text start image) room))

-- 9 for an odd start or an end above 2^32, 5 for an empty image, then these
unfoldable pub unsheet_outcome : ℕ → List ℕ → ℕ → Outcome
unsheet_outcome start image room =
    and_then (require (eqb (start % 2) 0 && leb (end_of start (length image)) (2 ^ 32)) 9)
    (and_then (require (leb 1 (length image)) 5) (found_outcome start image room))

abbrev pub unsheeted_as : Outcome → ℕ → ℕ → Unsheeted
unsheeted_as in_order bytes lines = record { bytes = bytes; lines = lines; number = 0; value = pos 0 }
unsheeted_as (refused number line detail value) bytes lines = record { bytes = 0; lines = 0; number = number; value = value }

-- the answer, and what the lent bytes then are: unchanged where refused, and past the text
unfoldable pub unsheeted_of : ℕ → List ℕ → ℕ → Unsheeted
unsheeted_of start image room = unsheeted_as (unsheet_outcome start image room) (length (sheet_text start image)) (length (lines_in start image))

unfoldable pub bytes_left : ℕ → List ℕ → List ℕ → List ℕ
bytes_left start image lent = image_as (unsheet_outcome start image (length lent)) (sheet_text start image) lent
