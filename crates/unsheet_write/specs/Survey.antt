-- What the passes over an image give, line by line.
use Rattle.std.specs.Prelude.{ℕ, suc, ◌+◌, ◌/◌, Bool, true, cond, ◌&&◌, List, [], ◌∷◌, ◌++◌, leb, ltb, length, set}
use Rattle.std.proofs.Math.Option.{Option}
use Rattle.read_spec.specs.Reading.{Reading, Read, Short, Nothing}
use Rattle.sheet_spec.specs.Follow.{next_of}
use Rattle.unsheet_spec.specs.Lines.{ReadLine}
use Rattle.unsheet_spec.specs.Text.{spelled_line}
use Rattle.unsheet_spec.specs.Unsheet.{goes_to_line}
use Rattle.unsheet_write.specs.declared.Taken.{Taken}
use Rattle.unsheet_write.specs.declared.Surveyed.{Surveyed}

-- the words that a reading takes, or 5 or 6
abbrev pub taken_by : Reading → Taken
taken_by (Read i n) = record { words = n / 2; number = 0 }
taken_by Short = record { words = 0; number = 5 }
taken_by Nothing = record { words = 0; number = 6 }

-- how many lines there are, k before them, or 5 or 6 at a place
abbrev pub surveyed_by : Reading → ℕ → ℕ → Surveyed → Surveyed
surveyed_by (Read i n) place k later = later
surveyed_by Short place k later = record { lines = k; number = 5; place = place }
surveyed_by Nothing place k later = record { lines = k; number = 6; place = place }

abbrev pub surveyed : ℕ → List ReadLine → Surveyed
surveyed k [] = record { lines = k; number = 0; place = 0 }
surveyed k (l ∷ ls) = surveyed_by l.reading l.place k (surveyed (suc k) ls)

-- the table with the lines' numbers, the first of them k, none above 4,096
abbrev pub stored : List ℕ → ℕ → ℕ → List ℕ
stored table place k = cond (leb k 4096 && ltb place (length table)) (set table place k) table

abbrev pub stored_by : Reading → List ℕ → ℕ → ℕ → List ℕ
stored_by (Read i n) table place k = stored table place k
stored_by Short table place k = table
stored_by Nothing table place k = table

abbrev pub numbered : ℕ → List ReadLine → List ℕ → List ℕ
numbered k [] table = table
numbered k (l ∷ ls) table = numbered (suc k) ls (stored_by l.reading table l.place k)

-- the place of the first branch that lands on no line, or `end`
abbrev pub lands_by : (ℕ → Option ℕ) → Reading → Bool
lands_by lands (Read i n) = goes_to_line lands (next_of i)
lands_by lands Short = true
lands_by lands Nothing = true

abbrev pub astray : (ℕ → Option ℕ) → ℕ → List ReadLine → ℕ
astray lands end [] = end
astray lands end (l ∷ ls) = cond (lands_by lands l.reading) (astray lands end ls) l.place

-- the lines' text from place `at` on, as far as it begins within 65,536 bytes
abbrev pub text_within : (ℕ → Option ℕ) → ℕ → List ReadLine → List ℕ
text_within lands at [] = []
text_within lands at (l ∷ ls) =
    cond (ltb 65536 at) [] (spelled_line lands l.reading ++ text_within lands (at + length (spelled_line lands l.reading)) ls)
