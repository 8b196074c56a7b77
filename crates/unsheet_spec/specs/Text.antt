-- The sheet of an image (02, N6): every line in the one spelling, `@` wherever a PcDisplacement, PcIndex or branch lands on a line's first word, other targets as numbers.
use Rattle.std.specs.Prelude.{ℕ, suc, true, false, List, [], ◌∷◌, ◌++◌, pos, negsuc}
use Rattle.std.proofs.Math.Option.{Option, none, some}
use Rattle.isa.specs.declared.Instruction.{Instruction}
use Rattle.numeric_spec.specs.Entry.{Entry, unsigned, signed}
use Rattle.numeric_spec.specs.Form.{form_of}
use Rattle.read_spec.specs.Reading.{Reading, Read, Short, Nothing}
use Rattle.sheet_spec.specs.declared.Kind.{Kind}
use Rattle.sheet_spec.specs.declared.Kind.TheVariants as kind
use Rattle.sheet_spec.specs.Line.{Token, literal, label, by_kind}
use Rattle.sheet_spec.specs.Spell.{next_kinds, spell}
use Rattle.sheet_spec.specs.Promises.{start_text}
use Rattle.unsheet_spec.specs.Lines.{ReadLine, lines_in, landing}

-- ---- what stands for the entries of an instruction; `lands` gives the line on whose first word a target lands

-- a number
abbrev pub as_literal : Entry → Token
as_literal (unsigned top n) = literal false n
as_literal (signed (pos n)) = literal false n
as_literal (signed (negsuc n)) = literal true (suc n)

-- `@` and a line's number, or the target as a number
abbrev pub target_or : Option ℕ → ℕ → Token
target_or none t = literal false t
target_or (some line) t = label line

abbrev pub as_target : (ℕ → Option ℕ) → Entry → Token
as_target lands (unsigned top t) = target_or (lands t) t
as_target lands (signed z) = as_literal (signed z)

-- by the kind of its field: a branch's target, or that of a PcDisplacement or PcIndex
abbrev pub token_for : (ℕ → Option ℕ) → Kind → Entry → Token
token_for lands k e = by_kind k (as_literal e) (as_target lands e) (as_target lands e) (as_literal e)

abbrev pub tokens_from : (ℕ → Option ℕ) → List Kind → List Entry → List Token
tokens_from lands ks [] = []
tokens_from lands [] (e ∷ es) = []
tokens_from lands (k ∷ ks) (e ∷ es) = token_for lands k e ∷ tokens_from lands (next_kinds k (token_for lands k e) ++ ks) es

unfoldable pub tokens_of : (ℕ → Option ℕ) → Instruction → List Token
tokens_of lands i = tokens_from lands (kind.Instruction ∷ []) (form_of i)

-- ---- the text: START, then a line for each that was read, each ended by LF
abbrev pub spelled_line : (ℕ → Option ℕ) → Reading → List ℕ
spelled_line lands (Read i n) = spell (tokens_of lands i) ++ (10 ∷ [])
spelled_line lands Short = []
spelled_line lands Nothing = []

abbrev pub spelled_lines : (ℕ → Option ℕ) → List ReadLine → List ℕ
spelled_lines lands [] = []
spelled_lines lands (l ∷ ls) = spelled_line lands l.reading ++ spelled_lines lands ls

-- of lines at a start
abbrev pub text_by : (ℕ → Option ℕ) → ℕ → List ReadLine → List ℕ
text_by lands start ls = start_text start ++ (10 ∷ []) ++ spelled_lines lands ls

unfoldable pub sheet_text : ℕ → List ℕ → List ℕ
sheet_text start image = text_by (landing start (lines_in start image)) start (lines_in start image)
