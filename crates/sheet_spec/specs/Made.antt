-- What a line makes, its labels made numbers by a function from a line's number: none where there is no such line.
use Rattle.std.specs.Prelude.{ℕ, ◌≡◌, Bool, true, false, cond, ◌&&◌, List, [], ◌∷◌, map, leb, ℤ, pos}
use Rattle.std.proofs.Math.Option.{Option, none, some, get_or}
use Rattle.isa.specs.declared.Instruction.{Instruction}
use Rattle.base_spec.specs.Signed.{minus}
use Rattle.numeric_spec.specs.Entry.{Inside}
use Rattle.numeric_spec.specs.Form.{form_of, numbers_of}
use Rattle.numeric_spec.specs.declared.Built.{Built}
use Rattle.numeric_spec.specs.declared.Built.TheVariants as built
use Rattle.numeric_spec.specs.Build.{built_of}
use Rattle.sheet_spec.specs.declared.Kind.TheVariants as kind
use Rattle.sheet_spec.specs.Line.{Token, literal, label, invalid, Parsed, says, no}
use Rattle.sheet_spec.specs.Spell.{SuitAll}

-- the number that a token says, 0 for a label that is none
abbrev pub number_as : (ℕ → Option ℕ) → Token → ℤ
number_as f (literal true n) = minus n
number_as f (literal false n) = pos n
number_as f (label n) = pos (get_or (f n) 0)
number_as f invalid = pos 0

abbrev pub is_some : Option ℕ → Bool
is_some none = false
is_some (some n) = true

abbrev pub resolves : (ℕ → Option ℕ) → Token → Bool
resolves f (literal negative n) = true
resolves f (label n) = is_some (f n)
resolves f invalid = true

abbrev pub resolves_all : (ℕ → Option ℕ) → List Token → Bool
resolves_all f [] = true
resolves_all f (v ∷ vs) = resolves f v && resolves_all f vs

-- a line of an instruction: the tokens are in the grammar, their labels name lines, and their numbers, inside their types, are the instruction's
pub record Line (f : ℕ → Option ℕ) (vs : List Token) (i : Instruction) : Type 0 where
  pub grammar : SuitAll (kind.Instruction ∷ []) vs
  pub labels : resolves_all f vs ≡ true
  pub numbers : map (number_as f) vs ≡ numbers_of i
  pub inside : Inside (form_of i)

-- what a line makes: an instruction, or 7 where it is not in the form, or 8 where a label is none
pub data Made : Type 0 where
  makes : Instruction → Made
  turned_back : ℕ → Made

abbrev pub judged : Built → Bool → Made
judged (built.Instruction i) true = makes i
judged (built.Instruction i) false = turned_back 8
judged built.NotInForm named = turned_back 7

abbrev pub built_as : (ℕ → Option ℕ) → Parsed → Built
built_as f (says vs) = built_of (map (number_as f) vs)
built_as f no = built.NotInForm

abbrev pub resolves_in : (ℕ → Option ℕ) → Parsed → Bool
resolves_in f (says vs) = resolves_all f vs
resolves_in f no = true

unfoldable pub made : (ℕ → Option ℕ) → Parsed → Made
made f p = judged (built_as f p) (resolves_in f p)

-- each of n lines made what g says, and no other
abbrev pub of_lines : ℕ → (ℕ → ℕ) → ℕ → Option ℕ
of_lines n g k = cond (leb 1 k && leb k n) (some (g k)) none
