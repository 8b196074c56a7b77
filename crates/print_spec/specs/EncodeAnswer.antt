-- What `encode` prints for a line: the words, `=>` and the size, or refusals in their places.
use Rattle.std.specs.Prelude.{cond, List, [], ◌∷◌, ◌++◌, map, ℕ, eqb, ℤ, take}
use Rattle.isa.specs.declared.Encoded.{Encoded}
use Rattle.isa.specs.declared.Measured.{Measured}
use Rattle.encode_spec.specs.Encode.{encode_of, size_of}
use Rattle.numeric_spec.specs.declared.Built.{Built}
use Rattle.numeric_spec.specs.declared.Built.TheVariants.{Instruction, NotInForm}
use Rattle.numeric_spec.specs.Take.{Taken, taken, not_there, take_long}
use Rattle.numeric_spec.specs.Build.{built_of}
use Rattle.base_spec.specs.Parts.{fields}
use Rattle.base_spec.specs.Number.{Number, number_of}
use Rattle.base_spec.specs.Numbers.{all_numbers, integer_of}
use Rattle.base_spec.specs.Written.{hex4_of, decimal_of}
use Rattle.base_spec.specs.Refused.{tab, refused_text, not_in_form}

-- each word, and a tab
abbrev pub words_text : List ℕ → List ℕ
words_text [] = []
words_text (w ∷ ws) = hex4_of w ++ tab ++ words_text ws

abbrev pub encoded_text : Encoded → List ℕ
encoded_text e =
    cond (eqb e.number 0) (words_text (take e.count e.words)) (refused_text e.number e.detail e.value ++ tab)

abbrev pub measured_text : Measured → List ℕ
measured_text m = cond (eqb m.number 0) (decimal_of m.size) (refused_text m.number m.detail m.value)

-- the words, => and the size
unfoldable pub result_text : Encoded → Measured → List ℕ
result_text e m = encoded_text e ++ (61 ∷ 62 ∷ 9 ∷ []) ++ measured_text m ++ (10 ∷ [])

-- what is printed for an instruction at an address
abbrev pub built_text : Built → ℕ → List ℕ
built_text (Instruction i) address = result_text (encode_of i address) (size_of i)
built_text NotInForm address = not_in_form

-- for numbers: an address of 32 bits, then those of an instruction
abbrev pub addressed_text : Taken ℕ → List ℕ
addressed_text (taken address rest) = built_text (built_of rest) address
addressed_text not_there = not_in_form

unfoldable pub instruction_text : List ℤ → List ℕ
instruction_text zs = addressed_text (take_long zs)

-- for the numbers that the fields of a line say; `text` is what numbers get
unfoldable pub line_numbers_text : (List ℤ → List ℕ) → List Number → List ℕ
line_numbers_text text ns = cond (all_numbers ns) (text (map integer_of ns)) not_in_form

-- for a line
unfoldable pub answer_of : List ℕ → List ℕ
answer_of line = line_numbers_text instruction_text (map number_of (fields line))
