-- What the program `encode_bytes` prints for a line: what the function of that name returns, `=>`, and the lent bytes afterwards.
use Rattle.std.specs.Prelude.{List, [], ◌∷◌, ◌++◌, map, ℕ, zero, suc, ◌+◌, ℤ}
use Rattle.isa.specs.declared.Measured.{Measured}
use Rattle.encode_spec.specs.Encode.{bytes_of, lent_of}
use Rattle.numeric_spec.specs.declared.Built.{Built}
use Rattle.numeric_spec.specs.declared.Built.TheVariants.{Instruction, NotInForm}
use Rattle.numeric_spec.specs.Take.{Taken, taken, not_there, take_both, take_unsigned, take_long}
use Rattle.numeric_spec.specs.Build.{built_of}
use Rattle.base_spec.specs.Parts.{fields}
use Rattle.base_spec.specs.Number.{number_of}
use Rattle.base_spec.specs.Written.{hex2_of}
use Rattle.base_spec.specs.Refused.{tab, not_in_form}
use Rattle.print_spec.specs.EncodeAnswer.{measured_text, line_numbers_text}

-- n numbers from b on
abbrev pub counted_from : ℕ → ℕ → List ℕ
counted_from b zero = []
counted_from b (suc n) = b ∷ counted_from (b + 1) n

-- the n bytes that are lent, before the call
abbrev pub lent_before : ℕ → List ℕ
lent_before n = counted_from 160 n

-- a tab and each byte
abbrev pub listed_bytes : List ℕ → List ℕ
listed_bytes [] = []
listed_bytes (b ∷ bs) = tab ++ hex2_of b ++ listed_bytes bs

-- what is returned, => and the bytes
unfoldable pub bytes_text : Measured → List ℕ → List ℕ
bytes_text m lent = measured_text m ++ (9 ∷ 61 ∷ 62 ∷ []) ++ listed_bytes lent ++ (10 ∷ [])

-- what is printed for an instruction at an address, with n bytes lent
abbrev pub called_text : Built → ℕ → ℕ → List ℕ
called_text (Instruction i) n address = bytes_text (bytes_of i address n) (lent_of i address (lent_before n))
called_text NotInForm n address = not_in_form

-- for numbers: how many bytes are lent, at most 32, an address of 32 bits, then those of an instruction
abbrev pub lent_text : Taken (ℕ × ℕ) → List ℕ
lent_text (taken (n, address) rest) = called_text (built_of rest) n address
lent_text not_there = not_in_form

unfoldable pub lent_numbers_text : List ℤ → List ℕ
lent_numbers_text zs = lent_text (take_both (take_unsigned 32) take_long zs)

-- for a line
unfoldable pub bytes_answer_of : List ℕ → List ℕ
bytes_answer_of line = line_numbers_text lent_numbers_text (map number_of (fields line))
