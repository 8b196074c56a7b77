-- What `values` prints for a line: ten numbers, none below 0, of which the first says what is asked. A number above its range is taken modulo it.
use Rattle.std.specs.Prelude.{ℕ, ◌%◌, Bool, false, cond, not, ◌&&◌, ◌||◌, List, [], ◌∷◌, ◌++◌, eqb, get_or}
use Rattle.base_spec.specs.Written.{decimal_of}
use Rattle.base_spec.specs.Refused.{tab, not_in_form}
use Rattle.base_text.specs.declared.LineNumbers.{LineNumbers}
use Rattle.base_text.specs.Numbers.{line_numbers}
use Rattle.isa_spec.specs.Code.{condition_code}
use Rattle.isa_spec.specs.Condition.{condition_of}
use Rattle.isa_spec.specs.ExtensionWord.{size_of_code}
use Rattle.isa_values.specs.ExtensionWord.{index_bits, full_word}
use Rattle.isa_values.specs.RegisterOperand.{index_of}
use Rattle.values_answers.specs.Values.{indirection_by, register_by, index_by, flag_by, word_values, size_values, displacement_values, bit_field_values, base_values, constant_values}

-- a tab and each value
abbrev pub listed_values : List ℕ → List ℕ
listed_values [] = []
listed_values (v ∷ vs) = tab ++ decimal_of v ++ listed_values vs

-- => and the values
unfoldable pub values_text : List ℕ → List ℕ
values_text vs = (61 ∷ 62 ∷ []) ++ listed_values vs ++ (10 ∷ [])

-- the brief word, and the full word
abbrev pub brief_asked : List ℕ → ℕ
brief_asked ms = index_bits (index_by (get_or ms 1 0) (get_or ms 2 0) (get_or ms 3 0)) (get_or ms 4 0 % 256)

abbrev pub full_asked : List ℕ → ℕ
full_asked ms =
    full_word (index_by (get_or ms 1 0) (get_or ms 2 0) (get_or ms 3 0)) (get_or ms 4 0 % 256) (flag_by (get_or ms 5 0)) (flag_by (get_or ms 6 0))
    (size_of_code (get_or ms 7 0 % 4)) (indirection_by (get_or ms 8 0)) (size_of_code (get_or ms 9 0 % 4))

-- what each first number asks for: 0 a word, 1 a size, 2 a register, 3 a displacement size, 4 a condition, 5 a bit-field operation, 6 a base, 7 a brief word, 8 a full word, 9 the constants
unfoldable pub asked_text : List ℕ → List ℕ
asked_text ms =
    let k = get_or ms 0 0 in
    let n = get_or ms 1 0 in
    cond (eqb k 0) (values_text (word_values (n % 65536)))
    (cond (eqb k 1) (values_text (size_values n))
    (cond (eqb k 2) (values_text (index_of (register_by n (get_or ms 2 0)) ∷ []))
    (cond (eqb k 3) (values_text (displacement_values n))
    (cond (eqb k 4) (values_text (condition_code (condition_of (n % 16)) ∷ []))
    (cond (eqb k 5) (values_text (bit_field_values n))
    (cond (eqb k 6) (values_text (base_values n))
    (cond (eqb k 7) (values_text (brief_asked ms ∷ []))
    (cond (eqb k 8) (values_text (full_asked ms ∷ []))
    (cond (eqb k 9) (values_text constant_values) not_in_form)))))))))

abbrev pub any_below : List Bool → Bool
any_below s =
    get_or s 0 false || get_or s 1 false || get_or s 2 false || get_or s 3 false || get_or s 4 false || get_or s 5 false || get_or s 6 false || get_or s 7 false
    || get_or s 8 false || get_or s 9 false

abbrev pub is_asked : LineNumbers → Bool
is_asked n = n.ok && eqb n.count 10 && not (any_below n.negative)

-- for a line
unfoldable pub values_answer_of : List ℕ → List ℕ
values_answer_of line = let n = line_numbers line in cond (is_asked n) (asked_text n.magnitude) not_in_form
