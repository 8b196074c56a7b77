-- What is written of numbers held as signs and magnitudes.
use Rattle.std.specs.Prelude.{Bool, cond, List, [], ◌∷◌, ◌++◌, ℕ}
use Rattle.base_spec.specs.declared.Literal.{Literal}
use Rattle.base_spec.specs.Written.{decimal_of}
use Rattle.base_spec.specs.Refused.{tab}

-- `-` where it is negative
abbrev pub minus_if : Bool → List ℕ
minus_if negative = cond negative (45 ∷ []) []

-- a number, and a tab
abbrev pub literal_text : Literal → List ℕ
literal_text l = minus_if l.negative ++ decimal_of l.magnitude ++ tab

-- each of them
abbrev pub literals_text : List Literal → List ℕ
literals_text [] = []
literals_text (l ∷ ls) = literal_text l ++ literals_text ls

-- all of them, => and the length
unfoldable pub put_text : List Literal → ℕ → List ℕ
put_text ls n = literals_text ls ++ (61 ∷ 62 ∷ 9 ∷ []) ++ decimal_of n ++ (10 ∷ [])
