-- What is written for a refusal.
use Rattle.std.specs.Prelude.{List, [], ◌∷◌, ◌++◌, ℕ, ℤ, pos}
use Rattle.base_spec.specs.Written.{decimal_of, signed_of}

abbrev pub tab : List ℕ
tab = 9 ∷ []

-- a number and a tab
abbrev pub field_text : ℕ → List ℕ
field_text n = decimal_of n ++ tab

-- refused⇥number⇥detail⇥value
unfoldable pub refused_text : ℕ → ℕ → ℤ → List ℕ
refused_text number detail value =
    (114 ∷ 101 ∷ 102 ∷ 117 ∷ 115 ∷ 101 ∷ 100 ∷ 9 ∷ []) ++ field_text number ++ field_text detail ++ signed_of value

-- refused⇥number⇥0⇥0, a line of its own
abbrev pub refusal_text : ℕ → List ℕ
refusal_text number = refused_text number 0 (pos 0) ++ (10 ∷ [])

-- what a line gets that is not in the form
abbrev pub not_in_form : List ℕ
not_in_form = refusal_text 7

-- what is printed for an input that is longer than a program takes
abbrev pub too_long : List ℕ
too_long = refusal_text 10
