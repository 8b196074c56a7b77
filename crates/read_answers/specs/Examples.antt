-- The definition at work.
use Rattle.std.specs.Prelude.{◌≡◌, refl, [], ◌∷◌}
use Rattle.base_spec.specs.Written.{decimal_of}
use Rattle.base_spec.specs.Refused.{refused_text}
use Rattle.numeric_spec.specs.Form.{form_of, numbers_of}
use Rattle.read_spec.specs.Map.{map, group_at}
use Rattle.read_spec.specs.Read.{read_of}
use Rattle.print_spec.specs.ReadAnswer.{read_text, read_answer_of}

-- 0⇥4e71 prints 81⇥=>⇥2
nop : read_answer_of (48 ∷ 9 ∷ 52 ∷ 101 ∷ 55 ∷ 49 ∷ []) ≡ 56 ∷ 49 ∷ 9 ∷ 61 ∷ 62 ∷ 9 ∷ 50 ∷ 10 ∷ []
unfolding read_answer_of read_text read_of group_at map numbers_of form_of decimal_of
nop = refl

-- 4096⇥66FC prints 35⇥4094⇥6⇥0⇥=>⇥2, a branch to the address less 2
branch : read_answer_of (52 ∷ 48 ∷ 57 ∷ 54 ∷ 9 ∷ 54 ∷ 54 ∷ 70 ∷ 67 ∷ []) ≡ 51 ∷ 53 ∷ 9 ∷ 52 ∷ 48 ∷ 57 ∷ 52 ∷ 9 ∷ 54 ∷ 9 ∷ 48 ∷ 9 ∷ 61 ∷ 62 ∷ 9 ∷ 50 ∷ 10 ∷ []
unfolding read_answer_of read_text read_of group_at map numbers_of form_of decimal_of
branch = refl

-- 0 alone prints refused⇥5⇥0⇥0
short : read_answer_of (48 ∷ []) ≡ 114 ∷ 101 ∷ 102 ∷ 117 ∷ 115 ∷ 101 ∷ 100 ∷ 9 ∷ 53 ∷ 9 ∷ 48 ∷ 9 ∷ 48 ∷ 10 ∷ []
unfolding read_answer_of read_of refused_text decimal_of
short = refl

-- 0⇥4E7F prints refused⇥6⇥0⇥0
nothing : read_answer_of (48 ∷ 9 ∷ 52 ∷ 69 ∷ 55 ∷ 70 ∷ []) ≡ 114 ∷ 101 ∷ 102 ∷ 117 ∷ 115 ∷ 101 ∷ 100 ∷ 9 ∷ 54 ∷ 9 ∷ 48 ∷ 9 ∷ 48 ∷ 10 ∷ []
unfolding read_answer_of read_of group_at map refused_text decimal_of
nothing = refl

-- an empty line prints refused⇥7⇥0⇥0
empty : read_answer_of [] ≡ 114 ∷ 101 ∷ 102 ∷ 117 ∷ 115 ∷ 101 ∷ 100 ∷ 9 ∷ 55 ∷ 9 ∷ 48 ∷ 9 ∷ 48 ∷ 10 ∷ []
unfolding read_answer_of refused_text decimal_of
empty = refl
