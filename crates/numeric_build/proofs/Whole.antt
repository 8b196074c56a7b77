-- What is built, from what is taken first.
use Rattle.std.specs.Prelude.{◌≡◌, refl, List, [], ◌∷◌, length, ℤ}
use Rattle.std.proofs.Common.{arith, ap, sym}
use Rattle.isa.specs.declared.Instruction as Isa
use Rattle.numeric_spec.specs.declared.Built.TheVariants.{Instruction, NotInForm}
use Rattle.numeric_spec.specs.Take.{taken, not_there}
use Rattle.numeric_spec.specs.Build.{take_instruction, whole, built_of}
use Rattle.base_spec.specs.declared.Literal.{Literal}
use Rattle.numeric_form.specs.Numbers.{numbers_in}

pub built_whole : (zs : List ℤ) (i : Isa.Instruction) (ls : List Literal) → taken i (numbers_in ls) ≡ take_instruction zs → length ls ≡ 0 → Instruction i ≡ built_of zs
unfolding built_of
built_whole zs i [] e h = ap whole e
built_whole zs i (l ∷ ls) e h = absurd (omega arith)

pub built_more : (zs : List ℤ) (i : Isa.Instruction) (ls : List Literal) → taken i (numbers_in ls) ≡ take_instruction zs → (length ls ≡ 0 → ⊥) → NotInForm ≡ built_of zs
unfolding built_of
built_more zs i [] e h = absurd (h refl)
built_more zs i (l ∷ ls) e h = ap whole e

pub built_none : (zs : List ℤ) → not_there ≡ take_instruction zs → NotInForm ≡ built_of zs
unfolding built_of
built_none zs e = ap whole e
