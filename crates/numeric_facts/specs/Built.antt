-- What is built of numbers is the instruction whose numbers they are. Assumes nothing.
use Rattle.std.specs.Prelude.{ℕ, ◌<◌, ◌≡◌, refl, List, [], ◌∷◌, map, length, ℤ}
use Rattle.std.proofs.Common.{sym, ap, ◌∙◌, append-nil, arith}
use Rattle.std.proofs.lemmas.List.{length-map}
use Rattle.isa.specs.declared.Instruction as Isa
use Rattle.numeric_spec.specs.declared.Built.{Built}
use Rattle.numeric_spec.specs.declared.Built.TheVariants.{Instruction, NotInForm}
use Rattle.numeric_spec.specs.Entry.{entry_number, Inside}
use Rattle.numeric_spec.specs.Form.{form_of, numbers_of}
use Rattle.numeric_spec.specs.Take.{Taken, taken, not_there}
use Rattle.numeric_spec.specs.Build.{take_instruction, whole, built_of}
use Rattle.numeric_facts.specs.Form.{instruction_exact}
use Rattle.numeric_facts.specs.Length.{form_length}

pub not_built : {P : Type 0} {i : Isa.Instruction} → NotInForm ≡ Instruction i → P
not_built e = let z : ◌≡◌ {A = ℕ} 0 1 = cc in absurd (omega arith)

-- what is built has exactly these numbers
pub build_sound : (zs : List ℤ) (i : Isa.Instruction) → built_of zs ≡ Instruction i → (zs ≡ numbers_of i) × Inside (form_of i)
unfolding built_of numbers_of
build_sound zs i e = go (take_instruction zs) refl e
  where
    go : (t : Taken Isa.Instruction) → take_instruction zs ≡ t → whole t ≡ Instruction i → (zs ≡ map entry_number (form_of i)) × Inside (form_of i)
    go (taken j []) h e =
        let s = instruction_exact.sound zs j [] h in
        let same : j ≡ i = cc in
        (s.0 ∙ append-nil (map entry_number (form_of j)) ∙ ap (λ (x : Isa.Instruction). map entry_number (form_of x)) same, rw same at s.1)
    go (taken j (z ∷ rest)) h e = not_built e
    go not_there h e = not_built e

-- an instruction's numbers, each inside its type, give it back
pub build_complete : (i : Isa.Instruction) → Inside (form_of i) → built_of (numbers_of i) ≡ Instruction i
unfolding built_of numbers_of
build_complete i h = ap (λ (zs : List ℤ). whole (take_instruction zs)) (sym (append-nil (map entry_number (form_of i)))) ∙ ap whole (instruction_exact.complete i [] h)

numbers_length : (i : Isa.Instruction) → length (numbers_of i) ≡ length (form_of i)
unfolding numbers_of
numbers_length i = length-map (form_of i) entry_number

-- no instruction has more than 17 numbers
pub build_long : (zs : List ℤ) → 17 < length zs → built_of zs ≡ NotInForm
build_long zs h = go (built_of zs) refl
  where
    go : (b : Built) → built_of zs ≡ b → built_of zs ≡ NotInForm
    go (Instruction i) e =
        let s = build_sound zs i e in
        let l : length zs ≡ length (form_of i) = ap length s.0 ∙ numbers_length i in
        absurd (omega (arith, form_length i))
    go NotInForm e = e
