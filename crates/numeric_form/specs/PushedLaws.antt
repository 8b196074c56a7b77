-- Entries pushed one after the other are the entries' numbers. Assumes nothing.
use Rattle.std.specs.Prelude.{ℕ, zero, suc, ◌+◌, ◌≤◌, ◌<◌, ◌≡◌, refl, List, [], ◌∷◌, ◌++◌, map, length, set, take, ℤ, pos, negsuc}
use Rattle.std.proofs.Common.{sym, ap, ◌∙◌, append-nil, append_assoc, arith, length-append, lt-ltb}
use Rattle.isa.specs.declared.Instruction.{Instruction}
use Rattle.numeric_spec.specs.Form.{form_of, numbers_of}
use Rattle.numeric_spec.specs.declared.Built.TheVariants as built
use Rattle.numeric_spec.specs.Build.{built_of}
use Rattle.numeric_facts.specs.Built.{build_complete}
use Rattle.numeric_spec.specs.Entry.{Entry, entry_number, Inside}
use Rattle.numeric_facts.specs.Length.{form_length}
use Rattle.base_facts.specs.Lists.{pad}
use Rattle.base_spec.specs.declared.Literals.{Literals}
use Rattle.numeric_form.specs.Numbers.{number_of, numbers_in, literal_of, zero_literal, stored, pushed, pushed_all, none, numbers_from, literals_held}

pub pushed_append : (n : Literals) (es fs : List Entry) → pushed_all n (es ++ fs) ≡ pushed_all (pushed_all n es) fs
unfolding pushed_all
pushed_append n [] fs = refl
pushed_append n (e ∷ es) fs = pushed_append (pushed n (entry_number e)) es fs

set_pad : {A : Type 0} (n : ℕ) (d : A) (f : Entry → A) (xs : List Entry) (e : Entry) → length xs < n → set (pad n d (map f xs)) (length xs) (f e) ≡ pad n d (map f (xs ++ (e ∷ [])))
set_pad zero d f xs e h = absurd (omega arith)
set_pad (suc n) d f [] e h = refl
set_pad (suc n) d f (x ∷ xs) e h = ap (λ l. f x ∷ l) (set_pad n d f xs e (omega arith))

pushed-one : (xs : List Entry) (e : Entry) → length xs < 24 → pushed (numbers_from xs) (entry_number e) ≡ numbers_from (xs ++ (e ∷ []))
unfolding pushed stored numbers_from
pushed-one xs e h =
    let c : length xs + 1 ≡ length (xs ++ (e ∷ [])) = omega (arith, length-append xs (e ∷ [])) in
    let n = set_pad 24 zero_literal (λ e. literal_of (entry_number e)) xs e h in
    rw (lt-ltb (length xs) 24 h) (λ i. record { places = n i; count = c i })

pushed-after : (xs es : List Entry) → length xs + length es ≤ 24 → pushed_all (numbers_from xs) es ≡ numbers_from (xs ++ es)
unfolding pushed_all
pushed-after xs [] h = ap numbers_from (sym (append-nil xs))
pushed-after xs (e ∷ es) h =
    ap (λ n. pushed_all n es) (pushed-one xs e (omega arith))
    ∙ pushed-after (xs ++ (e ∷ [])) es (omega (arith, length-append xs (e ∷ [])))
    ∙ ap numbers_from (append_assoc xs (e ∷ []) es)

pub pushed_numbers : (es : List Entry) → length es ≤ 24 → pushed_all none es ≡ numbers_from es
unfolding none numbers_from
pushed_numbers es h = pushed-after [] es (omega arith)

-- the numbers that stand in the places are the entries'
pub number_again : (z : ℤ) → number_of (literal_of z) ≡ z
number_again (pos n) = refl
number_again (negsuc n) = refl

held-pad : (m : ℕ) (es : List Entry) → length es ≤ m → take (length es) (pad m zero_literal (map (λ e. literal_of (entry_number e)) es)) ≡ map (λ e. literal_of (entry_number e)) es
held-pad zero [] h = refl
held-pad zero (e ∷ es) h = absurd (omega arith)
held-pad (suc m) [] h = refl
held-pad (suc m) (e ∷ es) h = λ i. literal_of (entry_number e) ∷ held-pad m es (omega arith) i

-- the literals that the entries' numbers are
pub held_is : (es : List Entry) → length es ≤ 24 → literals_held (numbers_from es) ≡ map (λ e. literal_of (entry_number e)) es
unfolding literals_held numbers_from
held_is es h = held-pad 24 es h

listed_is : (es : List Entry) → numbers_in (map (λ e. literal_of (entry_number e)) es) ≡ map entry_number es
listed_is [] = refl
listed_is (e ∷ es) = λ i. number_again (entry_number e) i ∷ listed_is es i

pub numbers_listed : (es : List Entry) → length es ≤ 24 → numbers_in (literals_held (numbers_from es)) ≡ map entry_number es
numbers_listed es h = ap numbers_in (held_is es h) ∙ listed_is es

-- an instruction's
pub form_pushed : (i : Instruction) → pushed_all none (form_of i) ≡ numbers_from (form_of i)
form_pushed i = pushed_numbers (form_of i) (omega (arith, form_length i))

pub form_count : (i : Instruction) → (numbers_from (form_of i)).count ≤ 17
unfolding numbers_from
form_count i = form_length i

pub form_listed : (i : Instruction) → numbers_in (literals_held (numbers_from (form_of i))) ≡ numbers_of i
unfolding numbers_of
form_listed i = numbers_listed (form_of i) (omega (arith, form_length i))

-- in places, an instruction's numbers give it back
pub build_numbers : (i : Instruction) → Inside (form_of i) → built_of (numbers_in (literals_held (numbers_from (form_of i)))) ≡ built.Instruction i
build_numbers i h = ap built_of (form_listed i) ∙ build_complete i h
