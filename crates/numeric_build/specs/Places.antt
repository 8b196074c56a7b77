-- The numbers of entries, in places, are the entries'; an instruction's give it back. Assumes nothing.
use Rattle.std.specs.Prelude.{ℕ, zero, suc, ◌+◌, ◌≤◌, ◌<◌, ◌≡◌, refl, false, cond, List, [], ◌∷◌, ◌++◌, map, leb, length, take, set, get_or, ℤ, pos, negsuc, nat_abs}
use Rattle.std.proofs.Common.{sym, ap, ◌∙◌, arith, take-suc, add-one}
use Rattle.std.proofs.lemmas.List.{length-map}
use Rattle.std.proofs.lemmas.Grind.{take-set_at}
use Rattle.base_spec.specs.Signed.{minus}
use Rattle.base_facts.specs.Lists.{pad}
use Rattle.base_facts.specs.Tests.{cond_true, leb-true}
use Rattle.isa.specs.declared.Instruction.{Instruction}
use Rattle.numeric_spec.specs.declared.Built.TheVariants as built
use Rattle.numeric_spec.specs.Entry.{Entry, entry_number, Inside}
use Rattle.numeric_spec.specs.Form.{form_of, numbers_of}
use Rattle.numeric_spec.specs.Build.{built_of}
use Rattle.numeric_places.specs.Places.{signed_from, numbers_held, built_from, is_negative, numbers_from}
use Rattle.base_spec.specs.declared.Literal.{Literal}
use Rattle.base_spec.specs.declared.Literals.{Literals}
use Rattle.numeric_places.specs.declared.Numbers.{Numbers}
use Rattle.numeric_form.specs.Places.{negatives, magnitudes}
use Rattle.numeric_form.specs.Numbers as literal
use Rattle.numeric_form.specs.PushedLaws as form
use Rattle.numeric_build.specs.Literals.{take_whole}

signed_again : (z : ℤ) → cond (is_negative z) (minus (nat_abs z)) (pos (nat_abs z)) ≡ z
signed_again (pos n) = refl
signed_again (negsuc n) = refl

listed-pad : (m : ℕ) (es : List Entry) → length es ≤ m
    → take (length es) (signed_from (pad m false (map (λ e. is_negative (entry_number e)) es)) (pad m 0 (map (λ e. nat_abs (entry_number e)) es))) ≡ map entry_number es
listed-pad zero [] h = refl
listed-pad zero (e ∷ es) h = absurd (omega arith)
listed-pad (suc m) [] h = refl
listed-pad (suc m) (e ∷ es) h = λ i. signed_again (entry_number e) i ∷ listed-pad m es (omega arith) i

pub numbers_listed : (es : List Entry) → length es ≤ 24 → numbers_held (numbers_from es) ≡ map entry_number es
unfolding numbers_held numbers_from
numbers_listed es h = listed-pad 24 es h

form_length : (x : Instruction) → length (form_of x) ≤ 17
unfolding literal.numbers_from
form_length x = form.form_count x

-- in places, an instruction's numbers give it back
pub build_numbers : (x : Instruction) → Inside (form_of x) → built_from (numbers_from (form_of x)) 0 ≡ built.Instruction x
unfolding numbers_from numbers_of
build_numbers x i =
    let few : length (form_of x) ≤ 24 = omega (arith, form_length x) in
    cond_true (leb (length (form_of x)) 24) _ _ (leb-true (length (form_of x)) 24 few)
    ∙ ap built_of (numbers_listed (form_of x) few ∙ sym (form.form_listed x))
    ∙ form.build_numbers x i

-- literals, as places hold them
abbrev pub in_places : Literals → Numbers
in_places n = record { count = n.count; negative = negatives n.places; magnitude = magnitudes n.places }

map_pad : {A B : Type 0} (f : A → B) (n : ℕ) (d : A) (xs : List A) → map f (pad n d xs) ≡ pad n (f d) (map f xs)
map_pad f zero d xs = refl
map_pad f (suc n) d [] = ap (λ t. f d ∷ t) (map_pad f n d [])
map_pad f (suc n) d (x ∷ xs) = ap (λ t. f x ∷ t) (map_pad f n d xs)

sign_same : (z : ℤ) → literal.is_negative z ≡ is_negative z
sign_same (pos n) = refl
sign_same (negsuc n) = refl

signs_same : (es : List Entry) → negatives (map (λ e. literal.literal_of (entry_number e)) es) ≡ map (λ e. is_negative (entry_number e)) es
signs_same [] = refl
signs_same (e ∷ es) = λ i. sign_same (entry_number e) i ∷ signs_same es i

sizes_same : (es : List Entry) → magnitudes (map (λ e. literal.literal_of (entry_number e)) es) ≡ map (λ e. nat_abs (entry_number e)) es
sizes_same [] = refl
sizes_same (e ∷ es) = λ i. nat_abs (entry_number e) ∷ sizes_same es i

pub numbers_placed : (es : List Entry) → in_places (literal.numbers_from es) ≡ numbers_from es
unfolding literal.numbers_from numbers_from
numbers_placed es =
    let ls = map (λ e. literal.literal_of (entry_number e)) es in
    let n = map_pad (λ (l : Literal). l.negative) 24 literal.zero_literal ls ∙ ap (pad 24 false) (signs_same es) in
    let m = map_pad (λ (l : Literal). l.magnitude) 24 literal.zero_literal ls ∙ ap (pad 24 0) (sizes_same es) in
    λ i. record { count = length es; negative = n i; magnitude = m i }

pub numbers_few : (x : Instruction) → (numbers_from (form_of x)).count ≤ 17
unfolding numbers_from
numbers_few x = form_length x

map_at : {B : Type 0} (f : Literal → B) (ls : List Literal) (k : ℕ) → get_or (map f ls) k (f literal.zero_literal) ≡ f (get_or ls k literal.zero_literal)
map_at f [] zero = refl
map_at f [] (suc k) = refl
map_at f (l ∷ ls) zero = refl
map_at f (l ∷ ls) (suc k) = map_at f ls k

-- one more
pub copied_more : {B : Type 0} (f : Literal → B) (xs : List B) (ls : List Literal) (k : ℕ) → k < length xs → k < length ls → take k xs ≡ take k (map f ls)
    → take (k + 1) (set xs k (f (get_or ls k literal.zero_literal))) ≡ take (k + 1) (map f ls)
copied_more f xs ls k l g e =
    let inside : k < length (map f ls) = omega (arith, length-map ls f) in
    take-set_at xs k (k + 1) (f (get_or ls k literal.zero_literal)) refl l
    ∙ ap (λ t. t ++ (f (get_or ls k literal.zero_literal) ∷ [])) e
    ∙ ap (λ v. take k (map f ls) ++ (v ∷ [])) (sym (map_at f ls k))
    ∙ rw add-one (sym (take-suc (map f ls) k (f literal.zero_literal) inside))

-- all
pub copied_whole : {B : Type 0} (f : Literal → B) (xs : List B) (ls : List Literal) (k : ℕ) → k ≡ 24 → length xs ≡ 24 → length ls ≡ 24 → take k xs ≡ take k (map f ls) → xs ≡ map f ls
copied_whole f xs ls k e a b p = sym (take_whole k xs (a ∙ sym e)) ∙ p ∙ take_whole k (map f ls) (omega (arith, length-map ls f))
