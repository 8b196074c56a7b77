-- Numbers pushed one after the other, and those of an instruction. Assumes nothing.
use Rattle.std.specs.Prelude.{◌≤◌, ◌≡◌, refl, cond, List, ◌++◌, ℤ, pos, negsuc, nat_abs}
use Rattle.std.proofs.Common.{sym, ap, ◌∙◌}
use Rattle.isa.specs.declared.Instruction.{Instruction}
use Rattle.base_spec.specs.Signed.{minus}
use Rattle.base_spec.specs.declared.Literals.{Literals}
use Rattle.numeric_spec.specs.Entry.{Entry}
use Rattle.numeric_spec.specs.Form.{place_of, payload_of, form_of}
use Rattle.numeric_form.specs.Numbers.{is_negative, pushed, pushed_all, none, numbers_from}
use Rattle.numeric_form.specs.PushedLaws.{pushed_append, form_pushed, form_count}

-- a number is its sign and its magnitude
pub signed_again : (z : ℤ) → cond (is_negative z) (minus (nat_abs z)) (pos (nat_abs z)) ≡ z
signed_again (pos n) = refl
signed_again (negsuc n) = refl

-- a payload, then one more
pub then : (n : Literals) {m r : Literals} (a b : List Entry) → m ≡ pushed_all n a → r ≡ pushed_all m b → r ≡ pushed_all n (a ++ b)
then n a b p q = q ∙ ap (λ (k : Literals). pushed_all k b) p ∙ sym (pushed_append n a b)

-- an instruction's place, then its payload
pub form : (x : Instruction) {n r : Literals} → n ≡ pushed none (pos (place_of x)) → r ≡ pushed_all n (payload_of x) → r ≡ pushed_all none (form_of x)
unfolding form_of pushed_all
form x p q = q ∙ ap (λ (k : Literals). pushed_all k (payload_of x)) p

-- they are the form's numbers, at most 17
pub form_numbers : (x : Instruction) {r : Literals} → r ≡ pushed_all none (form_of x) → (r ≡ numbers_from (form_of x)) × (r.count ≤ 17)
form_numbers x {r} p =
    let e : r ≡ numbers_from (form_of x) = p ∙ form_pushed x in
    (e, rw e (form_count x))
