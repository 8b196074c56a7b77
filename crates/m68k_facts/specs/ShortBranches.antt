-- A short branch of 0 or -1 is refused at every address (02, N5).
use Rattle.std.specs.Prelude.{ℕ, ◌+◌, ◌-◌, ◌%◌, ◌^◌, ◌≤◌, ◌≡◌, refl, [], ◌∷◌, pos, negsuc}
use Rattle.std.proofs.Common.{ap, sym, ◌∙◌, arith, le-leb}
use Rattle.isa.specs.declared.BranchOperation.{BranchOperation}
use Rattle.isa.specs.declared.BranchOperation.TheVariants.{BRA, BSR}
use Rattle.isa.specs.declared.BranchSize.{BranchSize}
use Rattle.isa.specs.declared.BranchSize.TheVariants.{Short}
use Rattle.isa.specs.declared.Condition.{Condition}
use Rattle.isa.specs.declared.Condition.TheVariants.{True, False}
use Rattle.isa.specs.declared.Instruction.TheVariants.{Bcc, Branch}
use Rattle.base_spec.specs.Signed.{difference}
use Rattle.isa_spec.specs.Code.{condition_code}
use Rattle.isa_spec.specs.Condition.{condition_of}
use Rattle.isa_spec.specs.Field.{holds, ranges}
use Rattle.isa_facts.specs.Condition.{of_code}
use Rattle.encode_spec.specs.Item.{word_address}
use Rattle.encode_spec.specs.Control.{branch_parts, bcc_parts}
use Rattle.encode_spec.specs.Instruction.{branches_parts}
use Rattle.encode_spec.specs.Encode.{encode_of, size_of}
use Rattle.encode_spec.specs.Cases.{Has, Refused, OutOf, bra_short, Sized, OfBcc, ShortBranches}
use Rattle.encode_facts.specs.Items.{address_address}

-- from the word after a branch to a target by its own address
steps : (at k : ℕ) → difference ((at + k) % 2 ^ 32) (word_address at 1) ≡ (k + (2 ^ 32 - 2)) % 2 ^ 32
steps at k = omega arith

minus_one : (op : BranchOperation) (at : ℕ) → OutOf (Branch op ((at + 1) % 2 ^ 32) Short) at 1 (negsuc 0)
unfolding encode_of holds ranges branch_parts branches_parts
minus_one BRA at = rw (steps at 1)
minus_one BSR at = rw (steps at 1)

zero : (op : BranchOperation) (at : ℕ) → OutOf (Branch op ((at + 2) % 2 ^ 32) Short) at 1 (pos 0)
unfolding encode_of holds ranges branch_parts branches_parts
zero BRA at = rw (steps at 2)
zero BSR at = rw (steps at 2)

size : (op : BranchOperation) (t : ℕ) → Sized (Branch op t Short) 2 0 0
unfolding size_of branch_parts branches_parts
size BRA t = refl
size BSR t = refl

-- the code of a condition that is neither True nor False
code_least : (c : Condition) → OfBcc c → 2 ≤ condition_code c
code_least c (t, f) =
    let p : condition_code c ≡ 0 → ⊥ = λ e. t (sym (of_code c) ∙ ap condition_of e) in
    let q : condition_code c ≡ 1 → ⊥ = λ e. f (sym (of_code c) ∙ ap condition_of e) in
    omega (arith, p, q)

-- the check before a Bcc's branch passes and lays down no words
bcc_minus-one : (c : Condition) (at : ℕ) → OfBcc c → OutOf (Bcc ((at + 1) % 2 ^ 32) c Short) at 1 (negsuc 0)
unfolding encode_of holds ranges branch_parts bcc_parts
bcc_minus-one c at h = rw (le-leb 2 (condition_code c) (code_least c h), address_address at 0 1, steps at 1)

bcc_zero : (c : Condition) (at : ℕ) → OfBcc c → OutOf (Bcc ((at + 2) % 2 ^ 32) c Short) at 1 (pos 0)
unfolding encode_of holds ranges branch_parts bcc_parts
bcc_zero c at h = rw (le-leb 2 (condition_code c) (code_least c h), address_address at 0 1, steps at 2)

bcc_size : (c : Condition) (t : ℕ) → OfBcc c → Sized (Bcc t c Short) 2 0 0
unfolding size_of branch_parts bcc_parts
bcc_size c t h = rw (le-leb 2 (condition_code c) (code_least c h))

bcc_true : (t at : ℕ) (s : BranchSize) → Refused (Bcc t True s) at 3 36 (pos 0) × Sized (Bcc t True s) 0 3 36
unfolding encode_of size_of bcc_parts
bcc_true t at s = (refl, refl)

bcc_false : (t at : ℕ) (s : BranchSize) → Refused (Bcc t False s) at 3 36 (pos 0) × Sized (Bcc t False s) 0 3 36
unfolding encode_of size_of bcc_parts
bcc_false t at s = (refl, refl)

-- the distances beside them
minus-two : (at : ℕ) → Has (bra_short (at % 2 ^ 32)) at (0x60FE ∷ [])
unfolding encode_of holds ranges branch_parts branches_parts
minus-two at = let e : (at + 0) % 2 ^ 32 ≡ at % 2 ^ 32 = omega arith in rw (← e, steps at 0)

one : (at : ℕ) → Has (bra_short ((at + 3) % 2 ^ 32)) at (0x6001 ∷ [])
unfolding encode_of holds ranges branch_parts branches_parts
one at = rw (steps at 3)

pub short_branches : ShortBranches
short_branches =
    record {
      minus_one = minus_one;
      zero = zero;
      size = size;
      bcc_minus-one = bcc_minus-one;
      bcc_zero = bcc_zero;
      bcc_size = bcc_size;
      bcc_true = bcc_true;
      bcc_false = bcc_false;
      minus-two = minus-two;
      one = one;
    }
