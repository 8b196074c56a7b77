-- Parts of the instructions.
use Rattle.std.specs.Prelude.{cond, ℕ, ◌%◌, eqb}
use Rattle.isa.specs.declared.BranchSize.{BranchSize}
use Rattle.isa.specs.declared.BranchSize.TheVariants as branch
use Rattle.isa.specs.declared.BranchOperation.{BranchOperation}
use Rattle.isa.specs.declared.BranchOperation.TheVariants.{BRA, BSR}
use Rattle.encode_spec.specs.Item.{word_address}
use Rattle.base_spec.specs.Signed.{signed32}
use Rattle.read_spec.specs.Number.{signed8, signed16, reach}

-- the target, the size and the operation of a branch
abbrev pub branch_target : ℕ → ℕ → ℕ → ℕ
branch_target a byte v =
    cond (eqb byte 0) (reach (word_address a 1) (signed16 (v % 65536)))
    (cond (eqb byte 255) (reach (word_address a 1) (signed32 v)) (reach (word_address a 1) (signed8 byte)))

abbrev pub branch_size : ℕ → BranchSize
branch_size byte = cond (eqb byte 0) branch.Word (cond (eqb byte 255) branch.Long branch.Short)

abbrev pub branch_at : ℕ → BranchOperation
branch_at k = cond (eqb k 0) BRA BSR
