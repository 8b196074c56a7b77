-- Program control (the manual, section 3.1.8; section 4 has each format), and TRAPcc.
use Rattle.std.specs.Prelude.{ℕ, ◌+◌, ◌*◌, ◌/◌, ◌%◌, List, [], ◌∷◌, leb}
use Rattle.isa.specs.declared.Size.TheVariants.{Byte}
use Rattle.isa.specs.declared.RegisterOperand.{RegisterOperand}
use Rattle.isa.specs.declared.Operand.{Operand}
use Rattle.isa.specs.declared.Field.{Field}
use Rattle.isa.specs.declared.Field.TheVariants as field
use Rattle.base_spec.specs.Signed.{signed32, bits_of, difference}
use Rattle.encode_spec.specs.Item.{Item, Part, word, range, data_register, allow, operation, fixed, word_address}
use Rattle.isa_spec.specs.Code.{register_bits, condition_code}
use Rattle.encode_spec.specs.Ea.{data_alterable, distance, long_items, word_items, single}
use Rattle.isa.specs.declared.Condition.{Condition}
use Rattle.isa.specs.declared.BranchSize.{BranchSize}
use Rattle.isa.specs.declared.BranchSize.TheVariants as branch
use Rattle.isa.specs.declared.TrapOperand.{TrapOperand}
use Rattle.isa.specs.declared.TrapOperand.TheVariants as trap

-- a word that holds the distance from itself to t
abbrev pub relative_word : Field → ℕ → Part
relative_word f t at = word_items f (distance t at)

-- two words that hold it
abbrev pub relative_long : ℕ → Part
relative_long t at = long_items (difference t at)

-- a condition in bits 11 to 8 beside two bits more
abbrev pub condition_operation : ℕ → Condition → ℕ → ℕ → Item
condition_operation line condition x ea = operation line (condition_code condition / 2) (4 * (condition_code condition % 2) + x) ea

-- the distance in the operation word's low byte, from the word after it
abbrev pub short_branch : Condition → ℕ → Part
short_branch condition t at =
    range field.ShortBranch (distance t (word_address at 1))
    ∷ condition_operation 6 condition (bits_of (distance t (word_address at 1)) % 256 / 64) (bits_of (distance t (word_address at 1)) % 64) ∷ []

-- Bcc, BRA on True and BSR on False: the byte is $00 before a word and $FF before a long
unfoldable pub branch_parts : Condition → ℕ → BranchSize → List Part
branch_parts condition t branch.Short = short_branch condition t ∷ []
branch_parts condition t branch.Word = fixed (condition_operation 6 condition 0 0 ∷ []) ∷ relative_word field.WordBranch t ∷ []
branch_parts condition t branch.Long = fixed (condition_operation 6 condition 3 63 ∷ []) ∷ relative_long t ∷ []

-- the conditions T and F of a branch are BRA and BSR
unfoldable pub bcc_parts : ℕ → Condition → BranchSize → List Part
bcc_parts t condition s = fixed (allow (leb 2 (condition_code condition)) 36 ∷ []) ∷ branch_parts condition t s

unfoldable pub dbcc_parts : RegisterOperand → ℕ → Condition → List Part
dbcc_parts r t condition =
    fixed (condition_operation 5 condition 3 (8 + register_bits r) ∷ data_register r ∷ [])
    ∷ relative_word field.WordBranch t ∷ []

unfoldable pub scc_parts : Operand → Condition → List Part
scc_parts target condition =
    single 5 (condition_code condition / 2) (4 * (condition_code condition % 2) + 3) target Byte data_alterable 35

-- TRAPcc: opmode 100 no operand, 010 a word, 011 a long
abbrev pub trap_opmode : TrapOperand → ℕ
trap_opmode trap.None = 4
trap_opmode (trap.Word v) = 2
trap_opmode (trap.Long v) = 3

abbrev pub trap_items : TrapOperand → List Item
trap_items trap.None = []
trap_items (trap.Word v) = word v ∷ []
trap_items (trap.Long v) = long_items v

unfoldable pub trapcc_parts : Condition → TrapOperand → List Part
trapcc_parts condition x = fixed (condition_operation 5 condition 3 (56 + trap_opmode x) ∷ trap_items x) ∷ []

unfoldable pub rtd_parts : ℕ → List Part
rtd_parts d = fixed (operation 4 7 1 52 ∷ word_items field.RtdDisplacement (signed32 d)) ∷ []
