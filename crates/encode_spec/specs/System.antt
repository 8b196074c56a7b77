-- System control and multiprocessor instructions (the manual, sections 3.1.9 and 3.1.11; sections 4 and 6 have each format), raw words,
-- and all that has no operand.
use Rattle.std.specs.Prelude.{ℕ, ◌+◌, ◌*◌, ◌/◌, ◌%◌, Bool, not, cond, List, [], ◌∷◌, eqb, pos}
use Rattle.isa.specs.declared.Size.{Size}
use Rattle.isa.specs.declared.RegisterOperand.{RegisterOperand}
use Rattle.isa.specs.declared.Operand.{Operand}
use Rattle.isa.specs.declared.Field.TheVariants as field
use Rattle.encode_spec.specs.Item.{Item, Part, malformed, word, check, range, unless, register, address_register, allow, operation, fixed}
use Rattle.isa_spec.specs.Code.{size_code, is_byte, long_bit, bit, number_of_register, register_bits, general, to_memory}
use Rattle.encode_spec.specs.Ea.{memory_alterable, ea_field, effective}
use Rattle.isa.specs.declared.TargetDirection.{TargetDirection}
use Rattle.isa.specs.declared.StatusOperation.{StatusOperation}
use Rattle.isa.specs.declared.StatusOperation.TheVariants.{ANDItoSR, ORItoSR, EORItoSR, STOP}
use Rattle.isa.specs.declared.ConditionCodeOperation.{ConditionCodeOperation}
use Rattle.isa.specs.declared.ConditionCodeOperation.TheVariants.{ANDItoCCR, ORItoCCR, EORItoCCR}
use Rattle.isa.specs.declared.RawOperation.{RawOperation}
use Rattle.isa.specs.declared.RawOperation.TheVariants.{LINEA, LINEF, IllegalWord}
use Rattle.isa.specs.declared.NoOperandOperation.{NoOperandOperation}
use Rattle.isa.specs.declared.NoOperandOperation.TheVariants.{RTE, RESET, RTR, TRAPV, ILLEGAL, RTS, NOP, SIMHALT}
use Rattle.isa.specs.declared.VectorOperation.{VectorOperation}
use Rattle.isa.specs.declared.VectorOperation.TheVariants.{TRAP, BKPT}

-- an operation word and an immediate word: to SR, and STOP
abbrev pub status_operation : StatusOperation → Item
status_operation ANDItoSR = operation 0 1 1 60
status_operation ORItoSR = operation 0 0 1 60
status_operation EORItoSR = operation 0 5 1 60
status_operation STOP = operation 4 7 1 50

unfoldable pub status_parts : StatusOperation → ℕ → List Part
status_parts op v = fixed (status_operation op ∷ word v ∷ []) ∷ []

-- to CCR: a byte in the low half of the word
abbrev pub condition_code_operation : ConditionCodeOperation → Item
condition_code_operation ANDItoCCR = operation 0 1 0 60
condition_code_operation ORItoCCR = operation 0 0 0 60
condition_code_operation EORItoCCR = operation 0 5 0 60

unfoldable pub condition_code_parts : ConditionCodeOperation → ℕ → List Part
condition_code_parts op v = fixed (condition_code_operation op ∷ word v ∷ []) ∷ []

unfoldable pub vector_parts : VectorOperation → ℕ → List Part
vector_parts TRAP v = fixed (operation 4 7 1 (v % 16) ∷ range field.TrapVector (pos v) ∷ []) ∷ []
vector_parts BKPT v = fixed (operation 4 4 1 (8 + v % 8) ∷ range field.BreakpointVector (pos v) ∷ []) ∷ []

-- MOVE USP: bit 3 says from USP
unfoldable pub moveusp_parts : Bool → RegisterOperand → List Part
moveusp_parts to r = fixed (operation 4 7 1 (cond to 32 40 + register_bits r) ∷ address_register r ∷ []) ∷ []

-- MOVEC writes any control number modulo 4,096 (01, exception iv)
unfoldable pub movec_parts : Bool → ℕ → RegisterOperand → List Part
movec_parts to control_register r =
    fixed (operation 4 7 1 (58 + bit to) ∷ register (number_of_register r) ∷ word (general r * 4096 + control_register % 4096) ∷ []) ∷ []

unfoldable pub moves_parts : TargetDirection → Size → RegisterOperand → Operand → List Part
moves_parts direction s r target =
    fixed (operation 0 7 (size_code s) (ea_field target) ∷ register (number_of_register r) ∷ word (general r * 4096 + to_memory direction * 2048) ∷ [])
    ∷ effective target s memory_alterable 24 ∷ []

unfoldable pub cas_parts : ℕ → ℕ → Operand → Size → List Part
cas_parts compare update target s =
    fixed
    (operation 0 (5 + size_code s) 3 (ea_field target) ∷ register update ∷ register compare ∷ word (update % 8 * 64 + compare % 8) ∷ [])
    ∷ effective target s memory_alterable 30 ∷ []

-- one of the two extension words of CAS2
abbrev pub cas2_items : ℕ → ℕ → RegisterOperand → List Item
cas2_items compare update pointer =
    register (number_of_register pointer) ∷ register update ∷ register compare ∷ word (general pointer * 4096 + update % 8 * 64 + compare % 8) ∷ []

unfoldable pub cas2_parts : ℕ → ℕ → ℕ → ℕ → RegisterOperand → RegisterOperand → Size → List Part
cas2_parts compare1 compare2 update1 update2 pointer1 pointer2 s =
    fixed (operation 0 (6 + long_bit s) 3 60 ∷ allow (not (is_byte s)) 31 ∷ [])
    ∷ fixed (cas2_items compare1 update1 pointer1) ∷ fixed (cas2_items compare2 update2 pointer2) ∷ []

-- raw words (01, exception iii); LINEA and LINEF stay in their line
unfoldable pub raw_parts : RawOperation → ℕ → List Part
raw_parts LINEA w = fixed (check (unless (eqb (w / 4096) 10) malformed) ∷ word w ∷ []) ∷ []
raw_parts LINEF w = fixed (check (unless (eqb (w / 4096) 15) malformed) ∷ word w ∷ []) ∷ []
raw_parts IllegalWord w = fixed (word w ∷ []) ∷ []

-- instructions without operands
unfoldable pub no_operand_parts : NoOperandOperation → List Part
no_operand_parts RTE = fixed (operation 4 7 1 51 ∷ []) ∷ []
no_operand_parts RESET = fixed (operation 4 7 1 48 ∷ []) ∷ []
no_operand_parts RTR = fixed (operation 4 7 1 55 ∷ []) ∷ []
no_operand_parts TRAPV = fixed (operation 4 7 1 54 ∷ []) ∷ []
no_operand_parts ILLEGAL = fixed (operation 4 5 3 60 ∷ []) ∷ []
no_operand_parts RTS = fixed (operation 4 7 1 53 ∷ []) ∷ []
no_operand_parts NOP = fixed (operation 4 7 1 49 ∷ []) ∷ []
no_operand_parts SIMHALT = fixed (word 65535 ∷ word 65535 ∷ []) ∷ []
