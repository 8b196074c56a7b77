-- The names of the variants, as spelled in encoded.rs, in their order.
use Rattle.std.specs.Prelude.{ℕ, zero, suc, List, [], ◌∷◌}
use Prim.Native.Char.{code}
use Prim.Native.String.{String, len, char_at}
use Rattle.sheet_spec.specs.declared.Kind.{Kind}
use Rattle.sheet_spec.specs.declared.Kind.TheVariants as kind

-- the bytes of a text
abbrev pub bytes_from : String → ℕ → ℕ → List ℕ
bytes_from s i zero = []
bytes_from s i (suc n) = code (char_at s i) ∷ bytes_from s (suc i) n

abbrev pub bytes : String → List ℕ
bytes s = bytes_from s 0 (len s)

-- IllegalWord and SIMHALT have no line: their places have no name
abbrev pub instruction_names : List String
instruction_names =
    "ADDA" ∷ "SUBA" ∷ "CMPA" ∷ "MOVEA" ∷ "MOVEM" ∷ "MOVE" ∷ "ADD" ∷ "SUB" ∷ "ADDX" ∷ "SUBX" ∷ "ADDQ" ∷ "MOVEQ" ∷
    "SUBQ" ∷ "ADDI" ∷ "SUBI" ∷ "ANDI" ∷ "ORI" ∷ "EORI" ∷ "CMPI" ∷ "CMPM" ∷ "DIVx" ∷ "MULx" ∷ "SWAP" ∷ "CLR" ∷
    "EXG" ∷ "LEA" ∷ "PEA" ∷ "NEG" ∷ "NEGX" ∷ "ABCD" ∷ "SBCD" ∷ "NBCD" ∷ "EXT" ∷ "TST" ∷ "CMP" ∷ "Bcc" ∷ "Scc" ∷
    "DBcc" ∷ "BRA" ∷ "LINK" ∷ "UNLK" ∷ "NOT" ∷ "OR" ∷ "AND" ∷ "EOR" ∷ "JSR" ∷ "ASd" ∷ "ROd" ∷ "LSd" ∷ "ROXd" ∷
    "BTST" ∷ "BCLR" ∷ "BSET" ∷ "BCHG" ∷ "JMP" ∷ "BSR" ∷ "TRAP" ∷ "RTE" ∷ "STOP" ∷ "RESET" ∷ "MOVEUSP" ∷ "LINEA" ∷
    "LINEF" ∷ "MOVEP" ∷ "MOVEtoCCR" ∷ "MOVEfromCCR" ∷ "MOVEtoSR" ∷ "MOVEfromSR" ∷ "ANDItoCCR" ∷ "ORItoCCR" ∷
    "EORItoCCR" ∷ "ANDItoSR" ∷ "ORItoSR" ∷ "EORItoSR" ∷ "TAS" ∷ "RTR" ∷ "CHK" ∷ "TRAPV" ∷ "ILLEGAL" ∷ "" ∷
    "RTS" ∷ "NOP" ∷ "" ∷ "RTD" ∷ "BKPT" ∷ "MOVEC" ∷ "MOVES" ∷ "CHKL" ∷ "LINKL" ∷ "TRAPcc" ∷ "MULL" ∷ "PACK" ∷
    "UNPK" ∷ "CHK2" ∷ "CMP2" ∷ "CAS" ∷ "CAS2" ∷ "BF" ∷ "DIVL" ∷ []

abbrev pub names_of : Kind → List String
names_of kind.Number = []
names_of kind.Target = []
names_of kind.Place = []
names_of kind.Size = "Byte" ∷ "Word" ∷ "Long" ∷ []
names_of kind.TargetDirection = "ToMemory" ∷ "FromMemory" ∷ []
names_of kind.RegisterOperand = "Address" ∷ "Data" ∷ []
names_of kind.AddressWidth = "Word" ∷ "Long" ∷ []
names_of kind.Condition =
    "True" ∷ "False" ∷ "High" ∷ "LowOrSame" ∷ "CarryClear" ∷ "CarrySet" ∷ "NotEqual" ∷ "Equal" ∷ "OverflowClear" ∷ "OverflowSet" ∷ "Plus" ∷ "Minus"
    ∷ "GreaterThanOrEqual" ∷ "LessThan" ∷ "GreaterThan" ∷ "LessThanOrEqual" ∷ []
names_of kind.BranchSize = "Short" ∷ "Word" ∷ "Long" ∷ []
names_of kind.ShiftDirection = "Right" ∷ "Left" ∷ []
names_of kind.Sign = "Signed" ∷ "Unsigned" ∷ []
names_of kind.BitFieldOperation =
    "Test" ∷ "ExtractUnsigned" ∷ "Change" ∷ "ExtractSigned" ∷ "Clear" ∷ "FindFirstOne" ∷ "Set" ∷ "Insert" ∷ []
names_of kind.FieldValue = "Immediate" ∷ "Register" ∷ []
names_of kind.TrapOperand = "None" ∷ "Word" ∷ "Long" ∷ []
names_of kind.RegisterChoice = "None" ∷ "Some" ∷ []
names_of kind.Operand =
    "Immediate" ∷ "Register" ∷ "Indirect" ∷ "PostIndirect" ∷ "PreIndirect" ∷ "IndirectDisplacement" ∷ "IndirectIndex" ∷ "PcDisplacement" ∷ "PcIndex"
    ∷ "Extended" ∷ "Absolute" ∷ []
names_of kind.Instruction = instruction_names
