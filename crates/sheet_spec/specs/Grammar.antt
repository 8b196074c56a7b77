-- The fields of each variant, in declared order (01, "The listing"): structs and pairs are their fields.
use Rattle.std.specs.Prelude.{ℕ, List, [], ◌∷◌, get_or}
use Rattle.sheet_spec.specs.declared.Kind.{Kind}
use Rattle.sheet_spec.specs.declared.Kind.TheVariants as kind

abbrev pub operand_kinds : List (List Kind)
operand_kinds =
    (kind.Number ∷ [])  -- Immediate
    ∷ (kind.RegisterOperand ∷ [])  -- Register
    ∷ (kind.Number ∷ [])  -- Indirect
    ∷ (kind.Number ∷ [])  -- PostIndirect
    ∷ (kind.Number ∷ [])  -- PreIndirect
    ∷ (kind.Number ∷ kind.RegisterOperand ∷ [])  -- IndirectDisplacement
    ∷ (kind.RegisterOperand ∷ kind.Number ∷ kind.RegisterOperand ∷ kind.Size ∷ [])  -- IndirectIndex
    ∷ (kind.Place ∷ [])  -- PcDisplacement
    ∷ (kind.Place ∷ kind.RegisterOperand ∷ kind.Size ∷ [])  -- PcIndex
    ∷ (kind.Number ∷ kind.Number ∷ kind.Number ∷ kind.Number ∷ [])  -- Extended
    ∷ (kind.Number ∷ kind.AddressWidth ∷ [])  -- Absolute
    ∷ []

abbrev pub instruction_kinds : List (List Kind)
instruction_kinds =
    (kind.Operand ∷ kind.RegisterOperand ∷ kind.Size ∷ [])  -- ADDA
    ∷ (kind.Operand ∷ kind.RegisterOperand ∷ kind.Size ∷ [])  -- SUBA
    ∷ (kind.Operand ∷ kind.RegisterOperand ∷ kind.Size ∷ [])  -- CMPA
    ∷ (kind.Operand ∷ kind.RegisterOperand ∷ kind.Size ∷ [])  -- MOVEA
    ∷ (kind.TargetDirection ∷ kind.Size ∷ kind.Number ∷ kind.Operand ∷ [])  -- MOVEM
    ∷ (kind.Operand ∷ kind.Operand ∷ kind.Size ∷ [])  -- MOVE
    ∷ (kind.Operand ∷ kind.Operand ∷ kind.Size ∷ [])  -- ADD
    ∷ (kind.Operand ∷ kind.Operand ∷ kind.Size ∷ [])  -- SUB
    ∷ (kind.Operand ∷ kind.Operand ∷ kind.Size ∷ [])  -- ADDX
    ∷ (kind.Operand ∷ kind.Operand ∷ kind.Size ∷ [])  -- SUBX
    ∷ (kind.Number ∷ kind.Operand ∷ kind.Size ∷ [])  -- ADDQ
    ∷ (kind.Number ∷ kind.RegisterOperand ∷ [])  -- MOVEQ
    ∷ (kind.Number ∷ kind.Operand ∷ kind.Size ∷ [])  -- SUBQ
    ∷ (kind.Number ∷ kind.Operand ∷ kind.Size ∷ [])  -- ADDI
    ∷ (kind.Number ∷ kind.Operand ∷ kind.Size ∷ [])  -- SUBI
    ∷ (kind.Number ∷ kind.Operand ∷ kind.Size ∷ [])  -- ANDI
    ∷ (kind.Number ∷ kind.Operand ∷ kind.Size ∷ [])  -- ORI
    ∷ (kind.Number ∷ kind.Operand ∷ kind.Size ∷ [])  -- EORI
    ∷ (kind.Number ∷ kind.Operand ∷ kind.Size ∷ [])  -- CMPI
    ∷ (kind.Operand ∷ kind.Operand ∷ kind.Size ∷ [])  -- CMPM
    ∷ (kind.Operand ∷ kind.RegisterOperand ∷ kind.Sign ∷ [])  -- DIVx
    ∷ (kind.Operand ∷ kind.RegisterOperand ∷ kind.Sign ∷ [])  -- MULx
    ∷ (kind.RegisterOperand ∷ [])  -- SWAP
    ∷ (kind.Operand ∷ kind.Size ∷ [])  -- CLR
    ∷ (kind.RegisterOperand ∷ kind.RegisterOperand ∷ [])  -- EXG
    ∷ (kind.Operand ∷ kind.RegisterOperand ∷ [])  -- LEA
    ∷ (kind.Operand ∷ [])  -- PEA
    ∷ (kind.Operand ∷ kind.Size ∷ [])  -- NEG
    ∷ (kind.Operand ∷ kind.Size ∷ [])  -- NEGX
    ∷ (kind.Operand ∷ kind.Operand ∷ [])  -- ABCD
    ∷ (kind.Operand ∷ kind.Operand ∷ [])  -- SBCD
    ∷ (kind.Operand ∷ [])  -- NBCD
    ∷ (kind.RegisterOperand ∷ kind.Size ∷ kind.Size ∷ [])  -- EXT
    ∷ (kind.Operand ∷ kind.Size ∷ [])  -- TST
    ∷ (kind.Operand ∷ kind.RegisterOperand ∷ kind.Size ∷ [])  -- CMP
    ∷ (kind.Target ∷ kind.Condition ∷ kind.BranchSize ∷ [])  -- Bcc
    ∷ (kind.Operand ∷ kind.Condition ∷ [])  -- Scc
    ∷ (kind.RegisterOperand ∷ kind.Target ∷ kind.Condition ∷ [])  -- DBcc
    ∷ (kind.Target ∷ kind.BranchSize ∷ [])  -- BRA
    ∷ (kind.RegisterOperand ∷ kind.Number ∷ [])  -- LINK
    ∷ (kind.RegisterOperand ∷ [])  -- UNLK
    ∷ (kind.Operand ∷ kind.Size ∷ [])  -- NOT
    ∷ (kind.Operand ∷ kind.Operand ∷ kind.Size ∷ [])  -- OR
    ∷ (kind.Operand ∷ kind.Operand ∷ kind.Size ∷ [])  -- AND
    ∷ (kind.Operand ∷ kind.Operand ∷ kind.Size ∷ [])  -- EOR
    ∷ (kind.Operand ∷ [])  -- JSR
    ∷ (kind.Operand ∷ kind.Operand ∷ kind.ShiftDirection ∷ kind.Size ∷ [])  -- ASd
    ∷ (kind.Operand ∷ kind.Operand ∷ kind.ShiftDirection ∷ kind.Size ∷ [])  -- ROd
    ∷ (kind.Operand ∷ kind.Operand ∷ kind.ShiftDirection ∷ kind.Size ∷ [])  -- LSd
    ∷ (kind.Operand ∷ kind.Operand ∷ kind.ShiftDirection ∷ kind.Size ∷ [])  -- ROXd
    ∷ (kind.Operand ∷ kind.Operand ∷ [])  -- BTST
    ∷ (kind.Operand ∷ kind.Operand ∷ [])  -- BCLR
    ∷ (kind.Operand ∷ kind.Operand ∷ [])  -- BSET
    ∷ (kind.Operand ∷ kind.Operand ∷ [])  -- BCHG
    ∷ (kind.Operand ∷ [])  -- JMP
    ∷ (kind.Target ∷ kind.BranchSize ∷ [])  -- BSR
    ∷ (kind.Number ∷ [])  -- TRAP
    ∷ []  -- RTE
    ∷ (kind.Number ∷ [])  -- STOP
    ∷ []  -- RESET
    ∷ (kind.Number ∷ kind.RegisterOperand ∷ [])  -- MOVEUSP
    ∷ (kind.Number ∷ [])  -- LINEA
    ∷ (kind.Number ∷ [])  -- LINEF
    ∷ (kind.TargetDirection ∷ kind.Size ∷ kind.RegisterOperand ∷ kind.Operand ∷ [])  -- MOVEP
    ∷ (kind.Operand ∷ [])  -- MOVEtoCCR
    ∷ (kind.Operand ∷ [])  -- MOVEfromCCR
    ∷ (kind.Operand ∷ [])  -- MOVEtoSR
    ∷ (kind.Operand ∷ [])  -- MOVEfromSR
    ∷ (kind.Number ∷ [])  -- ANDItoCCR
    ∷ (kind.Number ∷ [])  -- ORItoCCR
    ∷ (kind.Number ∷ [])  -- EORItoCCR
    ∷ (kind.Number ∷ [])  -- ANDItoSR
    ∷ (kind.Number ∷ [])  -- ORItoSR
    ∷ (kind.Number ∷ [])  -- EORItoSR
    ∷ (kind.Operand ∷ [])  -- TAS
    ∷ []  -- RTR
    ∷ (kind.Operand ∷ kind.RegisterOperand ∷ [])  -- CHK
    ∷ []  -- TRAPV
    ∷ []  -- ILLEGAL
    ∷ []  -- IllegalWord, which has no line
    ∷ []  -- RTS
    ∷ []  -- NOP
    ∷ []  -- SIMHALT, which has no line
    ∷ (kind.Number ∷ [])  -- RTD
    ∷ (kind.Number ∷ [])  -- BKPT
    ∷ (kind.Number ∷ kind.Number ∷ kind.RegisterOperand ∷ [])  -- MOVEC
    ∷ (kind.TargetDirection ∷ kind.Size ∷ kind.RegisterOperand ∷ kind.Operand ∷ [])  -- MOVES
    ∷ (kind.Operand ∷ kind.RegisterOperand ∷ [])  -- CHKL
    ∷ (kind.RegisterOperand ∷ kind.Number ∷ [])  -- LINKL
    ∷ (kind.Condition ∷ kind.TrapOperand ∷ [])  -- TRAPcc
    ∷ (kind.Operand ∷ kind.Number ∷ kind.RegisterChoice ∷ kind.Sign ∷ [])  -- MULL
    ∷ (kind.Operand ∷ kind.Operand ∷ kind.Number ∷ [])  -- PACK
    ∷ (kind.Operand ∷ kind.Operand ∷ kind.Number ∷ [])  -- UNPK
    ∷ (kind.Operand ∷ kind.RegisterOperand ∷ kind.Size ∷ [])  -- CHK2
    ∷ (kind.Operand ∷ kind.RegisterOperand ∷ kind.Size ∷ [])  -- CMP2
    ∷ (kind.Number ∷ kind.Number ∷ kind.Operand ∷ kind.Size ∷ [])  -- CAS
    ∷ (kind.Number ∷ kind.Number ∷ kind.Number ∷ kind.Number ∷ kind.RegisterOperand ∷ kind.RegisterOperand ∷ kind.Size ∷ [])  -- CAS2
    ∷ (kind.BitFieldOperation ∷ kind.Operand ∷ kind.FieldValue ∷ kind.FieldValue ∷ kind.Number ∷ [])  -- BF
    ∷ (kind.Operand ∷ kind.Number ∷ kind.Number ∷ kind.Number ∷ kind.Sign ∷ [])  -- DIVL
    ∷ []

abbrev pub kinds_of : Kind → ℕ → List Kind
kinds_of kind.Number k = []
kinds_of kind.Target k = []
kinds_of kind.Place k = []
kinds_of kind.Size k = []
kinds_of kind.TargetDirection k = []
kinds_of kind.RegisterOperand k = kind.Number ∷ []
kinds_of kind.AddressWidth k = []
kinds_of kind.Condition k = []
kinds_of kind.BranchSize k = []
kinds_of kind.ShiftDirection k = []
kinds_of kind.Sign k = []
kinds_of kind.BitFieldOperation k = []
kinds_of kind.FieldValue k = kind.Number ∷ []
kinds_of kind.TrapOperand k = get_or ([] ∷ (kind.Number ∷ []) ∷ (kind.Number ∷ []) ∷ []) k []
kinds_of kind.RegisterChoice k = get_or ([] ∷ (kind.Number ∷ []) ∷ []) k []
kinds_of kind.Operand k = get_or operand_kinds k []
kinds_of kind.Instruction k = get_or instruction_kinds k []
