-- What the manual's entries mark for the MC68000, of an instruction in plain form (02, N4). An entry of sections 4 and 6 names later processors
-- under its title, beside its sizes and in the footnotes of its tables of addressing modes; what has no such mark is of the whole family.
use Rattle.std.specs.Prelude.{Bool, true, false, ◌&&◌, List, [], ◌∷◌}
use Rattle.isa.specs.declared.Size.{Size}
use Rattle.isa.specs.declared.Size.TheVariants.{Byte, Word, Long}
use Rattle.isa.specs.declared.BranchSize.{BranchSize}
use Rattle.isa.specs.declared.BranchSize.TheVariants as branch
use Rattle.isa.specs.declared.RegisterOperation.{RegisterOperation}
use Rattle.isa.specs.declared.RegisterOperation.TheVariants.{ADDA, SUBA, CMPA, MOVEA, CMP, CHK2, CMP2}
use Rattle.isa.specs.declared.TransferOperation.{TransferOperation}
use Rattle.isa.specs.declared.TransferOperation.TheVariants.{MOVEP, MOVES}
use Rattle.isa.specs.declared.ImmediateOperation.{ImmediateOperation}
use Rattle.isa.specs.declared.ImmediateOperation.TheVariants.{ADDI, SUBI, ANDI, ORI, EORI, CMPI}
use Rattle.isa.specs.declared.UnsizedRegisterOperation.{UnsizedRegisterOperation}
use Rattle.isa.specs.declared.UnsizedRegisterOperation.TheVariants.{LEA, CHK, CHKL}
use Rattle.isa.specs.declared.UnsizedOneOperation.{UnsizedOneOperation}
use Rattle.isa.specs.declared.UnsizedOneOperation.TheVariants.{PEA, NBCD, JSR, JMP, TAS, MOVEtoCCR, MOVEfromCCR, MOVEtoSR, MOVEfromSR}
use Rattle.isa.specs.declared.OneOperation.{OneOperation}
use Rattle.isa.specs.declared.OneOperation.TheVariants.{CLR, NEG, NEGX, NOT, TST}
use Rattle.isa.specs.declared.LinkOperation.{LinkOperation}
use Rattle.isa.specs.declared.LinkOperation.TheVariants.{LINK, LINKL}
use Rattle.isa.specs.declared.VectorOperation.{VectorOperation}
use Rattle.isa.specs.declared.VectorOperation.TheVariants.{TRAP, BKPT}
use Rattle.isa.specs.declared.Operand.{Operand}
use Rattle.isa.specs.declared.Operand.TheVariants.{Immediate, Register, Indirect, PostIndirect, PreIndirect, IndirectDisplacement, IndirectIndex, PcDisplacement, PcIndex, Extended, Absolute}
use Rattle.isa.specs.declared.Instruction.{Instruction}
use Rattle.isa.specs.declared.Instruction.TheVariants.{IntoRegister, MOVEM, Transfer, Pair, Quick, MOVEQ, ImmediateInto, WordIntoData, SWAP, EXG, UnsizedIntoRegister, UnsizedOne, UnsizedPair, EXT, OneOperand, Bcc, Scc, DBcc, Branch, Link, UNLK, Shift, Vector, Status, ConditionCode, MOVEUSP, Raw, NoOperand, RTD, MOVEC, TRAPcc, MULL, Pack, CAS, CAS2, BF, DIVL}
use Rattle.isa_spec.specs.Code.{is_word}
use Rattle.encode_spec.specs.Ea.{data_alterable, permits}

-- CHK2 and CMP2: MC68020 and later, under the title
abbrev pub into_register_of_68000 : RegisterOperation → Bool
into_register_of_68000 ADDA = true
into_register_of_68000 SUBA = true
into_register_of_68000 CMPA = true
into_register_of_68000 MOVEA = true
into_register_of_68000 CMP = true
into_register_of_68000 CHK2 = false
into_register_of_68000 CMP2 = false

-- MOVES: MC68010 and later, under the title
abbrev pub transfer_of_68000 : TransferOperation → Bool
transfer_of_68000 MOVEP = true
transfer_of_68000 MOVES = false

-- CMPI: by the footnote of its table (d16,PC) and (d8,PC,Xn) are not of the MC68000; An and # are not in it. This leaves data alterable
abbrev pub immediate_into_of_68000 : ImmediateOperation → Operand → Bool
immediate_into_of_68000 ADDI o = true
immediate_into_of_68000 SUBI o = true
immediate_into_of_68000 ANDI o = true
immediate_into_of_68000 ORI o = true
immediate_into_of_68000 EORI o = true
immediate_into_of_68000 CMPI o = permits data_alterable o

-- CHK: its size Long is of the MC68020 and later
abbrev pub unsized_into_register_of_68000 : UnsizedRegisterOperation → Bool
unsized_into_register_of_68000 LEA = true
unsized_into_register_of_68000 CHK = true
unsized_into_register_of_68000 CHKL = false

-- MOVE from CCR: MC68010 and later, under the title. MOVE from SR has an entry for the MC68000
abbrev pub unsized_one_of_68000 : UnsizedOneOperation → Bool
unsized_one_of_68000 PEA = true
unsized_one_of_68000 NBCD = true
unsized_one_of_68000 JSR = true
unsized_one_of_68000 JMP = true
unsized_one_of_68000 TAS = true
unsized_one_of_68000 MOVEtoCCR = true
unsized_one_of_68000 MOVEfromCCR = false
unsized_one_of_68000 MOVEtoSR = true
unsized_one_of_68000 MOVEfromSR = true

-- EXT: of the MC68000 a byte is extended to a word alone; EXTB.L is of the MC68020 and later
abbrev pub ext_of_68000 : Size → Size → Bool
ext_of_68000 Byte to = is_word to
ext_of_68000 Word to = true
ext_of_68000 Long to = true

-- TST: by the footnotes of its table An, #, (d16,PC) and (d8,PC,Xn) are not of the MC68000. This leaves data alterable
abbrev pub one_operand_of_68000 : OneOperation → Operand → Bool
one_operand_of_68000 CLR o = true
one_operand_of_68000 NEG o = true
one_operand_of_68000 NEGX o = true
one_operand_of_68000 NOT o = true
one_operand_of_68000 TST o = permits data_alterable o

-- Bcc, BRA and BSR: the size Long, the byte $FF, is of the MC68020 and later
abbrev pub branch_of_68000 : BranchSize → Bool
branch_of_68000 branch.Short = true
branch_of_68000 branch.Word = true
branch_of_68000 branch.Long = false

-- LINK: its size Long is of the MC68020 and later
abbrev pub link_of_68000 : LinkOperation → Bool
link_of_68000 LINK = true
link_of_68000 LINKL = false

-- BKPT: MC68010 and later, under the title, and the MC68EC000
abbrev pub vector_of_68000 : VectorOperation → Bool
vector_of_68000 TRAP = true
vector_of_68000 BKPT = false

-- whether its entry has the instruction for the MC68000, with the modes of TST and CMPI. Under their titles RTD and MOVEC are of the
-- MC68010 and later, TRAPcc, PACK, UNPK, CAS, CAS2 and the bit fields of the MC68020 and later; so are the long forms of MULS, MULU, DIVS
-- and DIVU, DIVSL and DIVUL. Line A and line F words are shown (02); the reader leaves out IllegalWord and SIMHALT (01), of which the manual has no entry
abbrev pub instruction_of_68000 : Instruction → Bool
instruction_of_68000 (IntoRegister op o r s) = into_register_of_68000 op
instruction_of_68000 (MOVEM direction s mask o) = true
instruction_of_68000 (Transfer op direction s r o) = transfer_of_68000 op
instruction_of_68000 (Pair op o d s) = true
instruction_of_68000 (Quick op n o s) = true
instruction_of_68000 (MOVEQ v r) = true
instruction_of_68000 (ImmediateInto op v o s) = immediate_into_of_68000 op o
instruction_of_68000 (WordIntoData op o r sign) = true
instruction_of_68000 (SWAP r) = true
instruction_of_68000 (EXG x y) = true
instruction_of_68000 (UnsizedIntoRegister op o r) = unsized_into_register_of_68000 op
instruction_of_68000 (UnsizedOne op o) = unsized_one_of_68000 op
instruction_of_68000 (UnsizedPair op o d) = true
instruction_of_68000 (EXT r from to) = ext_of_68000 from to
instruction_of_68000 (OneOperand op o s) = one_operand_of_68000 op o
instruction_of_68000 (Bcc t condition s) = branch_of_68000 s
instruction_of_68000 (Scc o condition) = true
instruction_of_68000 (DBcc r t condition) = true
instruction_of_68000 (Branch op t s) = branch_of_68000 s
instruction_of_68000 (Link op r d) = link_of_68000 op
instruction_of_68000 (UNLK r) = true
instruction_of_68000 (Shift op count o direction s) = true
instruction_of_68000 (Vector op v) = vector_of_68000 op
instruction_of_68000 (Status op v) = true
instruction_of_68000 (ConditionCode op v) = true
instruction_of_68000 (MOVEUSP to r) = true
instruction_of_68000 (Raw op w) = true
instruction_of_68000 (NoOperand op) = true
instruction_of_68000 (RTD d) = false
instruction_of_68000 (MOVEC to control r) = false
instruction_of_68000 (TRAPcc condition x) = false
instruction_of_68000 (MULL o low high sign) = false
instruction_of_68000 (Pack op o d adjustment) = false
instruction_of_68000 (CAS compare update o s) = false
instruction_of_68000 (CAS2 compare1 compare2 update1 update2 pointer1 pointer2 s) = false
instruction_of_68000 (BF op o f r) = false
instruction_of_68000 (DIVL o quotient remainder wide sign) = false

-- (bd,An,Xn), (bd,PC,Xn) and the memory indirect modes, those of a full extension word, are of later processors in every table that has them; and
-- the MC68000's extension word has no scale (section 2.4). In plain form these are the `Extended` operands
abbrev pub operand_of_68000 : Operand → Bool
operand_of_68000 (Immediate v) = true
operand_of_68000 (Register r) = true
operand_of_68000 (Indirect n) = true
operand_of_68000 (PostIndirect n) = true
operand_of_68000 (PreIndirect n) = true
operand_of_68000 (IndirectDisplacement z base) = true
operand_of_68000 (IndirectIndex base z x) = true
operand_of_68000 (PcDisplacement t) = true
operand_of_68000 (PcIndex t x) = true
operand_of_68000 (Extended base w z outer) = false
operand_of_68000 (Absolute a width) = true

-- an instruction's fields of the type Operand
abbrev pub operands_of : Instruction → List Operand
operands_of (IntoRegister op o r s) = o ∷ []
operands_of (MOVEM direction s mask o) = o ∷ []
operands_of (Transfer op direction s r o) = o ∷ []
operands_of (Pair op o d s) = o ∷ d ∷ []
operands_of (Quick op n o s) = o ∷ []
operands_of (MOVEQ v r) = []
operands_of (ImmediateInto op v o s) = o ∷ []
operands_of (WordIntoData op o r sign) = o ∷ []
operands_of (SWAP r) = []
operands_of (EXG x y) = []
operands_of (UnsizedIntoRegister op o r) = o ∷ []
operands_of (UnsizedOne op o) = o ∷ []
operands_of (UnsizedPair op o d) = o ∷ d ∷ []
operands_of (EXT r from to) = []
operands_of (OneOperand op o s) = o ∷ []
operands_of (Bcc t condition s) = []
operands_of (Scc o condition) = o ∷ []
operands_of (DBcc r t condition) = []
operands_of (Branch op t s) = []
operands_of (Link op r d) = []
operands_of (UNLK r) = []
operands_of (Shift op count o direction s) = count ∷ o ∷ []
operands_of (Vector op v) = []
operands_of (Status op v) = []
operands_of (ConditionCode op v) = []
operands_of (MOVEUSP to r) = []
operands_of (Raw op w) = []
operands_of (NoOperand op) = []
operands_of (RTD d) = []
operands_of (MOVEC to control r) = []
operands_of (TRAPcc condition x) = []
operands_of (MULL o low high sign) = o ∷ []
operands_of (Pack op o d adjustment) = o ∷ d ∷ []
operands_of (CAS compare update o s) = o ∷ []
operands_of (CAS2 compare1 compare2 update1 update2 pointer1 pointer2 s) = []
operands_of (BF op o f r) = o ∷ []
operands_of (DIVL o quotient remainder wide sign) = o ∷ []

abbrev pub all_of_68000 : List Operand → Bool
all_of_68000 [] = true
all_of_68000 (o ∷ os) = operand_of_68000 o && all_of_68000 os

-- the instruction and its operands
unfoldable pub of68000 : Instruction → Bool
of68000 i = instruction_of_68000 i && all_of_68000 (operands_of i)
