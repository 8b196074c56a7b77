-- The instructions of encoded.rs, in its order, each by its shape.
use Rattle.std.specs.Prelude.{List, [], ◌∷◌}
use Rattle.isa.specs.declared.RegisterOperation.{RegisterOperation}
use Rattle.isa.specs.declared.RegisterOperation.TheVariants.{ADDA, SUBA, CMPA, MOVEA, CMP, CHK2, CMP2}
use Rattle.isa.specs.declared.TransferOperation.{TransferOperation}
use Rattle.isa.specs.declared.TransferOperation.TheVariants.{MOVEP, MOVES}
use Rattle.isa.specs.declared.PairOperation.{PairOperation}
use Rattle.isa.specs.declared.PairOperation.TheVariants.{MOVE, ADD, SUB, ADDX, SUBX, CMPM, OR, AND, EOR}
use Rattle.isa.specs.declared.QuickOperation.{QuickOperation}
use Rattle.isa.specs.declared.QuickOperation.TheVariants.{ADDQ, SUBQ}
use Rattle.isa.specs.declared.ImmediateOperation.{ImmediateOperation}
use Rattle.isa.specs.declared.ImmediateOperation.TheVariants.{ADDI, SUBI, ANDI, ORI, EORI, CMPI}
use Rattle.isa.specs.declared.WordOperation.{WordOperation}
use Rattle.isa.specs.declared.WordOperation.TheVariants.{DIVx, MULx}
use Rattle.isa.specs.declared.UnsizedRegisterOperation.{UnsizedRegisterOperation}
use Rattle.isa.specs.declared.UnsizedRegisterOperation.TheVariants.{LEA, CHK, CHKL}
use Rattle.isa.specs.declared.UnsizedOneOperation.{UnsizedOneOperation}
use Rattle.isa.specs.declared.UnsizedOneOperation.TheVariants.{PEA, NBCD, JSR, JMP, TAS, MOVEtoCCR, MOVEfromCCR, MOVEtoSR, MOVEfromSR}
use Rattle.isa.specs.declared.UnsizedPairOperation.{UnsizedPairOperation}
use Rattle.isa.specs.declared.UnsizedPairOperation.TheVariants.{ABCD, SBCD, BTST, BCLR, BSET, BCHG}
use Rattle.isa.specs.declared.OneOperation.{OneOperation}
use Rattle.isa.specs.declared.OneOperation.TheVariants.{CLR, NEG, NEGX, NOT, TST}
use Rattle.isa.specs.declared.ShiftOperation.{ShiftOperation}
use Rattle.isa.specs.declared.ShiftOperation.TheVariants.{ASd, ROd, LSd, ROXd}
use Rattle.isa.specs.declared.PackOperation.{PackOperation}
use Rattle.isa.specs.declared.PackOperation.TheVariants.{PACK, UNPK}
use Rattle.isa.specs.declared.BranchOperation.{BranchOperation}
use Rattle.isa.specs.declared.BranchOperation.TheVariants.{BRA, BSR}
use Rattle.isa.specs.declared.LinkOperation.{LinkOperation}
use Rattle.isa.specs.declared.LinkOperation.TheVariants.{LINK, LINKL}
use Rattle.isa.specs.declared.StatusOperation.{StatusOperation}
use Rattle.isa.specs.declared.StatusOperation.TheVariants.{ANDItoSR, ORItoSR, EORItoSR, STOP}
use Rattle.isa.specs.declared.ConditionCodeOperation.{ConditionCodeOperation}
use Rattle.isa.specs.declared.ConditionCodeOperation.TheVariants.{ANDItoCCR, ORItoCCR, EORItoCCR}
use Rattle.isa.specs.declared.VectorOperation.{VectorOperation}
use Rattle.isa.specs.declared.VectorOperation.TheVariants.{TRAP, BKPT}
use Rattle.isa.specs.declared.RawOperation.{RawOperation}
use Rattle.isa.specs.declared.RawOperation.TheVariants.{LINEA, LINEF, IllegalWord}
use Rattle.isa.specs.declared.NoOperandOperation.{NoOperandOperation}
use Rattle.isa.specs.declared.NoOperandOperation.TheVariants.{RTE, RESET, RTR, TRAPV, ILLEGAL, RTS, NOP, SIMHALT}

pub data Shape : Type 0 where
  into_register : RegisterOperation → Shape
  movem : Shape
  transfer : TransferOperation → Shape
  pair : PairOperation → Shape
  quick : QuickOperation → Shape
  moveq : Shape
  immediate_into : ImmediateOperation → Shape
  word_into_data : WordOperation → Shape
  swap : Shape
  exg : Shape
  unsized_into_register : UnsizedRegisterOperation → Shape
  unsized_one : UnsizedOneOperation → Shape
  unsized_pair : UnsizedPairOperation → Shape
  ext : Shape
  one_operand : OneOperation → Shape
  bcc : Shape
  scc : Shape
  dbcc : Shape
  branch : BranchOperation → Shape
  link : LinkOperation → Shape
  unlk : Shape
  shift : ShiftOperation → Shape
  vector : VectorOperation → Shape
  status : StatusOperation → Shape
  condition_code : ConditionCodeOperation → Shape
  moveusp : Shape
  raw : RawOperation → Shape
  no_operand : NoOperandOperation → Shape
  rtd : Shape
  movec : Shape
  trapcc : Shape
  mull : Shape
  pack : PackOperation → Shape
  cas : Shape
  cas2 : Shape
  bf : Shape
  divl : Shape

-- place by place
abbrev pub shapes : List Shape
shapes =
    into_register ADDA ∷ into_register SUBA ∷ into_register CMPA ∷ into_register MOVEA ∷ movem ∷ pair MOVE ∷ pair ADD ∷ pair SUB ∷
    pair ADDX ∷ pair SUBX ∷ quick ADDQ ∷ moveq ∷ quick SUBQ ∷ immediate_into ADDI ∷ immediate_into SUBI ∷ immediate_into ANDI ∷
    immediate_into ORI ∷ immediate_into EORI ∷ immediate_into CMPI ∷ pair CMPM ∷ word_into_data DIVx ∷ word_into_data MULx ∷ swap ∷
    one_operand CLR ∷ exg ∷ unsized_into_register LEA ∷ unsized_one PEA ∷ one_operand NEG ∷ one_operand NEGX ∷ unsized_pair ABCD ∷
    unsized_pair SBCD ∷ unsized_one NBCD ∷ ext ∷ one_operand TST ∷ into_register CMP ∷ bcc ∷ scc ∷ dbcc ∷ branch BRA ∷ link LINK ∷
    unlk ∷ one_operand NOT ∷ pair OR ∷ pair AND ∷ pair EOR ∷ unsized_one JSR ∷ shift ASd ∷ shift ROd ∷ shift LSd ∷ shift ROXd ∷
    unsized_pair BTST ∷ unsized_pair BCLR ∷ unsized_pair BSET ∷ unsized_pair BCHG ∷ unsized_one JMP ∷ branch BSR ∷ vector TRAP ∷
    no_operand RTE ∷ status STOP ∷ no_operand RESET ∷ moveusp ∷ raw LINEA ∷ raw LINEF ∷ transfer MOVEP ∷ unsized_one MOVEtoCCR ∷
    unsized_one MOVEfromCCR ∷ unsized_one MOVEtoSR ∷ unsized_one MOVEfromSR ∷ condition_code ANDItoCCR ∷ condition_code ORItoCCR ∷
    condition_code EORItoCCR ∷ status ANDItoSR ∷ status ORItoSR ∷ status EORItoSR ∷ unsized_one TAS ∷ no_operand RTR ∷
    unsized_into_register CHK ∷ no_operand TRAPV ∷ no_operand ILLEGAL ∷ raw IllegalWord ∷ no_operand RTS ∷ no_operand NOP ∷ no_operand SIMHALT ∷ rtd ∷
    vector BKPT ∷ movec ∷ transfer MOVES ∷ unsized_into_register CHKL ∷ link LINKL ∷ trapcc ∷ mull ∷ pack PACK ∷ pack UNPK ∷
    into_register CHK2 ∷ into_register CMP2 ∷ cas ∷ cas2 ∷ bf ∷ divl ∷ []
