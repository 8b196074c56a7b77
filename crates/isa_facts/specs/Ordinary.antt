-- A test for an instruction that is ordinary.
use Rattle.std.specs.Prelude.{◌≡◌, Bool, true, false}
use Rattle.std.proofs.Common.{ap}
use Rattle.isa.specs.declared.RawOperation.{RawOperation}
use Rattle.isa.specs.declared.RawOperation.TheVariants.{LINEA, LINEF, IllegalWord}
use Rattle.isa.specs.declared.NoOperandOperation.{NoOperandOperation}
use Rattle.isa.specs.declared.NoOperandOperation.TheVariants.{RTE, RESET, RTR, TRAPV, ILLEGAL, RTS, NOP, SIMHALT}
use Rattle.isa.specs.declared.Instruction.{Instruction}
use Rattle.isa.specs.declared.Instruction.TheVariants.{IntoRegister, MOVEM, Transfer, Pair, Quick, MOVEQ, ImmediateInto, WordIntoData, SWAP, EXG, UnsizedIntoRegister, UnsizedOne, UnsizedPair, EXT, OneOperand, Bcc, Scc, DBcc, Branch, Link, UNLK, Shift, Vector, Status, ConditionCode, MOVEUSP, Raw, NoOperand, RTD, MOVEC, TRAPcc, MULL, Pack, CAS, CAS2, BF, DIVL}
use Rattle.isa_spec.specs.Ordinary.{Ordinary}
use Rattle.base_facts.specs.Tests.{true_not_false}

abbrev is_ordinary_raw : RawOperation → Bool
is_ordinary_raw LINEA = true
is_ordinary_raw LINEF = true
is_ordinary_raw IllegalWord = false

abbrev is_ordinary_operation : NoOperandOperation → Bool
is_ordinary_operation RTE = true
is_ordinary_operation RESET = true
is_ordinary_operation RTR = true
is_ordinary_operation TRAPV = true
is_ordinary_operation ILLEGAL = true
is_ordinary_operation RTS = true
is_ordinary_operation NOP = true
is_ordinary_operation SIMHALT = false

abbrev pub is_ordinary : Instruction → Bool
is_ordinary (IntoRegister op o r s) = true
is_ordinary (MOVEM direction s mask o) = true
is_ordinary (Transfer op direction s r o) = true
is_ordinary (Pair op o d s) = true
is_ordinary (Quick op n o s) = true
is_ordinary (MOVEQ v r) = true
is_ordinary (ImmediateInto op v o s) = true
is_ordinary (WordIntoData op o r sign) = true
is_ordinary (SWAP r) = true
is_ordinary (EXG x y) = true
is_ordinary (UnsizedIntoRegister op o r) = true
is_ordinary (UnsizedOne op o) = true
is_ordinary (UnsizedPair op o d) = true
is_ordinary (EXT r from to) = true
is_ordinary (OneOperand op o s) = true
is_ordinary (Bcc t condition s) = true
is_ordinary (Scc o condition) = true
is_ordinary (DBcc r t condition) = true
is_ordinary (Branch op t s) = true
is_ordinary (Link op r d) = true
is_ordinary (UNLK r) = true
is_ordinary (Shift op count o direction s) = true
is_ordinary (Vector op v) = true
is_ordinary (Status op v) = true
is_ordinary (ConditionCode op v) = true
is_ordinary (MOVEUSP to r) = true
is_ordinary (Raw op w) = is_ordinary_raw op
is_ordinary (NoOperand op) = is_ordinary_operation op
is_ordinary (RTD d) = true
is_ordinary (MOVEC to control r) = true
is_ordinary (TRAPcc condition x) = true
is_ordinary (MULL o low high sign) = true
is_ordinary (Pack op o d adjustment) = true
is_ordinary (CAS compare update o s) = true
is_ordinary (CAS2 compare1 compare2 update1 update2 pointer1 pointer2 s) = true
is_ordinary (BF op o f r) = true
is_ordinary (DIVL o quotient remainder wide sign) = true

pub ordinary : (i : Instruction) → is_ordinary i ≡ true → Ordinary i
ordinary i h = (λ w e. true_not_false h (ap is_ordinary e), λ e. true_not_false h (ap is_ordinary e))
