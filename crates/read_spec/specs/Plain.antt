-- The plain form (01, "The reading"; 02, N2).
use Rattle.std.specs.Prelude.{cond, ℕ, ◌*◌, ◌/◌, ◌%◌, ◌^◌, eqb, ℤ, pos}
use Rattle.std.proofs.Math.Option.{some}
use Rattle.isa.specs.declared.Size.{Size}
use Rattle.isa.specs.declared.Size.TheVariants.{Byte, Word, Long}
use Rattle.isa.specs.declared.RegisterOperand.TheVariants.{Address}
use Rattle.isa.specs.declared.Operand.{Operand}
use Rattle.isa.specs.declared.Operand.TheVariants.{Immediate, Register, Indirect, PostIndirect, PreIndirect, IndirectDisplacement, IndirectIndex, PcDisplacement, PcIndex, Extended, Absolute}
use Rattle.isa.specs.declared.Instruction.{Instruction}
use Rattle.isa.specs.declared.Instruction.TheVariants.{IntoRegister, MOVEM, Transfer, Pair, Quick, MOVEQ, ImmediateInto, WordIntoData, SWAP, EXG, UnsizedIntoRegister, UnsizedOne, UnsizedPair, EXT, OneOperand, Bcc, Scc, DBcc, Branch, Link, UNLK, Shift, Vector, Status, ConditionCode, MOVEUSP, Raw, NoOperand, RTD, MOVEC, TRAPcc, MULL, Pack, CAS, CAS2, BF, DIVL}
use Rattle.base_spec.specs.Signed.{bits_of}
use Rattle.isa_spec.specs.Code.{unsized_size, unsized_register_size}
use Rattle.isa_spec.specs.ExtensionWord.{is_full}
use Rattle.isa_spec.specs.IndexBase.{is_pc}
use Rattle.isa_spec.specs.Field.{also_holds, remainder_of}
use Rattle.read_spec.specs.Operand.{index_of}

-- a brief Extended operand: of scale 1 an index, its displacement the offset or, read as unsigned, the target; another
-- keeps bits 15 to 9 of its word and has outer 0
abbrev pub plain_index : ℕ → ℕ → ℤ → Operand
plain_index base w z = cond (is_pc base) (PcIndex (bits_of z % 2 ^ 32) (index_of w)) (IndirectIndex (Address base) z (index_of w))

abbrev pub plain_brief : ℕ → ℕ → ℤ → Operand
plain_brief base w z = cond (eqb (w / 512 % 4) 0) (plain_index base w z) (Extended base (w / 512 * 512) z (pos 0))

-- the number of an Immediate of a size: one that is held beside the pair is its remainder (02, N2)
abbrev pub plain_number : Size → ℕ → ℕ
plain_number s v = cond (also_holds (some s) (pos v)) (remainder_of s v) v

-- an operand of a size
abbrev pub plain_operand : Size → Operand → Operand
plain_operand s (Immediate v) = Immediate (plain_number s v)
plain_operand s (Register r) = Register r
plain_operand s (Indirect n) = Indirect n
plain_operand s (PostIndirect n) = PostIndirect n
plain_operand s (PreIndirect n) = PreIndirect n
plain_operand s (IndirectDisplacement z base) = IndirectDisplacement z base
plain_operand s (IndirectIndex base z x) = IndirectIndex base z x
plain_operand s (PcDisplacement t) = PcDisplacement t
plain_operand s (PcIndex t x) = PcIndex t x
plain_operand s (Extended base w z outer) = cond (is_full w) (Extended base w z outer) (plain_brief base w z)
plain_operand s (Absolute a width) = Absolute a width

-- all operands so, and the number of an immediate instruction, at the size of the instruction or of its operation; the byte of which BTST tests a
-- bit at Byte. A shift's count and a bit number are of no size: Long leaves them. Where no Immediate is accepted the size plays no part.
-- MOVEC's control number is taken modulo 4,096
abbrev pub plain : Instruction → Instruction
plain (IntoRegister op o r s) = IntoRegister op (plain_operand s o) r s
plain (MOVEM direction s mask o) = MOVEM direction s mask (plain_operand s o)
plain (Transfer op direction s r o) = Transfer op direction s r (plain_operand s o)
plain (Pair op o d s) = Pair op (plain_operand s o) (plain_operand s d) s
plain (Quick op n o s) = Quick op n (plain_operand s o) s
plain (MOVEQ v r) = MOVEQ v r
plain (ImmediateInto op v o s) = ImmediateInto op (plain_number s v) (plain_operand s o) s
plain (WordIntoData op o r sign) = WordIntoData op (plain_operand Word o) r sign
plain (SWAP r) = SWAP r
plain (EXG x y) = EXG x y
plain (UnsizedIntoRegister op o r) = UnsizedIntoRegister op (plain_operand (unsized_register_size op) o) r
plain (UnsizedOne op o) = UnsizedOne op (plain_operand (unsized_size op) o)
plain (UnsizedPair op o d) = UnsizedPair op (plain_operand Long o) (plain_operand Byte d)
plain (EXT r from to) = EXT r from to
plain (OneOperand op o s) = OneOperand op (plain_operand s o) s
plain (Bcc t condition s) = Bcc t condition s
plain (Scc o condition) = Scc (plain_operand Byte o) condition
plain (DBcc r t condition) = DBcc r t condition
plain (Branch op t s) = Branch op t s
plain (Link op r d) = Link op r d
plain (UNLK r) = UNLK r
plain (Shift op count o direction s) = Shift op (plain_operand Long count) (plain_operand s o) direction s
plain (Vector op v) = Vector op v
plain (Status op v) = Status op v
plain (ConditionCode op v) = ConditionCode op v
plain (MOVEUSP to r) = MOVEUSP to r
plain (Raw op w) = Raw op w
plain (NoOperand op) = NoOperand op
plain (RTD d) = RTD d
plain (MOVEC to control r) = MOVEC to (control % 4096) r
plain (TRAPcc condition x) = TRAPcc condition x
plain (MULL o low high sign) = MULL (plain_operand Long o) low high sign
plain (Pack op o d adjustment) = Pack op (plain_operand Long o) (plain_operand Long d) adjustment
plain (CAS compare update o s) = CAS compare update (plain_operand s o) s
plain (CAS2 compare1 compare2 update1 update2 pointer1 pointer2 s) = CAS2 compare1 compare2 update1 update2 pointer1 pointer2 s
plain (BF op o f r) = BF op (plain_operand Byte o) f r
plain (DIVL o quotient remainder wide sign) = DIVL (plain_operand Long o) quotient remainder wide sign
