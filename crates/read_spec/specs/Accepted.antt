-- What the reader's laws speak of: an instruction that `encode` accepts, and runs of words.
use Rattle.std.specs.Prelude.{◌≡◌, true, ◌&&◌, ℤ, pos, negsuc, ◌^◌, ◌<◌, ℕ, List, [], ◌∷◌, ◌++◌}
use Rattle.std.specs.Int.Signed.{le_z}
use Rattle.isa.specs.declared.Operand.{Operand}
use Rattle.isa.specs.declared.Operand.TheVariants.{Immediate, Register, Indirect, PostIndirect, PreIndirect, IndirectDisplacement, IndirectIndex, PcDisplacement, PcIndex, Extended, Absolute}
use Rattle.isa.specs.declared.TrapOperand.{TrapOperand}
use Rattle.isa.specs.declared.Instruction.{Instruction}
use Rattle.isa.specs.declared.Instruction.TheVariants.{IntoRegister, MOVEM, Transfer, Pair, Quick, MOVEQ, ImmediateInto, WordIntoData, SWAP, EXG, UnsizedIntoRegister, UnsizedOne, UnsizedPair, EXT, OneOperand, Bcc, Scc, DBcc, Branch, Link, UNLK, Shift, Vector, Status, ConditionCode, MOVEUSP, Raw, NoOperand, RTD, MOVEC, TRAPcc, MULL, Pack, CAS, CAS2, BF, DIVL}
use Rattle.isa.specs.declared.TrapOperand.TheVariants as trap
use Rattle.encode_spec.specs.Item.{fine}
use Rattle.encode_spec.specs.Encode.{refusal_of, words_of}
use Rattle.isa_spec.specs.Ordinary.{Ordinary}

-- z fits 32 bits, signed
abbrev pub Fits32 : ℤ → Type 0
Fits32 z = le_z (negsuc 2147483647) z && le_z z (pos 2147483647) ≡ true

-- the numbers are of their declared types, where no check says so
abbrev pub InTypes : Operand → Type 0
InTypes (Immediate v) = Unit {0}
InTypes (Register r) = Unit {0}
InTypes (Indirect n) = Unit {0}
InTypes (PostIndirect n) = Unit {0}
InTypes (PreIndirect n) = Unit {0}
InTypes (IndirectDisplacement z base) = Unit {0}
InTypes (IndirectIndex base z x) = Unit {0}
InTypes (PcDisplacement t) = t < 2 ^ 32
InTypes (PcIndex t x) = t < 2 ^ 32
InTypes (Extended base w z outer) = (w < 65536) × Fits32 z × Fits32 outer
InTypes (Absolute a width) = a < 2 ^ 64

-- the numbers of an instruction are of their declared types, where no check says so
abbrev pub TrapInTypes : TrapOperand → Type 0
TrapInTypes trap.None = Unit {0}
TrapInTypes (trap.Word v) = v < 65536
TrapInTypes (trap.Long v) = v < 2 ^ 32

abbrev pub InstructionInTypes : Instruction → Type 0
InstructionInTypes (IntoRegister op o r s) = InTypes o
InstructionInTypes (MOVEM direction s mask o) = (mask < 65536) × InTypes o
InstructionInTypes (Transfer op direction s r o) = InTypes o
InstructionInTypes (Pair op o d s) = InTypes o × InTypes d
InstructionInTypes (Quick op n o s) = InTypes o
InstructionInTypes (MOVEQ v r) = v < 256
InstructionInTypes (ImmediateInto op v o s) = InTypes o
InstructionInTypes (WordIntoData op o r sign) = InTypes o
InstructionInTypes (SWAP r) = Unit {0}
InstructionInTypes (EXG x y) = Unit {0}
InstructionInTypes (UnsizedIntoRegister op o r) = InTypes o
InstructionInTypes (UnsizedOne op o) = InTypes o
InstructionInTypes (UnsizedPair op o d) = InTypes o × InTypes d
InstructionInTypes (EXT r from to) = Unit {0}
InstructionInTypes (OneOperand op o s) = InTypes o
InstructionInTypes (Bcc t condition s) = t < 2 ^ 32
InstructionInTypes (Scc o condition) = InTypes o
InstructionInTypes (DBcc r t condition) = t < 2 ^ 32
InstructionInTypes (Branch op t s) = t < 2 ^ 32
InstructionInTypes (Link op r d) = d < 2 ^ 32
InstructionInTypes (UNLK r) = Unit {0}
InstructionInTypes (Shift op count o direction s) = InTypes count × InTypes o
InstructionInTypes (Vector op v) = Unit {0}
InstructionInTypes (Status op v) = v < 65536
InstructionInTypes (ConditionCode op v) = v < 256
InstructionInTypes (MOVEUSP to r) = Unit {0}
InstructionInTypes (Raw op w) = w < 65536
InstructionInTypes (NoOperand op) = Unit {0}
InstructionInTypes (RTD d) = d < 2 ^ 32
InstructionInTypes (MOVEC to control r) = control < 65536
InstructionInTypes (TRAPcc condition x) = TrapInTypes x
InstructionInTypes (MULL o low high sign) = InTypes o
InstructionInTypes (Pack op o d adjustment) = InTypes o × InTypes d × (adjustment < 65536)
InstructionInTypes (CAS compare update o s) = InTypes o
InstructionInTypes (CAS2 compare1 compare2 update1 update2 pointer1 pointer2 s) = Unit {0}
InstructionInTypes (BF op o f r) = InTypes o
InstructionInTypes (DIVL o quotient remainder wide sign) = InTypes o

-- what `encode` accepts at an address, IllegalWord and SIMHALT apart
abbrev pub Accepted : ℕ → Instruction → Type 0
Accepted a i = InstructionInTypes i × (refusal_of true i a ≡ fine) × Ordinary i

-- each is a word
abbrev pub Words : List ℕ → Type 0
Words [] = Unit {0}
Words (w ∷ ws) = (w < 65536) × Words ws

abbrev pub Longer : ℕ → List ℕ → Type 0
Longer a ws = (v : ℕ) × (rest : List ℕ) × (i : Instruction) × Accepted a i × (words_of i a ≡ ws ++ (v ∷ rest))
