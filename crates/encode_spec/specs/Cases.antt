-- 01's cases a to l, and what 02's N2 and N5 say of `encode` and `size`.
use Rattle.std.specs.Prelude.{ℕ, ◌+◌, ◌%◌, ◌^◌, List, [], ◌∷◌, ◌≡◌, ℤ, pos, negsuc, replicate}
use Rattle.isa.specs.declared.Instruction.{Instruction}
use Rattle.isa.specs.declared.RegisterOperand.TheVariants.{Address, Data}
use Rattle.isa.specs.declared.Operand.{Operand}
use Rattle.isa.specs.declared.UnsizedRegisterOperation.{UnsizedRegisterOperation}
use Rattle.isa.specs.declared.UnsizedRegisterOperation.TheVariants.{LEA, CHK, CHKL}
use Rattle.isa.specs.declared.UnsizedOneOperation.TheVariants.{MOVEtoCCR, MOVEtoSR}
use Rattle.isa.specs.declared.Instruction.TheVariants.{UnsizedIntoRegister, UnsizedOne, Quick, OneOperand, Bcc, Branch, Pair, SWAP, BF, MULL, ImmediateInto, UnsizedPair, Shift}
use Rattle.isa.specs.declared.Size.{Size}
use Rattle.isa.specs.declared.Size.TheVariants.{Byte, Word, Long}
use Rattle.isa.specs.declared.Operand.TheVariants.{Register, Absolute, Immediate, PostIndirect, PreIndirect, PcDisplacement, Extended}
use Rattle.isa.specs.declared.QuickOperation.TheVariants.{ADDQ}
use Rattle.isa.specs.declared.OneOperation.TheVariants.{CLR}
use Rattle.isa.specs.declared.BranchOperation.{BranchOperation}
use Rattle.isa.specs.declared.BranchOperation.TheVariants.{BRA}
use Rattle.isa.specs.declared.BranchSize.{BranchSize}
use Rattle.isa.specs.declared.Condition.{Condition}
use Rattle.isa.specs.declared.Condition.TheVariants.{True, False}
use Rattle.isa.specs.declared.Sign.TheVariants.{Signed}
use Rattle.std.specs.declared.option.Option.TheVariants.{None}
use Rattle.isa.specs.declared.BitFieldOperation.{BitFieldOperation}
use Rattle.isa.specs.declared.PairOperation.TheVariants.{MOVE}
use Rattle.isa.specs.declared.ImmediateOperation.TheVariants.{ADDI}
use Rattle.isa.specs.declared.UnsizedPairOperation.TheVariants.{BTST}
use Rattle.isa.specs.declared.ShiftOperation.TheVariants.{LSd}
use Rattle.isa.specs.declared.ShiftDirection.TheVariants.{Left}
use Rattle.encode_spec.specs.Item.{fine}
use Rattle.encode_spec.specs.Encode.{encoded_as, encode_of, size_of}
use Rattle.isa.specs.declared.AddressWidth.TheVariants as width
use Rattle.isa.specs.declared.BranchSize.TheVariants as branch
use Rattle.isa.specs.declared.FieldValue.TheVariants as value

-- an instruction at an address has these words, or is refused by this number, detail and value, or by number 2 with this field and value
abbrev pub Has : Instruction → ℕ → List ℕ → Type 0
Has i a ws = encode_of i a ≡ encoded_as fine ws

abbrev pub Refused : Instruction → ℕ → ℕ → ℕ → ℤ → Type 0
Refused i a number detail z = encode_of i a ≡ record { words = replicate 11 0; count = 0; number = number; detail = detail; value = z }

abbrev pub OutOf : Instruction → ℕ → ℕ → ℤ → Type 0
OutOf i a field z = Refused i a 2 field z

abbrev pub lea : Operand → ℕ → Instruction
lea o n = UnsizedIntoRegister LEA o (Address n)

abbrev pub addq : ℕ → Instruction
addq n = Quick ADDQ n (Register (Data 1)) Long

abbrev pub clr : ℕ → Instruction
clr a = OneOperand CLR (Absolute a width.Word) Word

abbrev pub bra_short : ℕ → Instruction
bra_short t = Branch BRA t branch.Short

pub record Table : Type 0 where
  pub a : (at : ℕ) → Has (addq 8) at (0x5081 ∷ [])
  pub a_0 : (at : ℕ) → OutOf (addq 0) at 10 (pos 0)
  pub a_9 : (at : ℕ) → OutOf (addq 9) at 10 (pos 9)
  pub b : (at : ℕ) → Has (Pair MOVE (PostIndirect 0) (PreIndirect 1) Word) at (0x3318 ∷ [])
  pub c : (at : ℕ) → Has (Pair MOVE (Immediate 0x12345678) (Register (Data 3)) Long) at (0x263C ∷ 0x1234 ∷ 0x5678 ∷ [])
  pub d : Has (lea (PcDisplacement 0x100A) 2) 0x1000 (0x45FA ∷ 0x0008 ∷ [])
  pub e : Has (Branch BRA 0x1000 branch.Word) 0x1000 (0x6000 ∷ 0xFFFE ∷ [])
  pub f : Has (bra_short 0x1081) 0x1000 (0x607F ∷ [])
  pub f_far : OutOf (bra_short 0x1082) 0x1000 1 (pos 128)
  pub f_next : OutOf (bra_short 0x1002) 0x1000 1 (pos 0)
  pub f_back : Has (bra_short 0x0F82) 0x1000 (0x6080 ∷ [])
  pub g : Has (Branch BRA 0 branch.Word) 0xFFFFFFFE (0x6000 ∷ 0x0000 ∷ [])
  pub h : (at : ℕ) → Has (clr 0xFFFF8000) at (0x4278 ∷ 0x8000 ∷ [])
  pub h_short : (at : ℕ) → OutOf (clr 0x8000) at 7 (pos 32768)
  pub h_long : (at : ℕ) → OutOf (clr 0x100000000) at 8 (pos 4294967296)
  pub h_first : (at : ℕ) → OutOf (clr 0x100008000) at 8 (pos 4295000064)
  pub i : (at : ℕ) → OutOf (SWAP (Data 8)) at 14 (pos 8)
  pub i_size : size_of (SWAP (Data 8)) ≡ record { size = 0; number = 2; detail = 14; value = pos 8 }
  pub j : (at : ℕ) (op : BitFieldOperation) → OutOf (BF op (Register (Data 0)) (record { offset = value.Register 9; width = value.Immediate 20 }) 0) at 20 (pos 20)
  pub k : (at : ℕ) → Has (MULL (Register (Data 1)) 2 None Signed) at (0x4C01 ∷ 0x2800 ∷ [])
  pub l : (at : ℕ) → Has (lea (Extended 0 0x0110 (pos 0) (pos 0)) 0) at (0x41F0 ∷ 0x0110 ∷ [])
  pub l_1 : (at : ℕ) → OutOf (lea (Extended 0 0x0110 (pos 1) (pos 0)) 0) at 19 (pos 1)

-- N2: a number to D0, as a bound, as a byte with a dynamic bit number, as a static bit number, as a count
abbrev pub addi : ℕ → Size → Instruction
addi v s = ImmediateInto ADDI v (Register (Data 0)) s

abbrev pub move : ℕ → Size → Instruction
move v s = Pair MOVE (Immediate v) (Register (Data 0)) s

abbrev pub bound : UnsizedRegisterOperation → ℕ → Instruction
bound op v = UnsizedIntoRegister op (Immediate v) (Data 0)

abbrev pub dynamic_bit : ℕ → Instruction
dynamic_bit v = UnsizedPair BTST (Register (Data 1)) (Immediate v)

abbrev pub static_bit : ℕ → Instruction
static_bit v = UnsizedPair BTST (Immediate v) (Register (Data 0))

abbrev pub shift_by : ℕ → Instruction
shift_by v = Shift LSd (Immediate v) (Register (Data 0)) Left Word

pub record Negatives : Type 0 where
  pub byte : (at : ℕ) → Has (addi 4294967295 Byte) at (0x0600 ∷ 0x00FF ∷ [])
  pub word : (at : ℕ) → Has (addi 4294967295 Word) at (0x0640 ∷ 0xFFFF ∷ [])
  pub long : (at : ℕ) → Has (addi 4294967295 Long) at (0x0680 ∷ 0xFFFF ∷ 0xFFFF ∷ [])
  pub byte-lowest : (at : ℕ) → Has (move 4294967168 Byte) at (0x103C ∷ 0x0080 ∷ [])
  pub byte-below : (at : ℕ) → OutOf (move 4294967167 Byte) at 9 (pos 4294967167)
  pub byte_top : (at : ℕ) → Has (move 255 Byte) at (0x103C ∷ 0x00FF ∷ [])
  pub byte_past : (at : ℕ) → OutOf (move 256 Byte) at 9 (pos 256)
  pub byte-size : size_of (move 4294967167 Byte) ≡ record { size = 4; number = 0; detail = 0; value = pos 0 }
  pub word-lowest : (at : ℕ) → Has (move 4294934528 Word) at (0x303C ∷ 0x8000 ∷ [])
  pub word_below : (at : ℕ) → OutOf (move 4294934527 Word) at 9 (pos 4294934527)
  pub word_top : (at : ℕ) → Has (move 65535 Word) at (0x303C ∷ 0xFFFF ∷ [])
  pub word_past : (at : ℕ) → OutOf (move 65536 Word) at 9 (pos 65536)
  pub to_ccr : (at : ℕ) → Has (UnsizedOne MOVEtoCCR (Immediate 4294967168)) at (0x44FC ∷ 0xFF80 ∷ [])
  pub to_sr : (at : ℕ) → Has (UnsizedOne MOVEtoSR (Immediate 4294967295)) at (0x46FC ∷ 0xFFFF ∷ [])
  pub bound-word : (at : ℕ) → Has (bound CHK 4294967295) at (0x41BC ∷ 0xFFFF ∷ [])
  pub bound-long : (at : ℕ) → Has (bound CHKL 4294967295) at (0x413C ∷ 0xFFFF ∷ 0xFFFF ∷ [])
  pub dynamic_bit_lem : (at : ℕ) → Has (dynamic_bit 4294967295) at (0x033C ∷ 0x00FF ∷ [])
  pub static_bit_lem : (at : ℕ) → OutOf (static_bit 4294967295) at 12 (pos 4294967295)
  pub count : (at : ℕ) → OutOf (shift_by 4294967295) at 10 (pos 4294967295)

-- N5: what `size` gives: a size, or 0 and a refusal
abbrev pub Sized : Instruction → ℕ → ℕ → ℕ → Type 0
Sized i n number detail = size_of i ≡ record { size = n; number = number; detail = detail; value = pos 0 }

-- N5: the conditions of Bcc: all but True and False, which are BRA and BSR
abbrev pub OfBcc : Condition → Type 0
OfBcc c = (c ≡ True → ⊥) × (c ≡ False → ⊥)

-- N5: at every address a short branch to its own address plus 1 is refused by its distance of -1, as one to the next word is by 0, and keeps its size;
-- Bcc on True or False has its reason first; BRA of -2 and of 1 is written
pub record ShortBranches : Type 0 where
  pub minus_one : (op : BranchOperation) (at : ℕ) → OutOf (Branch op ((at + 1) % 2 ^ 32) branch.Short) at 1 (negsuc 0)
  pub zero : (op : BranchOperation) (at : ℕ) → OutOf (Branch op ((at + 2) % 2 ^ 32) branch.Short) at 1 (pos 0)
  pub size : (op : BranchOperation) (t : ℕ) → Sized (Branch op t branch.Short) 2 0 0
  pub bcc_minus-one : (c : Condition) (at : ℕ) → OfBcc c → OutOf (Bcc ((at + 1) % 2 ^ 32) c branch.Short) at 1 (negsuc 0)
  pub bcc_zero : (c : Condition) (at : ℕ) → OfBcc c → OutOf (Bcc ((at + 2) % 2 ^ 32) c branch.Short) at 1 (pos 0)
  pub bcc_size : (c : Condition) (t : ℕ) → OfBcc c → Sized (Bcc t c branch.Short) 2 0 0
  pub bcc_true : (t at : ℕ) (s : BranchSize) → Refused (Bcc t True s) at 3 36 (pos 0) × Sized (Bcc t True s) 0 3 36
  pub bcc_false : (t at : ℕ) (s : BranchSize) → Refused (Bcc t False s) at 3 36 (pos 0) × Sized (Bcc t False s) 0 3 36
  pub minus-two : (at : ℕ) → Has (bra_short (at % 2 ^ 32)) at (0x60FE ∷ [])
  pub one : (at : ℕ) → Has (bra_short ((at + 3) % 2 ^ 32)) at (0x6001 ∷ [])
