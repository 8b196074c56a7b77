-- What the laws of the second reader speak of.
use Rattle.std.specs.Prelude.{ℕ, ◌/◌, ◌%◌, ◌≡◌, Bool, false, not, ◌||◌, eqb}
use Rattle.isa.specs.declared.Size.{Size}
use Rattle.isa.specs.declared.TargetDirection.{TargetDirection}
use Rattle.isa.specs.declared.ShiftDirection.{ShiftDirection}
use Rattle.isa.specs.declared.Sign.{Sign}
use Rattle.isa.specs.declared.Condition.{Condition}
use Rattle.isa.specs.declared.RegisterOperand.{RegisterOperand}
use Rattle.std.specs.declared.option.Option.{Option}
use Rattle.isa.specs.declared.BitField.{BitField}
use Rattle.isa.specs.declared.BitFieldOperation.{BitFieldOperation}
use Rattle.isa.specs.declared.RegisterOperation.{RegisterOperation}
use Rattle.isa.specs.declared.TransferOperation.{TransferOperation}
use Rattle.isa.specs.declared.PairOperation.{PairOperation}
use Rattle.isa.specs.declared.QuickOperation.{QuickOperation}
use Rattle.isa.specs.declared.ImmediateOperation.{ImmediateOperation}
use Rattle.isa.specs.declared.WordOperation.{WordOperation}
use Rattle.isa.specs.declared.UnsizedRegisterOperation.{UnsizedRegisterOperation}
use Rattle.isa.specs.declared.UnsizedOneOperation.{UnsizedOneOperation}
use Rattle.isa.specs.declared.UnsizedPairOperation.{UnsizedPairOperation}
use Rattle.isa.specs.declared.OneOperation.{OneOperation}
use Rattle.isa.specs.declared.ShiftOperation.{ShiftOperation}
use Rattle.isa.specs.declared.PackOperation.{PackOperation}
use Rattle.isa.specs.declared.Operand.{Operand}
use Rattle.isa.specs.declared.Instruction.{Instruction}
use Rattle.isa.specs.declared.Instruction.TheVariants.{IntoRegister, MOVEM, Transfer, Pair, Quick, ImmediateInto, WordIntoData, UnsizedIntoRegister, UnsizedOne, UnsizedPair, OneOperand, Scc, Shift, MULL, Pack, CAS, BF, DIVL}
use Rattle.isa_spec.specs.ExtensionWord.{is_full}
use Rattle.read_spec.specs.Reading.{Reading, Read}
use Rattle.m68000_spec.specs.Of68000.{of68000}

-- it reads an instruction that is not of the MC68000
abbrev pub Unmarked : Reading → Type 0
Unmarked r = (i : Instruction) × (n : ℕ) × (r ≡ Read i n) × (of68000 i ≡ false)

-- the operand o stands in an instruction
pub data HasOperand (o : Operand) : Instruction → Type 0 where
  into_register_lem : (op : RegisterOperation) (r : RegisterOperand) (s : Size) → HasOperand o (IntoRegister op o r s)
  movem : (direction : TargetDirection) (s : Size) (mask : ℕ) → HasOperand o (MOVEM direction s mask o)
  transfer : (op : TransferOperation) (direction : TargetDirection) (s : Size) (r : RegisterOperand) → HasOperand o (Transfer op direction s r o)
  pair_source : (op : PairOperation) (d : Operand) (s : Size) → HasOperand o (Pair op o d s)
  pair_destination : (op : PairOperation) (x : Operand) (s : Size) → HasOperand o (Pair op x o s)
  quick : (op : QuickOperation) (n : ℕ) (s : Size) → HasOperand o (Quick op n o s)
  immediate_into_lem : (op : ImmediateOperation) (v : ℕ) (s : Size) → HasOperand o (ImmediateInto op v o s)
  word_into_data_lem : (op : WordOperation) (r : RegisterOperand) (sign : Sign) → HasOperand o (WordIntoData op o r sign)
  unsized_into_register_lem : (op : UnsizedRegisterOperation) (r : RegisterOperand) → HasOperand o (UnsizedIntoRegister op o r)
  unsized-one : (op : UnsizedOneOperation) → HasOperand o (UnsizedOne op o)
  unsized_source : (op : UnsizedPairOperation) (d : Operand) → HasOperand o (UnsizedPair op o d)
  unsized_destination : (op : UnsizedPairOperation) (x : Operand) → HasOperand o (UnsizedPair op x o)
  one-operand : (op : OneOperation) (s : Size) → HasOperand o (OneOperand op o s)
  scc : (condition : Condition) → HasOperand o (Scc o condition)
  shift_count : (op : ShiftOperation) (x : Operand) (direction : ShiftDirection) (s : Size) → HasOperand o (Shift op o x direction s)
  shift_operand : (op : ShiftOperation) (count : Operand) (direction : ShiftDirection) (s : Size) → HasOperand o (Shift op count o direction s)
  mull : (low : ℕ) (high : Option ℕ) (sign : Sign) → HasOperand o (MULL o low high sign)
  pack_source : (op : PackOperation) (d : Operand) (adjustment : ℕ) → HasOperand o (Pack op o d adjustment)
  pack_destination : (op : PackOperation) (x : Operand) (adjustment : ℕ) → HasOperand o (Pack op x o adjustment)
  cas : (compare update : ℕ) (s : Size) → HasOperand o (CAS compare update o s)
  bit_field_lem : (op : BitFieldOperation) (f : BitField) (r : ℕ) → HasOperand o (BF op o f r)
  divl : (quotient remainder : ℕ) (wide : Bool) (sign : Sign) → HasOperand o (DIVL o quotient remainder wide sign)

-- an extension word that is full, or has a scale above 1, which is bits 10 and 9
abbrev pub is_full_or_scaled : ℕ → Bool
is_full_or_scaled w = is_full w || not (eqb (w / 512 % 4) 0)
