-- What the encoder's laws promise of an answer.
use Rattle.std.specs.Prelude.{true, false, [], ◌≡◌, ℤ, pos, ℕ, ◌≤◌}
use Rattle.isa.specs.declared.Field.{Field}
use Rattle.isa.specs.declared.Field.TheVariants as field
use Rattle.isa.specs.declared.Encoded.{Encoded}
use Rattle.isa.specs.declared.Size.{Size}
use Rattle.isa.specs.declared.Size.TheVariants.{Byte, Word}
use Rattle.isa.specs.declared.Sign.{Sign}
use Rattle.isa.specs.declared.RegisterOperand.{RegisterOperand}
use Rattle.isa.specs.declared.Operand.{Operand}
use Rattle.isa.specs.declared.Operand.TheVariants.{Immediate}
use Rattle.isa.specs.declared.ImmediateOperation.{ImmediateOperation}
use Rattle.isa.specs.declared.RegisterOperation.{RegisterOperation}
use Rattle.isa.specs.declared.PairOperation.{PairOperation}
use Rattle.isa.specs.declared.OneOperation.{OneOperation}
use Rattle.isa.specs.declared.WordOperation.{WordOperation}
use Rattle.isa.specs.declared.UnsizedRegisterOperation.{UnsizedRegisterOperation}
use Rattle.isa.specs.declared.UnsizedOneOperation.{UnsizedOneOperation}
use Rattle.isa.specs.declared.UnsizedPairOperation.{UnsizedPairOperation}
use Rattle.isa.specs.declared.Instruction.{Instruction}
use Rattle.isa.specs.declared.Instruction.TheVariants.{ImmediateInto, IntoRegister, Pair, OneOperand, WordIntoData, UnsizedIntoRegister, UnsizedOne, UnsizedPair}
use Rattle.isa_spec.specs.Code.{unsized_size, unsized_register_size}
use Rattle.isa_spec.specs.Field.{holds, remainder_of}
use Rattle.encode_spec.specs.Item.{out_of_range}
use Rattle.encode_spec.specs.Encode.{encoded_as, encode_of}

-- where `encode` refuses and `size` does not, the number is 2 and the field does not hold the value
pub data OnlyOutOfRange (e : Encoded) : Type 0 where
  accepted : e.number ≡ 0 → OnlyOutOfRange e
  outside : (f : Field) (z : ℤ) → e ≡ encoded_as (out_of_range f z) [] → holds f z ≡ false → OnlyOutOfRange e

-- every accepted count is 1 to 11
pub record Counted (e : Encoded) : Type 0 where
  pub least : 1 ≤ e.count
  pub most : e.count ≤ 11

-- N2: a number that an Immediate of a size holds is written as its remainder is, and what else is refused is refused alike
abbrev pub AsRemainder : Size → (ℕ → Instruction) → Type 0
AsRemainder s i = (v a : ℕ) → holds (field.Immediate s) (pos v) ≡ true → encode_of (i v) a ≡ encode_of (i (remainder_of s v)) a

-- wherever an instruction takes an Immediate of Byte or Word
pub record Remainders : Type 0 where
  pub immediate : (op : ImmediateOperation) (o : Operand) (s : Size) → AsRemainder s (λ v. ImmediateInto op v o s)
  pub into_register_lem : (op : RegisterOperation) (r : RegisterOperand) (s : Size) → AsRemainder s (λ v. IntoRegister op (Immediate v) r s)
  pub pair : (op : PairOperation) (d : Operand) (s : Size) → AsRemainder s (λ v. Pair op (Immediate v) d s)
  pub one-operand : (op : OneOperation) (s : Size) → AsRemainder s (λ v. OneOperand op (Immediate v) s)
  pub word_into_data_lem : (op : WordOperation) (r : RegisterOperand) (sign : Sign) → AsRemainder Word (λ v. WordIntoData op (Immediate v) r sign)
  pub unsized_into_register_lem : (op : UnsizedRegisterOperation) (r : RegisterOperand) → AsRemainder (unsized_register_size op) (λ v. UnsizedIntoRegister op (Immediate v) r)
  pub unsized-one : (op : UnsizedOneOperation) → AsRemainder (unsized_size op) (λ v. UnsizedOne op (Immediate v))
  pub bit_of : (op : UnsizedPairOperation) (o : Operand) → AsRemainder Byte (λ v. UnsizedPair op o (Immediate v))
