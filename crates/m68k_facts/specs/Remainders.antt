-- A number that an Immediate holds is written as its remainder is, instruction by instruction (02, N2).
use Rattle.std.specs.Prelude.{ℕ, ◌%◌, ◌≡◌, refl, Bool, true, false}
use Rattle.std.proofs.Common.{arith}
use Rattle.isa.specs.declared.Size.{Size}
use Rattle.isa.specs.declared.Size.TheVariants.{Byte, Word}
use Rattle.isa.specs.declared.Sign.{Sign}
use Rattle.isa.specs.declared.RegisterOperand.{RegisterOperand}
use Rattle.isa.specs.declared.Operand.{Operand}
use Rattle.isa.specs.declared.Operand.TheVariants.{Immediate}
use Rattle.isa.specs.declared.ImmediateOperation.{ImmediateOperation}
use Rattle.isa.specs.declared.RegisterOperation.{RegisterOperation}
use Rattle.isa.specs.declared.RegisterOperation.TheVariants.{ADDA, SUBA, CMPA, MOVEA, CMP, CHK2, CMP2}
use Rattle.isa.specs.declared.PairOperation.{PairOperation}
use Rattle.isa.specs.declared.PairOperation.TheVariants.{MOVE, ADD, SUB, ADDX, SUBX, CMPM, OR, AND, EOR}
use Rattle.isa.specs.declared.OneOperation.{OneOperation}
use Rattle.isa.specs.declared.OneOperation.TheVariants.{CLR, NEG, NEGX, NOT, TST}
use Rattle.isa.specs.declared.WordOperation.{WordOperation}
use Rattle.isa.specs.declared.WordOperation.TheVariants.{DIVx, MULx}
use Rattle.isa.specs.declared.UnsizedRegisterOperation.{UnsizedRegisterOperation}
use Rattle.isa.specs.declared.UnsizedRegisterOperation.TheVariants.{LEA, CHK, CHKL}
use Rattle.isa.specs.declared.UnsizedOneOperation.{UnsizedOneOperation}
use Rattle.isa.specs.declared.UnsizedOneOperation.TheVariants.{PEA, NBCD, JSR, JMP, TAS, MOVEtoCCR, MOVEfromCCR, MOVEtoSR, MOVEfromSR}
use Rattle.isa.specs.declared.UnsizedPairOperation.{UnsizedPairOperation}
use Rattle.isa.specs.declared.UnsizedPairOperation.TheVariants.{ABCD, SBCD, BTST, BCLR, BSET, BCHG}
use Rattle.isa.specs.declared.Instruction.TheVariants.{ImmediateInto, IntoRegister, Pair, OneOperand, WordIntoData, UnsizedIntoRegister, UnsizedOne, UnsizedPair}
use Rattle.isa_spec.specs.Code.{unsized_size, unsized_register_size}
use Rattle.encode_spec.specs.Ea.{permits, byte_of_address, is_register, is_immediate, single, with_data, with_address, from_data}
use Rattle.encode_spec.specs.Movement.{move_parts, movea_parts}
use Rattle.encode_spec.specs.Arithmetic.{immediate_parts, into_data_parts, arithmetic_parts, into_address_parts, bounds_parts, extended_parts, cmpm_parts, tst_parts}
use Rattle.encode_spec.specs.Logic.{logical_parts}
use Rattle.encode_spec.specs.Bits.{dynamic_parts, static_parts, bit_parts}
use Rattle.encode_spec.specs.Instruction.{register_parts, pair_parts, word_parts, unsized_register_parts, unsized_one_parts, unsized_pair_parts, one_parts}
use Rattle.encode_spec.specs.Encode.{encode_of}
use Rattle.encode_spec.specs.Promises.{AsRemainder, Remainders}
use Rattle.isa_spec.specs.Field.{remainder_of}
use Rattle.encode_facts.specs.Immediates.{as_remainder}

immediate : (op : ImmediateOperation) (o : Operand) (s : Size) → AsRemainder s (λ v. ImmediateInto op v o s)
unfolding encode_of immediate_parts
immediate op o s v a h = let (k, w) = as_remainder s v h in rw (h, k, w)

into_register_lem : (op : RegisterOperation) (r : RegisterOperand) (s : Size) → AsRemainder s (λ v. IntoRegister op (Immediate v) r s)
unfolding encode_of register_parts into_address_parts movea_parts into_data_parts bounds_parts with_data with_address permits byte_of_address
into_register_lem ADDA r s v a h = let (k, w) = as_remainder s v h in rw (h, k, w)
into_register_lem SUBA r s v a h = let (k, w) = as_remainder s v h in rw (h, k, w)
into_register_lem CMPA r s v a h = let (k, w) = as_remainder s v h in rw (h, k, w)
into_register_lem MOVEA r s v a h = let (k, w) = as_remainder s v h in rw (h, k, w)
into_register_lem CMP r s v a h = let (k, w) = as_remainder s v h in rw (h, k, w)
into_register_lem CHK2 r s v a h = rw (as_remainder s v h).1
into_register_lem CMP2 r s v a h = rw (as_remainder s v h).1

-- into a register, or into memory, where no Immediate is taken
pair_by : (op : PairOperation) (d : Operand) (s : Size) (b : Bool) → is_register d ≡ b → AsRemainder s (λ v. Pair op (Immediate v) d s)
unfolding encode_of pair_parts move_parts arithmetic_parts logical_parts from_data into_data_parts extended_parts cmpm_parts with_data permits byte_of_address
pair_by MOVE d s b e v a h = let (k, w) = as_remainder s v h in rw (h, k, w)
pair_by ADD d s true e v a h = let (k, w) = as_remainder s v h in rw (e, h, k, w)
pair_by ADD d s false e v a h = rw e
pair_by SUB d s true e v a h = let (k, w) = as_remainder s v h in rw (e, h, k, w)
pair_by SUB d s false e v a h = rw e
pair_by OR d s true e v a h = let (k, w) = as_remainder s v h in rw (e, h, k, w)
pair_by OR d s false e v a h = rw e
pair_by AND d s true e v a h = let (k, w) = as_remainder s v h in rw (e, h, k, w)
pair_by AND d s false e v a h = rw e
pair_by ADDX d s b e v a h = refl
pair_by SUBX d s b e v a h = refl
pair_by CMPM d s b e v a h = refl
pair_by EOR d s b e v a h = refl

pair : (op : PairOperation) (d : Operand) (s : Size) → AsRemainder s (λ v. Pair op (Immediate v) d s)
pair op d s = pair_by op d s (is_register d) refl

one-operand : (op : OneOperation) (s : Size) → AsRemainder s (λ v. OneOperand op (Immediate v) s)
unfolding encode_of one_parts single tst_parts permits byte_of_address
one-operand CLR s v a h = refl
one-operand NEG s v a h = refl
one-operand NEGX s v a h = refl
one-operand NOT s v a h = refl
one-operand TST s v a h = let (k, w) = as_remainder s v h in rw (h, k, w)

word_again : (v : ℕ) → v % 65536 % 65536 ≡ v % 65536
word_again v = omega arith

word_into_data_lem : (op : WordOperation) (r : RegisterOperand) (sign : Sign) → AsRemainder Word (λ v. WordIntoData op (Immediate v) r sign)
unfolding encode_of word_parts with_data permits
word_into_data_lem DIVx r sign v a h = rw (h, (as_remainder Word v h).0, word_again v)
word_into_data_lem MULx r sign v a h = rw (h, (as_remainder Word v h).0, word_again v)

unsized_into_register_lem : (op : UnsizedRegisterOperation) (r : RegisterOperand) → AsRemainder (unsized_register_size op) (λ v. UnsizedIntoRegister op (Immediate v) r)
unfolding encode_of unsized_register_parts with_data with_address permits
unsized_into_register_lem LEA r v a h = refl
unsized_into_register_lem CHK r v a h = rw (h, (as_remainder Word v h).0, word_again v)
unsized_into_register_lem CHKL r v a h = refl

unsized-one : (op : UnsizedOneOperation) → AsRemainder (unsized_size op) (λ v. UnsizedOne op (Immediate v))
unfolding encode_of unsized_one_parts single permits
unsized-one PEA v a h = refl
unsized-one NBCD v a h = refl
unsized-one JSR v a h = refl
unsized-one JMP v a h = refl
unsized-one TAS v a h = refl
unsized-one MOVEtoCCR v a h = rw (h, (as_remainder Word v h).0, word_again v)
unsized-one MOVEfromCCR v a h = refl
unsized-one MOVEtoSR v a h = rw (h, (as_remainder Word v h).0, word_again v)
unsized-one MOVEfromSR v a h = refl

byte_again : (v : ℕ) → v % 256 % 256 ≡ v % 256
byte_again v = omega arith

-- an operation on a bit, by what gives its number
bit_by : (op : UnsizedPairOperation) (o : Operand) (b c : Bool) → is_register o ≡ b → is_immediate o ≡ c → AsRemainder Byte (λ v. UnsizedPair op o (Immediate v))
unfolding encode_of unsized_pair_parts extended_parts bit_parts dynamic_parts static_parts with_data permits
bit_by ABCD o b c e f v a h = refl
bit_by SBCD o b c e f v a h = refl
bit_by BTST o true c e f v a h = rw (e, h, (as_remainder Byte v h).0, byte_again v)
bit_by BTST o false true e f v a h = rw (e, f, byte_again v)
bit_by BTST o false false e f v a h = rw (e, f)
bit_by BCLR o true c e f v a h = rw (e, byte_again v)
bit_by BCLR o false true e f v a h = rw (e, f, byte_again v)
bit_by BCLR o false false e f v a h = rw (e, f)
bit_by BSET o true c e f v a h = rw (e, byte_again v)
bit_by BSET o false true e f v a h = rw (e, f, byte_again v)
bit_by BSET o false false e f v a h = rw (e, f)
bit_by BCHG o true c e f v a h = rw (e, byte_again v)
bit_by BCHG o false true e f v a h = rw (e, f, byte_again v)
bit_by BCHG o false false e f v a h = rw (e, f)

pub remainders : Remainders
remainders =
    record {
      immediate = immediate;
      into_register_lem = into_register_lem;
      pair = pair;
      one-operand = one-operand;
      word_into_data_lem = word_into_data_lem;
      unsized_into_register_lem = unsized_into_register_lem;
      unsized-one = unsized-one;
      bit_of = λ op o. bit_by op o (is_register o) (is_immediate o) refl refl;
    }
