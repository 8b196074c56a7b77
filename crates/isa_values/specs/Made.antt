-- What a made extension word says: each reading of a full word gives back the part that it was made of, a register
-- number modulo 8.
use Rattle.std.specs.Prelude.{ℕ, ◌+◌, ◌*◌, ◌/◌, ◌%◌, ◌<◌, ◌≡◌, refl, Bool, true, false, cond, ltb, eqb}
use Rattle.std.proofs.Common.{ap, ◌∙◌, arith}
use Rattle.isa.specs.declared.Size.{Size}
use Rattle.isa.specs.declared.Size.TheVariants as size
use Rattle.isa.specs.declared.RegisterOperand.{RegisterOperand}
use Rattle.isa.specs.declared.RegisterOperand.TheVariants.{Address, Data}
use Rattle.isa.specs.declared.IndexRegister.{IndexRegister}
use Rattle.isa.specs.declared.DisplacementSize.{DisplacementSize}
use Rattle.isa.specs.declared.DisplacementSize.TheVariants.{Null, Word, Long}
use Rattle.isa.specs.declared.Indirection.{Indirection}
use Rattle.isa.specs.declared.Indirection.TheVariants.{None, Preindexed, Postindexed}
use Rattle.isa_spec.specs.Code.{long_bit, general, bit}
use Rattle.base_facts.specs.Tests.{cond_lt}
use Rattle.isa_facts.specs.Code.{bit_lt, general_lt, long_lt}
use Rattle.isa_spec.specs.ExtensionWord.{is_full, base_suppressed, index_suppressed, base_size, indirection_of, outer_size_as, outer_size}
use Rattle.isa_values.specs.DisplacementSize.{displacement_code}
use Rattle.isa_values.specs.ExtensionWord.{index_operand, index_size, scale_shift, scale_code, index_bits, indirection_code, full_word}

bit_test : (b : Bool) → eqb (bit b) 1 ≡ b
bit_test true = refl
bit_test false = refl

size_small : (d : DisplacementSize) → displacement_code d < 4
size_small Null = omega arith
size_small Word = omega arith
size_small Long = omega arith

kind_small : (i : Indirection) (d : DisplacementSize) → indirection_code i d < 8
kind_small None d = omega arith
kind_small Preindexed d = omega (arith, size_small d)
kind_small Postindexed d = omega (arith, size_small d)

scale_small : (s : ℕ) → scale_code s < 4
scale_small s =
    cond_lt (eqb s 2) 1 _ 4 (omega arith)
    (cond_lt (eqb s 4) 2 _ 4 (omega arith) (cond_lt (eqb s 8) 3 0 4 (omega arith) (omega arith)))

-- the fields of a full word
record Fields (w g l k b i d t : ℕ) : Type 0 where
  address : w / 32768 % 2 ≡ g / 8
  number : w / 4096 % 8 ≡ g % 8
  long : w / 2048 % 2 ≡ l
  scale : w / 512 % 4 ≡ k
  full : w / 256 % 2 ≡ 1
  base : w / 128 % 2 ≡ b
  index : w / 64 % 2 ≡ i
  size : w / 16 % 4 ≡ d
  low : w % 8 ≡ t

fields : (g l k b i d t : ℕ) → g < 16 → l < 2 → k < 4 → b < 2 → i < 2 → d < 4 → t < 8
    → Fields (g * 4096 + l * 2048 + k * 512 + 256 + b * 128 + i * 64 + (d * 16 + t)) g l k b i d t
fields g l k b i d t hg hl hk hb hi hd ht =
    record {
      address = omega arith;
      number = omega arith;
      long = omega arith;
      scale = omega arith;
      full = omega arith;
      base = omega arith;
      index = omega arith;
      size = omega arith;
      low = omega arith;
    }

-- a register by the low three bits of its number
abbrev pub lowered : RegisterOperand → RegisterOperand
lowered (Address n) = Address (n % 8)
lowered (Data n) = Data (n % 8)

operand_read : (r : RegisterOperand) (w : ℕ) → w / 32768 % 2 ≡ general r / 8 → w / 4096 % 8 ≡ general r % 8 → index_operand w ≡ lowered r
operand_read (Address n) w e f =
    let a : w / 32768 % 2 ≡ 1 = omega arith in
    let b : w / 4096 % 8 ≡ n % 8 = omega arith in
    rw (a, b)
operand_read (Data n) w e f =
    let a : w / 32768 % 2 ≡ 0 = omega arith in
    let b : w / 4096 % 8 ≡ n % 8 = omega arith in
    rw (a, b)

-- an index is read as a word or a long
abbrev pub widened : Size → Size
widened size.Byte = size.Word
widened size.Word = size.Word
widened size.Long = size.Long

width_read : (s : Size) → cond (eqb (long_bit s) 1) size.Long size.Word ≡ widened s
width_read size.Byte = refl
width_read size.Word = refl
width_read size.Long = refl

size-read : (d : DisplacementSize) → cond (eqb (displacement_code d) 2) Word (cond (eqb (displacement_code d) 3) Long Null) ≡ d
size-read Null = refl
size-read Word = refl
size-read Long = refl

abbrev kind_of : ℕ → Indirection
kind_of k = cond (eqb k 0) None (cond (ltb k 4) Preindexed Postindexed)

kind_read : (i : Indirection) (d : DisplacementSize) → kind_of (indirection_code i d) ≡ i
kind_read None d = refl
kind_read Preindexed Null = refl
kind_read Preindexed Word = refl
kind_read Preindexed Long = refl
kind_read Postindexed Null = refl
kind_read Postindexed Word = refl
kind_read Postindexed Long = refl

-- the outer displacement, null without indirection
abbrev pub outer_of : Indirection → DisplacementSize → DisplacementSize
outer_of None d = Null
outer_of Preindexed d = d
outer_of Postindexed d = d

outer_read : (i : Indirection) (d : DisplacementSize) → outer_size_as i (indirection_code i d) ≡ outer_of i d
outer_read None d = refl
outer_read Preindexed Null = refl
outer_read Preindexed Word = refl
outer_read Preindexed Long = refl
outer_read Postindexed Null = refl
outer_read Postindexed Word = refl
outer_read Postindexed Long = refl

outer_by : (i : Indirection) (v w : ℕ) → v % 4 ≡ w % 4 → outer_size_as i v ≡ outer_size_as i w
outer_by None v w e = refl
outer_by Preindexed v w e = rw e
outer_by Postindexed v w e = rw e

module _ (x : IndexRegister) (s : ℕ) (bs is : Bool) (bd : DisplacementSize) (i : Indirection) (od : DisplacementSize) where
  made : Fields (full_word x s bs is bd i od) (general x.register) (long_bit x.size) (scale_code s) (bit bs) (bit is) (displacement_code bd) (indirection_code i od)
  made =
      fields (general x.register) (long_bit x.size) (scale_code s) (bit bs) (bit is) (displacement_code bd) (indirection_code i od)
      (general_lt x.register) (long_lt x.size) (scale_small s) (bit_lt bs) (bit_lt is) (size_small bd) (kind_small i od)

  pub made-operand : index_operand (full_word x s bs is bd i od) ≡ lowered x.register
  made-operand = operand_read x.register (full_word x s bs is bd i od) made.address made.number

  pub made-width : index_size (full_word x s bs is bd i od) ≡ widened x.size
  made-width = rw made.long (width_read x.size)

  pub made_scale : scale_shift (full_word x s bs is bd i od) ≡ scale_code s
  made_scale = made.scale

  pub made-full : is_full (full_word x s bs is bd i od) ≡ true
  made-full = rw made.full

  pub made_base : base_suppressed (full_word x s bs is bd i od) ≡ bs
  made_base = rw (made.full, made.base) (bit_test bs)

  pub made-index : index_suppressed (full_word x s bs is bd i od) ≡ is
  made-index = rw (made.full, made.index) (bit_test is)

  pub made-size : base_size (full_word x s bs is bd i od) ≡ bd
  made-size = rw made.size (size-read bd)

  pub made_indirection : indirection_of (full_word x s bs is bd i od) ≡ i
  made_indirection = rw (made.full, made.low) (kind_read i od)

  pub made_outer : outer_size (full_word x s bs is bd i od) ≡ outer_of i od
  made_outer =
      ap (λ (k : Indirection). outer_size_as k (full_word x s bs is bd i od)) made_indirection
      ∙ outer_by i _ (indirection_code i od) (omega (arith, made.low))
      ∙ outer_read i od

brief_bit : (g l k : ℕ) → (g * 4096 + l * 2048 + k * 512) / 256 % 2 ≡ 0
brief_bit g l k = omega arith

-- a brief word is no full one
pub made_brief : (x : IndexRegister) (s : ℕ) → is_full (index_bits x s) ≡ false
made_brief x s = rw (brief_bit (general x.register) (long_bit x.size) (scale_code s))
