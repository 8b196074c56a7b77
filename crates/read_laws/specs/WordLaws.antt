-- What an accepted instruction lays down are words: below 65,536.
use Rattle.std.specs.Prelude.{ℕ, ◌^◌, ◌<◌, ◌≡◌, Bool, true, false, cond, List, ℤ, pos}
use Rattle.std.proofs.Common.{◌∙◌, sym, arith}
use Rattle.isa.specs.declared.Size.{Size}
use Rattle.isa.specs.declared.Size.TheVariants.{Byte, Word, Long}
use Rattle.isa.specs.declared.AddressWidth.TheVariants as width
use Rattle.isa.specs.declared.DisplacementSize.{DisplacementSize}
use Rattle.isa.specs.declared.DisplacementSize.TheVariants as displacement
use Rattle.isa.specs.declared.Field.{Field}
use Rattle.isa.specs.declared.Field.TheVariants as field
use Rattle.isa.specs.declared.Operand.{Operand}
use Rattle.isa.specs.declared.Operand.TheVariants.{Immediate, Register, Indirect, PostIndirect, PreIndirect, IndirectDisplacement, IndirectIndex, PcDisplacement, PcIndex, Extended, Absolute}
use Rattle.isa_spec.specs.ExtensionWord.{is_full, base_size, outer_size}
use Rattle.isa_spec.specs.Field.{holds}
use Rattle.encode_spec.specs.Item.{Item, ranged, words_in}
use Rattle.encode_spec.specs.Ea.{ea_items, displacement_items, base_displacement, full_items, scaled_items, immediate_words}
use Rattle.read_spec.specs.declared.Specifier.{Specifier}
use Rattle.read_spec.specs.declared.Specifier.TheVariants as specifier
use Rattle.read_spec.specs.declared.Layout.{Layout}
use Rattle.read_spec.specs.declared.Tail.{Tail}
use Rattle.read_spec.specs.Decoded.{word_of}
use Rattle.encode_facts.specs.Immediates.{long-holds}
use Rattle.encode_facts.specs.Items.{fine_both, range_holds, words_in_append}
use Rattle.base_facts.specs.Tests.{ltb_is}
use Rattle.read_operand_laws.specs.TreeLaws.{words_append}
use Rattle.read_spec.specs.Accepted.{Words}
use Rattle.read_operand_laws.specs.Stands.{Stands}
use Rattle.isa_facts.specs.Code.{general_lt, long_lt}
use Rattle.read_operand_laws.specs.TailStands.{specifier_words, SpecifierStands, source_at, destination_at, TailStands, tail_words}

displacement_words : (k : DisplacementSize) (z : ℤ) (f : Field) → Words (words_in (displacement_items k z f))
displacement_words displacement.Null z f = tt
displacement_words displacement.Word z f = (omega arith, tt)
displacement_words displacement.Long z f = (omega arith, (omega arith, tt))

immediate_words_lem : (s : Size) (v : ℕ) → holds (field.Immediate s) (pos v) ≡ true → Words (words_in (immediate_words v s))
immediate_words_lem Byte v h = (omega arith, tt)
immediate_words_lem Word v h = (omega arith, tt)
immediate_words_lem Long v h = let l = ltb_is v (2 ^ 32) (sym (long-holds v) ∙ h) in (omega arith, (omega arith, tt))

cond_words : (b : Bool) (xs ys : List Item) → Words (words_in xs) → Words (words_in ys) → Words (words_in (cond b xs ys))
cond_words true xs ys p q = p
cond_words false xs ys p q = q

full_words : (w : ℕ) (z outer : ℤ) → w < 65536 → Words (words_in (full_items w z outer))
full_words w z outer h = (
  h,
  rw (words_in_append (displacement_items (base_size w) z field.BaseDisplacement) (displacement_items (outer_size w) outer field.OuterDisplacement))
      (words_append (words_in (displacement_items (base_size w) z field.BaseDisplacement))
      (words_in (displacement_items (outer_size w) outer field.OuterDisplacement))
      (displacement_words (base_size w) z field.BaseDisplacement) (displacement_words (outer_size w) outer field.OuterDisplacement)),
)

pub operand_words : (s : Size) (at ea : ℕ) (o : Operand) → Stands s at ea o → Words (words_in (ea_items o s at))
operand_words s at ea (Immediate v) h = immediate_words_lem s v (range_holds (field.Immediate s) (pos v) (fine_both (ranged true (field.Immediate s) (pos v)) _ h.0).0)
operand_words s at ea (Register r) h = tt
operand_words s at ea (Indirect n) h = tt
operand_words s at ea (PostIndirect n) h = tt
operand_words s at ea (PreIndirect n) h = tt
operand_words s at ea (IndirectDisplacement z base) h = (omega arith, tt)
operand_words s at ea (IndirectIndex base z x) h = (omega (arith, general_lt x.register, long_lt x.size), tt)
operand_words s at ea (PcDisplacement t) h = (omega arith, tt)
operand_words s at ea (PcIndex t x) h = (omega (arith, general_lt x.register, long_lt x.size), tt)
operand_words s at ea (Extended base w z outer) h =
    cond_words (is_full w) (full_items w (base_displacement base w z at) outer) (scaled_items base w (base_displacement base w z at))
    (full_words w (base_displacement base w z at) outer h.2.0) (omega (arith, h.2.0), tt)
operand_words s at ea (Absolute a width.Word) h = (omega arith, tt)
operand_words s at ea (Absolute a width.Long) h = (omega arith, (omega arith, tt))

specifier_words_lem : (k : Specifier) (v : ℕ) → SpecifierStands k v → Words (specifier_words k v)
specifier_words_lem specifier.Nothing v h = tt
specifier_words_lem specifier.Word v h = (h.0, tt)
specifier_words_lem specifier.Byte v h = (h.0, tt)
specifier_words_lem specifier.General v h = (h.0, tt)
specifier_words_lem specifier.Multiply v h = (h.0, tt)
specifier_words_lem specifier.Divide v h = (h.0, tt)
specifier_words_lem specifier.Compare v h = (h.0, tt)
specifier_words_lem specifier.BitField v h = (h.0, tt)
specifier_words_lem specifier.Long v h = (omega (arith, h.0), (omega arith, tt))
specifier_words_lem specifier.CompareTwo v h = (omega (arith, h.0), (omega arith, tt))

pub following_words : (a : ℕ) (l : Layout) (f : Tail) → TailStands a l f → Words (tail_words a l f)
following_words a l f h =
    words_append (specifier_words l.specifier f.value) _ (specifier_words_lem l.specifier f.value h.1)
    (words_append (words_in (ea_items f.source l.size (source_at a l f))) _
    (operand_words l.size (source_at a l f) l.source f.source h.2)
    (operand_words l.size (destination_at a l f) l.destination f.destination h.3))

pub word_lt : (line x opmode ea : ℕ) → line < 16 → x < 8 → opmode < 8 → ea < 64 → word_of line x opmode ea < 65536
word_lt line x opmode ea hl hx ho he = omega arith
