-- The numbers of an operand that stands are inside their types. Assumes nothing.
use Rattle.std.specs.Prelude.{ℕ, ◌<◌, ◌^◌, ◌-◌, suc, ◌≡◌, refl, Bool, true, false, ◌||◌, ◌++◌, leb, ltb, ℤ, pos, negsuc}
use Rattle.std.proofs.Common.{sym, ◌∙◌, arith, le-leb, ltb-true, leb-true}
use Rattle.std.proofs.Math.Option as option
use Rattle.isa.specs.declared.Size.{Size}
use Rattle.isa.specs.declared.Size.TheVariants.{Byte, Word, Long}
use Rattle.isa.specs.declared.AddressWidth.{AddressWidth}
use Rattle.isa.specs.declared.AddressWidth.TheVariants as width
use Rattle.isa.specs.declared.RegisterOperand.{RegisterOperand}
use Rattle.isa.specs.declared.RegisterOperand.TheVariants.{Address, Data}
use Rattle.isa.specs.declared.IndexRegister.{IndexRegister}
use Rattle.isa.specs.declared.Operand.{Operand}
use Rattle.isa.specs.declared.Operand.TheVariants.{Immediate, Register, Indirect, PostIndirect, PreIndirect, IndirectDisplacement, IndirectIndex, PcDisplacement, PcIndex, Extended, Absolute}
use Rattle.isa.specs.declared.Field.TheVariants as field
use Rattle.isa_spec.specs.Field.{top_of, also_holds, holds}
use Rattle.isa_spec.specs.Code.{number_of_register}
use Rattle.isa_spec.specs.ExtensionWord.{is_canonical}
use Rattle.isa_spec.specs.IndexBase.{is_base}
use Rattle.encode_spec.specs.Item.{fine, address_verdict}
use Rattle.encode_spec.specs.Ea.{ea_items}
use Rattle.encode_facts.specs.Items.{number_lt, reason_not}
use Rattle.encode_facts.specs.Immediates.{immediate_holds}
use Rattle.numeric_spec.specs.Entry.{is_i32, Inside}
use Rattle.numeric_spec.specs.Payload.{address_width_place, register_form, size_form, index_form, signed_form, operand_form}
use Rattle.read_operand_laws.specs.Facts.{fits, fits_wider, fits_32, displacement_holds, index_displacement_holds}
use Rattle.read_operand_laws.specs.Stands.{Stands}
use Rattle.read_laws.specs.LayingLaws.{passing}
use Rattle.numeric_facts.specs.Exact.{inside_both}
use Rattle.base_facts.specs.Tests.{and-true, never}

pub top_in : (top n : ℕ) → n < top → leb n (top - 1) ≡ true
top_in top n h = le-leb n (top - 1) (omega arith)

pub size_in : (s : Size) → Inside (size_form s)
size_in Byte = (refl, tt)
size_in Word = (refl, tt)
size_in Long = (refl, tt)

width_in_lem : (w : AddressWidth) → leb (address_width_place w) 1 ≡ true
width_in_lem width.Word = refl
width_in_lem width.Long = refl

pub register_in_lem : (r : RegisterOperand) → number_of_register r < 256 → Inside (register_form r)
register_in_lem (Address n) h = (refl, (top_in 256 n h, tt))
register_in_lem (Data n) h = (refl, (top_in 256 n h, tt))

-- a register that the encoder takes
taken_in : (r : RegisterOperand) → number_of_register r < 8 → Inside (register_form r)
taken_in r h = register_in_lem r (omega arith)

base_in : (r : RegisterOperand) → address_verdict r ≡ fine → Inside (register_form r)
base_in (Address n) e = taken_in (Address n) (number_lt n e)
base_in (Data n) e = reason_not 2 e

index_in : (x : IndexRegister) → number_of_register x.register < 8 → Inside (index_form x)
index_in x h = inside_both (register_form x.register) (size_form x.size) (taken_in x.register h) (size_in x.size)

fits_in : (z : ℤ) → fits (2 ^ 31) z ≡ true → is_i32 z ≡ true
fits_in (pos n) e = e
fits_in (negsuc n) e = e

narrow_in : (h : ℕ) (z : ℤ) → leb h (2 ^ 31) ≡ true → fits h z ≡ true → is_i32 z ≡ true
narrow_in h z l e = fits_in z (fits_wider h (2 ^ 31) z (leb-true h (2 ^ 31) l) e)

immediate_in_lem : (s : Size) (v : ℕ) → holds (field.Immediate s) (pos v) ≡ true → leb v (2 ^ 32 - 1) ≡ true
immediate_in_lem s v e = go s (ltb v (suc (top_of s))) refl (sym (immediate_holds s v) ∙ e)
  where
    go : (s : Size) (b : Bool) → ltb v (suc (top_of s)) ≡ b → (b || also_holds (option.some s) (pos v)) ≡ true → leb v (2 ^ 32 - 1) ≡ true
    go Byte true q e = le-leb v (2 ^ 32 - 1) (omega (arith, ltb-true v 256 q))
    go Word true q e = le-leb v (2 ^ 32 - 1) (omega (arith, ltb-true v 65536 q))
    go Long true q e = le-leb v (2 ^ 32 - 1) (omega (arith, ltb-true v (2 ^ 32) q))
    go Byte false q e = (and-true (leb (2 ^ 32 - 128) v) (leb v (2 ^ 32 - 1)) e).1
    go Word false q e = (and-true (leb (2 ^ 32 - 32768) v) (leb v (2 ^ 32 - 1)) e).1
    go Long false q e = never e

pub operand_in : (s : Size) (at ea : ℕ) (o : Operand) → Stands s at ea o → Inside (operand_form o)
operand_in s at ea (Immediate v) h = (refl, (immediate_in_lem s v (passing (ea_items (Immediate v) s at) h.0).0, tt))
operand_in s at ea (Register r) h = (refl, taken_in r (number_lt (number_of_register r) (passing (ea_items (Register r) s at) h.0).0))
operand_in s at ea (Indirect n) h = (refl, (top_in 256 n (omega (arith, number_lt n (passing (ea_items (Indirect n) s at) h.0).0)), tt))
operand_in s at ea (PostIndirect n) h = (refl, (top_in 256 n (omega (arith, number_lt n (passing (ea_items (PostIndirect n) s at) h.0).0)), tt))
operand_in s at ea (PreIndirect n) h = (refl, (top_in 256 n (omega (arith, number_lt n (passing (ea_items (PreIndirect n) s at) h.0).0)), tt))
operand_in s at ea (IndirectDisplacement z base) h =
    let p = passing (ea_items (IndirectDisplacement z base) s at) h.0 in
    (refl, (narrow_in (2 ^ 15) z refl (sym (displacement_holds z) ∙ p.1.0), base_in base p.0))
operand_in s at ea (IndirectIndex base z x) h =
    let p = passing (ea_items (IndirectIndex base z x) s at) h.0 in (
      refl,
      inside_both (register_form base ++ signed_form z) (index_form x)
          (inside_both (register_form base) (signed_form z) (base_in base p.0) (narrow_in (2 ^ 7) z refl (sym (index_displacement_holds z) ∙ p.1.0), tt)) (index_in x (number_lt (number_of_register x.register) p.1.1.0)),
    )
operand_in s at ea (PcDisplacement t) h = (refl, (top_in (2 ^ 32) t h.2, tt))
operand_in s at ea (PcIndex t x) h =
    let p = passing (ea_items (PcIndex t x) s at) h.0 in
    (refl, (top_in (2 ^ 32) t h.2, index_in x (number_lt (number_of_register x.register) p.1.0)))
operand_in s at ea (Extended base w z outer) h =
    let b = and-true (is_base base) (is_canonical w) h.1 in
    (refl, (top_in 256 base (omega (arith, leb-true base 8 b.0)), (top_in 65536 w h.2.0, (fits_in z (fits_32 z h.2.1), (fits_in outer (fits_32 outer h.2.2), tt)))))
operand_in s at ea (Absolute a w) h = (refl, (top_in (2 ^ 64) a h.2, (width_in_lem w, tt)))
