-- Laws of signed numbers, of what fields hold, and of an Immediate's number in plain form.
use Rattle.std.specs.Prelude.{ℕ, suc, ◌+◌, ◌-◌, ◌%◌, ◌^◌, ◌<◌, ◌≤◌, ◌≡◌, refl, Bool, true, false, not, ◌&&◌, ◌||◌, ltb, leb, ℤ, pos, negsuc}
use Rattle.std.proofs.Common.{ap, sym, ◌∙◌, arith}
use Rattle.std.proofs.lemmas.Bool.{false≢true}
use Rattle.std.proofs.Math.Dec.{leb-suc-suc}
use Rattle.std.specs.Int.Signed.{mag, le_z}
use Rattle.std.proofs.Math.Option.{some}
use Rattle.isa.specs.declared.Size.{Size}
use Rattle.isa.specs.declared.Field.TheVariants as field
use Rattle.isa_spec.specs.Field.{holds, ranges, excludes, top_of, also_holds, remainder_of}
use Rattle.encode_spec.specs.Ea.{distance}
use Rattle.base_spec.specs.Signed.{signed32, signed64, bits_of, difference}
use Rattle.read_spec.specs.Number.{signed, signed8, signed16, reach}
use Rattle.read_spec.specs.Accepted.{Fits32}
use Rattle.read_spec.specs.Plain.{plain_number}
use Rattle.isa_facts.specs.Field.{pair_alone, upwards}
use Rattle.encode_facts.specs.Immediates.{immediate_holds, immediate_held, own_remainder}
use Rattle.base_facts.specs.Tests.{Lt, lt?, less, past, and_yes, or_no, ltb_is, ltb_not, ltb-true}

-- ---- signed numbers: z lies from -h to h - 1
abbrev pub fits : ℕ → ℤ → Bool
fits h z = ltb (mag z) h

pub fits_wider : (h k : ℕ) (z : ℤ) → h ≤ k → fits h z ≡ true → fits k z ≡ true
fits_wider h k z l e = ltb-true (mag z) k (omega (arith, ltb_is (mag z) h e))

pub within-fits : (k : ℕ) (z : ℤ) → le_z (negsuc k) z && le_z z (pos k) ≡ fits (suc k) z
within-fits k (pos n) = sym (leb-suc-suc n k)
within-fits k (negsuc n) = and_yes (leb n k) ∙ sym (leb-suc-suc n k)

pub fits_32 : (z : ℤ) → Fits32 z → fits (2 ^ 31) z ≡ true
fits_32 z e = sym (within-fits 2147483647 z) ∙ e

pub as_fits32 : (z : ℤ) → fits (2 ^ 31) z ≡ true → Fits32 z
as_fits32 z e = within-fits 2147483647 z ∙ e

-- the code of a signed number among h + h, and back
abbrev pub low : ℕ → ℤ → ℕ
low h (pos n) = n
low h (negsuc n) = h + h - 1 - n

pub signed_low : (h : ℕ) (z : ℤ) → fits h z ≡ true → signed h (low h z) ≡ z
signed_low h (pos n) e = rw e
signed_low h (negsuc n) e =
    let l : n < h = ltb_is n h e in
    rw (ltb_not (h + h - 1 - n) h (omega arith)) (ap negsuc (omega arith))

pub low_signed : (h x : ℕ) → x < h + h → low h (signed h x) ≡ x
low_signed h x g = go (lt? x h)
  where
    go : Lt x h → low h (signed h x) ≡ x
    go (less l e) = rw e
    go (past l e) = rw e (omega arith)

pub fits_signed : (h x : ℕ) → x < h + h → fits h (signed h x) ≡ true
fits_signed h x g = go (lt? x h)
  where
    go : Lt x h → fits h (signed h x) ≡ true
    go (less l e) = rw (e, e)
    go (past l e) = rw e (ltb-true (h + h - 1 - x) h (omega arith))

-- the low bits of a signed number are its code
pub low8 : (z : ℤ) → fits (2 ^ 7) z ≡ true → bits_of z % 256 ≡ low (2 ^ 7) z
low8 (pos n) e = omega (arith, ltb_is n (2 ^ 7) e)
low8 (negsuc n) e = omega (arith, ltb_is n (2 ^ 7) e)

pub low16 : (z : ℤ) → fits (2 ^ 15) z ≡ true → bits_of z % 65536 ≡ low (2 ^ 15) z
low16 (pos n) e = omega (arith, ltb_is n (2 ^ 15) e)
low16 (negsuc n) e = omega (arith, ltb_is n (2 ^ 15) e)

pub low32 : (z : ℤ) → fits (2 ^ 31) z ≡ true → bits_of z % 2 ^ 32 ≡ low (2 ^ 31) z
low32 (pos n) e = omega (arith, ltb_is n (2 ^ 31) e)
low32 (negsuc n) e = omega (arith, ltb_is n (2 ^ 31) e)

pub signed8-low : (z : ℤ) → fits (2 ^ 7) z ≡ true → signed8 (bits_of z % 256) ≡ z
signed8-low z e = ap signed8 (low8 z e) ∙ signed_low (2 ^ 7) z e

pub signed16-low : (z : ℤ) → fits (2 ^ 15) z ≡ true → signed16 (bits_of z % 65536) ≡ z
signed16-low z e = ap signed16 (low16 z e) ∙ signed_low (2 ^ 15) z e

pub signed32-low : (z : ℤ) → Fits32 z → signed32 (bits_of z % 2 ^ 32) ≡ z
signed32-low z e = ap signed32 (low32 z (fits_32 z e)) ∙ signed_low (2 ^ 31) z (fits_32 z e)

pub low-signed8 : (x : ℕ) → x < 256 → bits_of (signed8 x) % 256 ≡ x
low-signed8 x h = low8 (signed8 x) (fits_signed (2 ^ 7) x h) ∙ low_signed (2 ^ 7) x h

pub low-signed16 : (x : ℕ) → x < 65536 → bits_of (signed16 x) % 65536 ≡ x
low-signed16 x h = low16 (signed16 x) (fits_signed (2 ^ 15) x h) ∙ low_signed (2 ^ 15) x h

pub low-signed32 : (x : ℕ) → x < 2 ^ 32 → bits_of (signed32 x) % 2 ^ 32 ≡ x
low-signed32 x h = low32 (signed32 x) (fits_signed (2 ^ 31) x h) ∙ low_signed (2 ^ 31) x h

pub signed8-fits : (x : ℕ) → x < 256 → fits (2 ^ 7) (signed8 x) ≡ true
signed8-fits = fits_signed (2 ^ 7)

pub signed16-fits : (x : ℕ) → x < 65536 → fits (2 ^ 15) (signed16 x) ≡ true
signed16-fits = fits_signed (2 ^ 15)

pub signed32-fits : (x : ℕ) → x < 2 ^ 32 → Fits32 (signed32 x)
signed32-fits x h = as_fits32 (signed32 x) (fits_signed (2 ^ 31) x h)

-- ---- the distance to an address, and the address that it reaches
pub reach-distance : (t p : ℕ) → t < 2 ^ 32 → p < 2 ^ 32 → reach p (distance t p) ≡ t
reach-distance t p h g =
    let b = bits_of (distance t p) in
    let e : b % 2 ^ 32 ≡ (t + (2 ^ 32 - p)) % 2 ^ 32 = low-signed32 (difference t p) (omega arith) in
    omega arith

pub distance-reach : (p : ℕ) (z : ℤ) → p < 2 ^ 32 → Fits32 z → distance (reach p z) p ≡ z
distance-reach p z g e =
    let q : difference (reach p z) p ≡ bits_of z % 2 ^ 32 = omega arith in
    ap signed32 q ∙ signed32-low z e

pub distance-fits : (t p : ℕ) → Fits32 (distance t p)
distance-fits t p = signed32-fits (difference t p) (omega arith)

pub reach_lt : (p : ℕ) (z : ℤ) → reach p z < 2 ^ 32
reach_lt p z = omega arith

-- ---- what each field holds (Immediate: encode_facts.specs.Immediates; Register and BitField: isa_values.specs.Fields)
short-word : (z : ℤ) → (le_z (negsuc 32767) z && le_z z (pos 32767) || false) && true ≡ fits (2 ^ 15) z
short-word z = pair_alone (le_z (negsuc 32767) z && le_z z (pos 32767)) ∙ within-fits 32767 z

short-byte : (z : ℤ) → (le_z (negsuc 127) z && le_z z (pos 127) || false) && true ≡ fits (2 ^ 7) z
short-byte z = pair_alone (le_z (negsuc 127) z && le_z z (pos 127)) ∙ within-fits 127 z

pub short_branch-holds : (z : ℤ) → holds field.ShortBranch z ≡ fits (2 ^ 7) z && not (excludes field.ShortBranch z)
unfolding holds ranges
short_branch-holds z = ap (λ (b : Bool). b && not (excludes field.ShortBranch z)) (or_no (le_z (negsuc 127) z && le_z z (pos 127)) ∙ within-fits 127 z)

pub word_branch_holds : (z : ℤ) → holds field.WordBranch z ≡ fits (2 ^ 15) z
unfolding holds ranges
word_branch_holds z = short-word z

pub pc_displacement_holds : (z : ℤ) → holds field.PcDisplacement z ≡ fits (2 ^ 15) z
unfolding holds ranges
pc_displacement_holds z = short-word z

pub pc_index-holds : (z : ℤ) → holds field.PcIndex z ≡ fits (2 ^ 7) z
unfolding holds ranges
pc_index-holds z = short-byte z

pub displacement_holds : (z : ℤ) → holds field.Displacement z ≡ fits (2 ^ 15) z
unfolding holds ranges
displacement_holds z = short-word z

pub index_displacement_holds : (z : ℤ) → holds field.IndexDisplacement z ≡ fits (2 ^ 7) z
unfolding holds ranges
index_displacement_holds z = short-byte z

pub short_address_holds : (z : ℤ) → holds field.ShortAddress z ≡ fits (2 ^ 15) z
unfolding holds ranges
short_address_holds z = short-word z

pub link_displacement_holds : (z : ℤ) → holds field.LinkDisplacement z ≡ fits (2 ^ 15) z
unfolding holds ranges
link_displacement_holds z = short-word z

pub rtd_displacement_holds : (z : ℤ) → holds field.RtdDisplacement z ≡ fits (2 ^ 15) z
unfolding holds ranges
rtd_displacement_holds z = short-word z

pub base_displacement-holds : (z : ℤ) → holds field.BaseDisplacement z ≡ fits (2 ^ 15) z
unfolding holds ranges
base_displacement-holds z = short-word z

pub outer_displacement_holds : (z : ℤ) → holds field.OuterDisplacement z ≡ fits (2 ^ 15) z
unfolding holds ranges
outer_displacement_holds z = short-word z

pub null_displacement_holds : (z : ℤ) → holds field.NullDisplacement z ≡ true → z ≡ pos 0
unfolding holds ranges
null_displacement_holds (pos n) e =
    let l : n < 1 = ltb_is n 1 (sym (upwards n 0) ∙ e) in
    ap pos (omega arith)
null_displacement_holds (negsuc n) e = absurd (false≢true e)

pub null_displacement_zero : holds field.NullDisplacement (pos 0) ≡ true
unfolding holds ranges
null_displacement_zero = refl

pub long_address_holds : (a : ℕ) → holds field.LongAddress (signed64 a) ≡ ltb a (2 ^ 32)
unfolding holds ranges
long_address_holds a = go (lt? a (2 ^ 63))
  where
    go : Lt a (2 ^ 63) → holds field.LongAddress (signed64 a) ≡ ltb a (2 ^ 32)
    go (less l e) = rw e (upwards a 4294967295)
    go (past l e) = rw e (sym (ltb_not a (2 ^ 32) (omega arith)))

pub count_holds : (n : ℕ) → holds field.Count (pos n) ≡ leb 1 n && leb n 8
unfolding holds ranges
count_holds n = pair_alone (leb 1 n && leb n 8)

pub trap_vector_holds : (n : ℕ) → holds field.TrapVector (pos n) ≡ ltb n 16
unfolding holds ranges
trap_vector_holds n = upwards n 15

pub bit-number-holds : (n : ℕ) → holds field.BitNumber (pos n) ≡ ltb n 256
unfolding holds ranges
bit-number-holds n = upwards n 255

pub breakpoint_vector_holds : (n : ℕ) → holds field.BreakpointVector (pos n) ≡ ltb n 8
unfolding holds ranges
breakpoint_vector_holds n = upwards n 7

-- ---- the number of an Immediate in plain form
-- held, it is the remainder
pub plain_number_lem : (s : Size) (v : ℕ) → holds (field.Immediate s) (pos v) ≡ true → plain_number s v ≡ remainder_of s v
plain_number_lem s v h = go (also_holds (some s) (pos v)) refl
  where
    go : (b : Bool) → also_holds (some s) (pos v) ≡ b → plain_number s v ≡ remainder_of s v
    go true e = rw e
    go false e =
        let q : (ltb v (suc (top_of s)) || also_holds (some s) (pos v)) ≡ true = sym (immediate_holds s v) ∙ h in
        rw e (sym (own_remainder s v (ltb_is v (suc (top_of s)) (sym (or_no (ltb v (suc (top_of s)))) ∙ (rw e at q)))))

-- in the pair, it is the number itself
pub own_number_lem : (s : Size) (v : ℕ) → v < suc (top_of s) → plain_number s v ≡ v
own_number_lem s v l = plain_number_lem s v (immediate_held s v l) ∙ own_remainder s v l
