-- Displacements of a full extension word, and the base displacement from the program counter.
use Rattle.std.specs.Prelude.{ℕ, ◌+◌, ◌*◌, ◌/◌, ◌%◌, ◌^◌, ◌<◌, ◌≡◌, refl, Bool, true, false, cond, List, [], ◌∷◌, ◌++◌, ℤ, pos}
use Rattle.std.proofs.Common.{ap, sym, ◌∙◌, arith}
use Rattle.isa.specs.declared.DisplacementSize.{DisplacementSize}
use Rattle.isa.specs.declared.DisplacementSize.TheVariants.{Null, Word, Long}
use Rattle.isa.specs.declared.Field.{Field}
use Rattle.isa.specs.declared.Field.TheVariants as field
use Rattle.isa_spec.specs.Field.{holds}
use Rattle.encode_spec.specs.Item.{fine, failure, ranged, words_in, count_of}
use Rattle.encode_spec.specs.Ea.{distance, displacement_items}
use Rattle.base_spec.specs.Signed.{signed32, bits_of}
use Rattle.read_spec.specs.Number.{signed16, reach}
use Rattle.read_spec.specs.Operand.{displacement_tree, landed}
use Rattle.read_spec.specs.Tree.{got, run}
use Rattle.read_spec.specs.Accepted.{Fits32, Words}
use Rattle.read_operand_laws.specs.Facts.{fits, fits_wider, as_fits32, signed16-low, low-signed16, signed16-fits, signed32-low, low-signed32, signed32-fits, null_displacement_holds, null_displacement_zero, reach-distance, distance-reach, distance-fits, reach_lt}
use Rattle.encode_facts.specs.Items.{fine_both, both_fine, range_holds, holds_range}
use Rattle.read_operand_laws.specs.TreeLaws.{Alive, Clean, got_subst, short_no}

pub got_is : {A : Type 0} {x y : A} {m n : ℕ} (r : List ℕ) → x ≡ y → m ≡ n → got x m r ≡ got y n r
got_is r p q = rw (p, q)

-- a field of sixteen bits
abbrev pub Sixteen : Field → Type 0
Sixteen f = (z : ℤ) → holds f z ≡ fits (2 ^ 15) z

pub displacement_complete : (c : DisplacementSize) (f : Field) → Sixteen f → (z : ℤ) → Fits32 z → failure true (displacement_items c z f) ≡ fine
    → (a n : ℕ) (r : List ℕ)
    → run (displacement_tree c) a n (words_in (displacement_items c z f) ++ r) ≡ got z (n + count_of (displacement_items c z f)) r
displacement_complete Null f b z t e a n r =
    let p : z ≡ pos 0 = null_displacement_holds z (range_holds field.NullDisplacement z (fine_both (ranged true field.NullDisplacement z) fine e).0) in
    got_is r (sym p) (omega arith)
displacement_complete Word f b z t e a n r =
    let h : fits (2 ^ 15) z ≡ true = sym (b z) ∙ range_holds f z (fine_both (ranged true f z) fine e).0 in
    got_is r (signed16-low z h) refl
displacement_complete Long f b z t e a n r =
    let h : bits_of z % 4294967296 / 65536 * 65536 + bits_of z % 4294967296 % 65536 ≡ bits_of z % 4294967296 = omega arith in
    got_is r (ap signed32 h ∙ signed32-low z t) (omega arith)

abbrev pub DisplacementSound : DisplacementSize → Field → ℕ → List ℕ → ℤ → ℕ → List ℕ → Type 0
DisplacementSound c f n ws z m r =
    Fits32 z
    × (failure true (displacement_items c z f) ≡ fine)
    × (ws ≡ words_in (displacement_items c z f) ++ r)
    × (m ≡ n + count_of (displacement_items c z f))

pub displacement_sound : (c : DisplacementSize) (f : Field) → Sixteen f → (a n : ℕ) (ws : List ℕ) → Words ws → (z : ℤ) (m : ℕ) (r : List ℕ)
    → run (displacement_tree c) a n ws ≡ got z m r
    → DisplacementSound c f n ws z m r
displacement_sound Null f b a n ws h z m r e =
    got_subst (DisplacementSound Null f n ws) e
    (refl, both_fine (ranged true field.NullDisplacement (pos 0)) fine (holds_range field.NullDisplacement (pos 0) null_displacement_zero) refl, refl, omega arith)
displacement_sound Word f b a n [] h z m r e = short_no e
displacement_sound Word f b a n (w ∷ ws) h z m r e =
    let g = signed16-fits w h.0 in
    got_subst (DisplacementSound Word f n (w ∷ ws)) e (
      as_fits32 (signed16 w) (fits_wider (2 ^ 15) (2 ^ 31) (signed16 w) (omega arith) g),
      both_fine (ranged true f (signed16 w)) fine (holds_range f (signed16 w) (b (signed16 w) ∙ g)) refl,
      ap (λ (x : ℕ). x ∷ ws) (sym (low-signed16 w h.0)),
      refl,
    )
displacement_sound Long f b a n [] h z m r e = short_no e
displacement_sound Long f b a n (w ∷ []) h z m r e = short_no e
displacement_sound Long f b a n (w ∷ v ∷ ws) h z m r e =
    let g : w * 65536 + v < 2 ^ 32 = omega arith in
    let p : (w * 65536 + v) / 65536 ≡ w = omega arith in
    let q : (w * 65536 + v) % 65536 ≡ v = omega arith in
    got_subst (DisplacementSound Long f n (w ∷ v ∷ ws)) e
    (signed32-fits (w * 65536 + v) g, refl, rw (low-signed32 (w * 65536 + v) g, p, q), omega arith)

pub displacement_clean : (c : DisplacementSize) → Alive (displacement_tree c) × Clean (displacement_tree c)
displacement_clean Null = (tt, tt)
displacement_clean Word = (λ at. tt, (λ at. tt, λ at w. tt))
displacement_clean Long = (λ at next. tt, (λ at next. tt, λ at w. (λ next. tt, λ next v. tt)))

-- what an Extended operand holds, and the displacement that is written for it
abbrev pub based : Bool → ℕ → ℤ → ℤ
based pc at z = cond pc (distance (bits_of z % 4294967296) at) z

pub landed-based : (pc : Bool) (at : ℕ) (z : ℤ) → at < 2 ^ 32 → Fits32 z → landed pc at (based pc at z) ≡ z
landed-based true at z h t = ap signed32 (reach-distance (bits_of z % 4294967296) at (omega arith) h) ∙ signed32-low z t
landed-based false at z h t = refl

pub based-fits : (pc : Bool) (at : ℕ) (z : ℤ) → Fits32 z → Fits32 (based pc at z)
based-fits true at z t = distance-fits (bits_of z % 4294967296) at
based-fits false at z t = t

pub based-landed : (pc : Bool) (at : ℕ) (z : ℤ) → at < 2 ^ 32 → Fits32 z → based pc at (landed pc at z) ≡ z
based-landed true at z h t = ap (λ (x : ℕ). distance x at) (low-signed32 (reach at z) (reach_lt at z)) ∙ distance-reach at z h t
based-landed false at z h t = refl

pub landed-fits : (pc : Bool) (at : ℕ) (z : ℤ) → Fits32 z → Fits32 (landed pc at z)
landed-fits true at z t = signed32-fits (reach at z) (reach_lt at z)
landed-fits false at z t = t
