-- Facts about the outcomes of a sheet, and about lent places.
use Rattle.std.specs.Prelude.{ℕ, suc, ◌+◌, ◌-◌, ◌≤◌, ◌<◌, ◌≡◌, refl, Bool, true, false, cond, List, [], ◌∷◌, ◌++◌, eqb, ℤ, length, take, drop, get_or, set}
use Rattle.std.proofs.Common.{append_assoc, append-nil, arith, add-one, length-append, length-drop, drop_of_length-le, drop-cons, drop-drop, take_all, eqb-true, ne_eqb}
use Rattle.std.proofs.Math.Seq.{drop-append_seam, take-append_seam, append_snoc}
use Rattle.std.proofs.lemmas.List.{set_at}
use borrow.Rule.Slice.PartMut.{put_mid}
use Rattle.sheet_spec.specs.Translate.{Outcome, in_order, refused, and_then, require, as_outcome, over}

-- ---- outcomes
pub refused_not : {C : Type 0} {number line detail : ℕ} {value : ℤ} → refused number line detail value ≡ in_order → C
refused_not e = let z : ◌≡◌ {A = ℕ} 0 1 = cc in absurd (omega arith)

pub both_in_order : (u v : Outcome) → and_then u v ≡ in_order → (u ≡ in_order) × (v ≡ in_order)
both_in_order in_order v e = (refl, e)
both_in_order (refused number line detail value) v e = refused_not e

pub require_true : (b : Bool) (k : ℕ) → require b k ≡ in_order → b ≡ true
require_true true k e = refl
require_true false k e = refused_not e

pub as_in_order : (k number detail : ℕ) (value : ℤ) → number ≡ 0 → as_outcome k number detail value ≡ in_order
as_in_order k number detail value e = rw e

pub as_refused : (k number detail : ℕ) (value : ℤ) → (number ≡ 0 → ⊥) → as_outcome k number detail value ≡ refused number k detail value
as_refused k number detail value e = rw (ne_eqb number 0 e)

pub in_order_zero : (k number detail : ℕ) (value : ℤ) → as_outcome k number detail value ≡ in_order → number ≡ 0
in_order_zero k number detail value e = go (eqb number 0) refl e
  where
    go : (t : Bool) → eqb number 0 ≡ t → cond t in_order (refused number k detail value) ≡ in_order → number ≡ 0
    go true h e = eqb-true number 0 h
    go false h e = refused_not e

-- ---- places written in front of others
pub over_length : (x v : List ℕ) → length x ≤ length v → length (over x v) ≡ length v
over_length x v h = rw (length-append, length-drop) (omega arith)

-- one place more
pub over_set : (x v : List ℕ) (k w : ℕ) → length x ≡ k → k < length v → set (over x v) k w ≡ over (x ++ (w ∷ [])) v
over_set x v k w e h =
    rw (e, drop-cons v k 0 h, set_at x (get_or v k 0) (drop (suc k) v) w k e, length-append x (w ∷ []), e, add-one, append_snoc x w (drop (suc k) v))

-- a part from `at` on, lent, and ws written in its front
pub over_more : (x ws v last : List ℕ) (at : ℕ) → at ≡ length x → at + length ws ≤ length v
    → last ≡ over ws (take (length (over x v) - at) (drop at (over x v)))
    → put_mid at (length (over x v) - at) (over x v) last ≡ over (x ++ ws) v
over_more x ws v last at p h e =
    let d : drop at (over x v) ≡ drop at v = rw p (drop-append_seam x (drop (length x) v)) in
    let t : take at (over x v) ≡ x = rw p (take-append_seam x (drop (length x) v)) in
    let n : length (over x v) ≡ length v = over_length x v (omega arith) in
    let a : take (length v - at) (drop at v) ≡ drop at v = take_all (length v - at) (drop at v) (rw length-drop (omega arith)) in
    let z : drop (length v - at) (drop at v) ≡ [] = drop_of_length-le (drop at v) {i = length v - at} (rw length-drop (omega arith)) in
    rw (e, d, t, n, a, z, append-nil, drop-drop (length ws) at v, length-append x ws, p, append_assoc)
