-- Laws of sheets that are the same, at any starts: exactly where both are accepted and have equal starts and images; reflexive, symmetric.
use Rattle.std.specs.Prelude.{ℕ, ◌≡◌, refl, Bool, true, false, ◌&&◌, List, eqb}
use Rattle.std.proofs.Common.{sym, eq-eqb, eqb-true}
use Rattle.std.proofs.lemmas.Bool.{false≢true}
use Rattle.sheet_spec.specs.Line.{equal}
use Rattle.sheet_facts.specs.Facts.{equal_is, equal_refl}
use Rattle.sheet_spec.specs.Sheet.{sheet_at, image}
use Rattle.sheet_spec.specs.Translate.{full, Outcome, in_order, refused, outcome_at, is_in_order, same_at}
use Rattle.sheet_spec.specs.Promises.{SameAt}
use Rattle.base_facts.specs.Tests.{and-true}

-- ---- exactly where
is_in_order_lem : (w : Outcome) → is_in_order w ≡ true → w ≡ in_order
is_in_order_lem in_order e = refl
is_in_order_lem (refused number line detail value) e = absurd (false≢true e)

pub same-is : (a b : ℕ) (s t : List ℕ) → same_at a b s t ≡ true → SameAt a b s t
unfolding same_at
same-is a b s t e =
    let x = is_in_order (outcome_at full s a 4096 45056) in
    let y = is_in_order (outcome_at full t b 4096 45056) in
    let p = and-true (x && y && eqb a b) (equal (image (sheet_at a s)) (image (sheet_at b t))) e in
    let q = and-true (x && y) (eqb a b) p.0 in
    let r = and-true x y q.0 in
    record {
      first = is_in_order_lem (outcome_at full s a 4096 45056) r.0;
      second = is_in_order_lem (outcome_at full t b 4096 45056) r.1;
      starts = eqb-true a b q.1;
      images = equal_is (image (sheet_at a s)) (image (sheet_at b t)) p.1;
    }

pub is_same : (a b : ℕ) (s t : List ℕ) → SameAt a b s t → same_at a b s t ≡ true
unfolding same_at
is_same a b s t h = rw (h.first, h.second, eq-eqb a b h.starts, h.images) (equal_refl (image (sheet_at b t)))

pub same_refl : (a : ℕ) (s : List ℕ) → outcome_at full s a 4096 45056 ≡ in_order → same_at a a s s ≡ true
same_refl a s e = is_same a a s s (record { first = e; second = e; starts = refl; images = refl })

turn : {a b : ℕ} {s t : List ℕ} → SameAt a b s t → SameAt b a t s
turn h = record { first = h.second; second = h.first; starts = sym h.starts; images = sym h.images }

both_ways : (a b : Bool) → (a ≡ true → b ≡ true) → (b ≡ true → a ≡ true) → a ≡ b
both_ways true b f g = sym (f refl)
both_ways false true f g = g refl
both_ways false false f g = refl

pub same_sym : (a b : ℕ) (s t : List ℕ) → same_at a b s t ≡ same_at b a t s
same_sym a b s t =
    both_ways (same_at a b s t) (same_at b a t s) (λ e. is_same b a t s (turn (same-is a b s t e))) (λ e. is_same a b s t (turn (same-is b a t s e)))
