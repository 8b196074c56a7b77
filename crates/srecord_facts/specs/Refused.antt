-- What refusals are: that of a text has a number other than 0, and neither detail nor value. Assumes nothing.
use Rattle.std.specs.Prelude.{◌≡◌, refl, Bool, true, false, cond, List, [], ◌∷◌, ℕ, suc, ◌+◌, eqb, leb, pos, length}
use Rattle.std.proofs.Common.{arith}
use Rattle.base_spec.specs.Parts.{parts}
use Rattle.sheet_spec.specs.Translate.{Outcome, in_order, refused, and_then, require, in_turn}
use Rattle.srecord_spec.specs.Record.{closes, checksum_of, record_in, is_record}
use Rattle.srecord_spec.specs.Read.{require_at, is_end, record_outcome, is_next, records_from, start_read, image_read, text_outcome, read_outcome}

-- ---- what holds of every outcome of a chain
module _ (P : Outcome → Type 0) where
  pub of_then : (a b : Outcome) → P a → P b → P (and_then a b)
  of_then in_order b p q = q
  of_then (refused number line detail value) b p q = p

  pub of_cond : (t : Bool) (a b : Outcome) → P a → P b → P (cond t a b)
  of_cond true a b p q = p
  of_cond false a b p q = q

  pub of_turn : {A : Type 0} (says : ℕ → A → Outcome) → P in_order → ((k : ℕ) (x : A) → P (says k x)) → (k : ℕ) (xs : List A) → P (in_turn says k xs)
  of_turn says p f k [] = p
  of_turn says p f k (x ∷ xs) = of_then (says k x) (in_turn says (suc k) xs) (f k x) (of_turn says p f (suc k) xs)

-- ---- the refusal of a text
abbrev pub Plain : Outcome → Type 0
Plain in_order = Unit {0}
Plain (refused number line detail value) = (number ≡ 0 → ⊥) × (detail ≡ 0) × (value ≡ pos 0)

plain_at : (k : ℕ) (t : Bool) (n : ℕ) → (n ≡ 0 → ⊥) → Plain (require_at k t n)
plain_at k t n h = of_cond Plain t in_order (refused n k 0 (pos 0)) tt (h, refl, refl)

plain_record : (k : ℕ) (p : List ℕ) → Plain (record_outcome k p)
plain_record k p =
    of_then Plain (require_at k (is_record p) 12) (require_at k (eqb (record_in p).checksum (checksum_of (record_in p))) 13)
    (plain_at k (is_record p) 12 (λ h. omega arith))
    (plain_at k (eqb (record_in p).checksum (checksum_of (record_in p))) 13 (λ h. omega arith))

plain_records : (start next k : ℕ) (ps : List (List ℕ)) → Plain (records_from start next k ps)
plain_records start next k [] = ((λ h. omega arith), refl, refl)
plain_records start next k (p ∷ []) = ((λ h. omega arith), refl, refl)
plain_records start next k (p ∷ (q ∷ qs)) =
    let r = record_in p in
    let closing = require_at k (eqb r.address start) 14 in
    let end = require_at (suc k) (is_end q qs) 12 in
    let due = require_at k (is_next next r) 14 in
    let rest = records_from start (next + length r.bytes) (suc k) (q ∷ qs) in
    of_then Plain (record_outcome k p) (cond (closes r.type) (and_then closing end) (and_then due rest)) (plain_record k p)
    (of_cond Plain (closes r.type) (and_then closing end) (and_then due rest)
    (of_then Plain closing end (plain_at k (eqb r.address start) 14 (λ h. omega arith)) (plain_at (suc k) (is_end q qs) 12 (λ h. omega arith)))
    (of_then Plain due rest (plain_at k (is_next next r) 14 (λ h. omega arith)) (plain_records start (next + length r.bytes) (suc k) (q ∷ qs))))

pub plain-read : (text : List ℕ) (room : ℕ) → Plain (read_outcome text room)
unfolding read_outcome text_outcome
plain-read text room =
    of_then Plain (records_from (start_read text) (start_read text) 1 (parts 10 text)) (require (leb (length (image_read text)) room) 11)
    (plain_records (start_read text) (start_read text) 1 (parts 10 text))
    (plain_at 0 (leb (length (image_read text)) room) 11 (λ h. omega arith))
