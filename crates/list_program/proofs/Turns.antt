-- What a turn writes of the rest of a list, and what is left of it.
use Rattle.std.specs.Prelude.{Option, Some, None, is_some, unwrap_or, Result, Ok, Err, OnOk}
use Rattle.std.proofs.Common.{◌≡◌, ◌≤◌, ◌<◌, ◌+◌, ◌++◌, ℕ, suc, zero, pred, Bool, true, false, List, [], ◌∷◌, refl, sym, ap, length, take, drop, arith}
use Rattle.std.proofs.Math.Seq.{take-append_seam}
use Rattle.std.proofs.lemmas.Bool.{false≢true}
use borrow.Author.Tests.{lt-ltb, le-ltb}
use Rattle.base_list.specs.declared.Header.{Header}
use Rattle.base_list.specs.declared.Limits.{Limits}
use Rattle.base_list.specs.Headers.{header_in}
use Rattle.list_program.specs.Cases.{Answered, no_list, bytes_in, case_then, cases_from}

pub on_ok : {T E P Q : Type 0} (r : Result T E) → (P → Q) → OnOk r P → OnOk r Q
on_ok (Ok x) f p = f p
on_ok (Err e) f p = p

-- a case takes a place of the list at least
pub left : (most from end n : ℕ) → n ≤ from + most → from < end → n ≤ end + pred most
left zero from end n h m = omega arith
left (suc most) from end n h m = omega arith

-- what is answered stands in the front of the buffer
answer_front : (b : Bool) (t : List ℕ) {out out' : List ℕ} {n : ℕ} → Answered b t out out' (Some n) → (b ≡ true) × (take n out' ≡ t)
answer_front true t {out} a =
    let n = ap (λ (o : Option ℕ). unwrap_or o 0) a.answer in
    (refl, rw (n, a.buffer) (take-append_seam t (drop (0 + length t) out)))
answer_front false t a = absurd (false≢true (sym (ap is_some a.answer)))

answer_none : (b : Bool) (t : List ℕ) {out out' : List ℕ} → Answered b t out out' None → b ≡ false
answer_none true t a = absurd (false≢true (ap is_some a.answer))
answer_none false t a = refl

module _ (limits : Limits) (is_answered : Header → List ℕ → Bool) (text_of : Header → List ℕ → List ℕ) (list : List ℕ) where
  pub ended : (most from : ℕ) → length list ≤ from → cases_from limits is_answered text_of list most from ≡ []
  ended zero from h = refl
  ended (suc most) from h = rw (le-ltb from (length list) h) refl

  opened : (most from : ℕ) → length list ≤ from + most → from < length list
      → cases_from limits is_answered text_of list most from ≡ case_then limits is_answered text_of list (cases_from limits is_answered text_of list (pred most)) (header_in limits list from)
  opened zero from e m = absurd (omega arith)
  opened (suc most) from e m = rw (lt-ltb from (length list) m) refl

  module _ (most from : ℕ) (enough : length list ≤ from + most) (more : from < length list) where
    pub no_header : header_in limits list from ≡ None → cases_from limits is_answered text_of list most from ≡ no_list
    no_header e = rw (opened most from enough more, e) refl

    module _ (h : Header) (e : header_in limits list from ≡ Some h) where
      pub no_answer : {t out out' : List ℕ} → Answered (is_answered h (bytes_in list h)) t out out' None
          → cases_from limits is_answered text_of list most from ≡ no_list
      no_answer {t} a = rw (opened most from enough more, e, answer_none _ t a) refl

      pub answered : {out out' : List ℕ} {n : ℕ} → Answered (is_answered h (bytes_in list h)) (text_of h (bytes_in list h) ++ (10 ∷ [])) out out' (Some n)
          → cases_from limits is_answered text_of list most from ≡ take n out' ++ cases_from limits is_answered text_of list (pred most) h.end
      answered a = let f = answer_front _ _ a in rw (opened most from enough more, e, f.0, f.1) refl
