-- What a program that answers the cases of a stored list writes. A case gets a text, or is not in the form.
use Rattle.std.specs.Prelude.{◌≡◌, ℕ, suc, zero, ◌-◌, ◌≤◌, Bool, List, [], ◌∷◌, ◌++◌, cond, ltb, length, take, drop, Option, Some, None, IfSome}
use Rattle.base_spec.specs.Written.{placed}
use Rattle.base_list.specs.declared.Header.{Header}
use Rattle.base_list.specs.declared.Limits.{Limits}
use Rattle.base_list.specs.Headers.{header_in}

-- `list`
abbrev pub no_list : List ℕ
no_list = 108 ∷ 105 ∷ 115 ∷ 116 ∷ 10 ∷ []

-- a text written into a buffer and how long it is, or nothing
pub record Answered (b : Bool) (t out out' : List ℕ) (r : Option ℕ) : Type 0 where
  pub answer : r ≡ cond b (Some (length t)) None
  pub buffer : out' ≡ cond b (placed out 0 t) out
  pub few : IfSome r (λ n. n ≤ length out)

abbrev pub bytes_in : List ℕ → Header → List ℕ
bytes_in list h = take (h.end - h.begin) (drop h.begin list)

module _ (limits : Limits) (is_answered : Header → List ℕ → Bool) (text_of : Header → List ℕ → List ℕ) (list : List ℕ) where
  -- a text and an empty line, then the rest of the list
  abbrev pub case_then : (ℕ → List ℕ) → Option Header → List ℕ
  case_then rest (Some h) = cond (is_answered h (bytes_in list h)) (text_of h (bytes_in list h) ++ (10 ∷ []) ++ rest h.end) no_list
  case_then rest None = no_list

  -- from a place on, so many cases at most
  abbrev pub cases_from : ℕ → ℕ → List ℕ
  cases_from zero from = []
  cases_from (suc most) from = cond (ltb from (length list)) (case_then (cases_from most) (header_in limits list from)) []

  -- each case has a byte
  unfoldable pub cases_of : List ℕ
  cases_of = cases_from (length list) 0

  -- a list has at most 1 MiB
  abbrev pub cases_output_of : List ℕ
  cases_output_of = cond (ltb 1048576 (length list)) no_list cases_of
