-- What an answer of the reader's code says of the tree that was run: each answer comes of one outcome alone. Assumes nothing.
use Rattle.std.specs.Prelude.{ℕ, ◌≡◌, refl, Result, Ok, Err}
use Rattle.std.proofs.Common.{ap, sym, ◌∙◌}
use Rattle.read_spec.specs.declared.Unread.{Unread}
use Rattle.read_spec.specs.declared.Unread.TheVariants.{Short, Nothing}
use Rattle.read_places.specs.RunAt.{At, found, ended, refused}
use Rattle.read_operands.specs.Read.{read_of_at}

module _ {A : Type 0} where
  abbrev pub outcome_of : Result (A × ℕ) Unread → At A
  outcome_of (Ok p) = found p.0 p.1
  outcome_of (Err Short) = ended
  outcome_of (Err Nothing) = refused

  pub outcome_back : (x : At A) → outcome_of (read_of_at x) ≡ x
  outcome_back (found y k) = refl
  outcome_back ended = refl
  outcome_back refused = refl

  pub answer_found : (x : At A) {v : A} {n : ℕ} → Ok (v, n) ≡ read_of_at x → x ≡ found v n
  answer_found x e = sym (outcome_back x) ∙ ap outcome_of (sym e)

  pub answer_ended : (x : At A) → Err Short ≡ read_of_at x → x ≡ ended
  answer_ended x e = sym (outcome_back x) ∙ ap outcome_of (sym e)

  pub answer_refused : (x : At A) → Err Nothing ≡ read_of_at x → x ≡ refused
  answer_refused x e = sym (outcome_back x) ∙ ap outcome_of (sym e)
