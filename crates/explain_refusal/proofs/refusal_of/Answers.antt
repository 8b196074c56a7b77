use mathlib.Core.Path.{◌∙◌, sym}
use Rattle.base_facts.specs.Tests.{cond_true, cond_false}
use Rattle.explain_spec.specs.Refusal.{refusal_of}
use Rattle.explain_refusal.proofs.refusal_of.Goals as goal

pub returns-then-is_plain-is_number : goal.returns-then-is_plain-is_number
unfolding refusal_of
returns-then-is_plain-is_number c =
    rw (c.magnitude_of-then-is_plain-is_number-3.ensures, c.is_below_zero.ensures, c.magnitude_of-then-is_plain-is_number-2.ensures, c.magnitude_of-then-is_plain-is_number.ensures, c.magnitude_of.ensures)
    (sym (cond_true _ _ _ (rw (c.is_number.ensures, c.is_plain-3.ensures, c.is_plain-2.ensures, c.is_plain.ensures) at c.if-is_plain-is_number.true)))

pub returns : goal.returns
unfolding refusal_of
returns c = c.no_refusal.ensures ∙ sym (cond_false _ _ _ (rw (c.is_number.ensures, c.is_plain-3.ensures, c.is_plain-2.ensures, c.is_plain.ensures) at c.if-is_plain-is_number.false))
