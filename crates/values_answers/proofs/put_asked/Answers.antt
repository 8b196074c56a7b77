use native.Mathlib.Omega.{arith}
use borrow.Author.Tests.{ne_eqb}
use Rattle.values_answers.specs.Asked.{asked_text}
use Rattle.values_answers.proofs.put_asked.Goals as goal

pub returns-in-0 : goal.returns-in-0
unfolding asked_text
returns-in-0 c = rw c.in-0.is (rw c.word_values.ensures at c.put_values.ensures)

pub returns-in-1 : goal.returns-in-1
unfolding asked_text
returns-in-1 c = rw c.in-1.is (rw c.size_values.ensures at c.put_values-in-1.ensures)

pub returns-in-2 : goal.returns-in-2
unfolding asked_text
returns-in-2 c = rw c.in-2.is (rw c.register_values.ensures at c.put_values-in-2.ensures)

pub returns-in-3 : goal.returns-in-3
unfolding asked_text
returns-in-3 c = rw c.in-3.is (rw c.displacement_values.ensures at c.put_values-in-3.ensures)

pub returns-in-4 : goal.returns-in-4
unfolding asked_text
returns-in-4 c = rw c.in-4.is (rw c.condition_values.ensures at c.put_values-in-4.ensures)

pub returns-in-5 : goal.returns-in-5
unfolding asked_text
returns-in-5 c = rw c.in-5.is (rw c.bit_field_values.ensures at c.put_values-in-5.ensures)

pub returns-in-6 : goal.returns-in-6
unfolding asked_text
returns-in-6 c = rw c.in-6.is (rw c.base_values.ensures at c.put_values-in-6.ensures)

pub returns-in-7 : goal.returns-in-7
unfolding asked_text
returns-in-7 c = rw c.in-7.is (rw c.brief_values.ensures at c.put_values-in-7.ensures)

pub returns-in-8 : goal.returns-in-8
unfolding asked_text
returns-in-8 c = rw c.in-8.is (rw c.full_values.ensures at c.put_values-in-8.ensures)

pub returns-in-9 : goal.returns-in-9
unfolding asked_text
returns-in-9 c = rw c.in-9.is (rw c.constant_values.ensures at c.put_values-in-9.ensures)

pub returns-in_default : goal.returns-in_default
unfolding asked_text
returns-in_default c = rw (ne_eqb _ _ c.in_default.in_default-own.rest.0.0.0.0.0.0.0.0.0.1, ne_eqb _ _ c.in_default.in_default-own.rest.0.0.0.0.0.0.0.0.1, ne_eqb _ _ c.in_default.in_default-own.rest.0.0.0.0.0.0.0.1, ne_eqb _ _ c.in_default.in_default-own.rest.0.0.0.0.0.0.1, ne_eqb _ _ c.in_default.in_default-own.rest.0.0.0.0.0.1, ne_eqb _ _ c.in_default.in_default-own.rest.0.0.0.0.1, ne_eqb _ _ c.in_default.in_default-own.rest.0.0.0.1, ne_eqb _ _ c.in_default.in_default-own.rest.0.0.1, ne_eqb _ _ c.in_default.in_default-own.rest.0.1, ne_eqb _ _ c.in_default.in_default-own.rest.1) (c.put_not_in_form.ensures.0, omega arith)
