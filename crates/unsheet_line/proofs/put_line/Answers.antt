use mathlib.Core.Path.{◌≡◌, refl, ap, ◌∙◌}
use mathlib.Core.Bool.{false}
use native.Mathlib.Omega.{arith}
use lib.ListN.{length, get_or}
use Rattle.numeric_spec.specs.Form.{form_of}
use Rattle.base_spec.specs.declared.Literals.{Literals}
use Rattle.numeric_form.specs.Numbers.{zero_literal}
use Rattle.unsheet_line.specs.Table.{lands_in}
use Rattle.unsheet_line.specs.FieldLaws.{count_is, spelling-start, spelling_past, spelling-none, next_fits, spelling_on}
use Rattle.unsheet_line.proofs.put_line.Goals as goal

pub loop-i-init : goal.loop-i-init
loop-i-init c =
    let a = c.args in
    (omega arith, refl, omega arith, λ x e. spelling-start (lands_in a.start a.lines.now) x a.out.now a.at)

pub returns-then-kinds-eq0 : goal.returns-then-kinds-eq0
returns-then-kinds-eq0 c =
    let l = c.loop-i in
    let x = c.args.instruction in
    (spelling-none (l.invariant.3 x c.write_numbers.ensures.value) c.if-kinds-eq0.true, omega (arith, c.write_numbers.ensures.few))

pub next-kinds-requires : goal.next-kinds-requires
next-kinds-requires c =
    let l = c.loop-i in
    let x = c.args.instruction in
    next_fits (l.invariant.3 x c.write_numbers.ensures.value) c.if-kinds-eq0.false _

pub loop-i-preserved : goal.loop-i-preserved
loop-i-preserved c =
    let l = c.loop-i in
    let ns = c.write_numbers in
    let f = c.put_field-next.ensures in
    let e = c.put_end-next.ensures in (
      omega arith,
      omega arith,
      omega (arith, f.1, e.1),
      λ x q.
          let n : ns.new.numbers.count ≡ length (form_of x) = ap (λ (m : Literals). m.count) q ∙ count_is (form_of x) in
          spelling_on (l.invariant.3 x q) c.if-kinds-eq0.false (omega arith) (omega (arith, ns.ensures.few)) c.first-kind.result c.first-kind.ensures (get_or ns.new.numbers.places l.i zero_literal) c.next-kinds.result (ap (λ (m : Literals). get_or m.places l.i zero_literal) q) c.next-kinds.ensures f.0 (rw n at e.0) (omega (arith, f.1, e.1, ns.ensures.few)) (omega (arith, f.1, ns.ensures.few)),
    )

pub returns : goal.returns
returns c =
    let l = c.loop-i in
    let x = c.args.instruction in
    let e = c.write_numbers.ensures in
    let n = ap (λ (ns : Literals). ns.count) e.value ∙ count_is (form_of x) in
    (spelling_past (l.invariant.3 x e.value) (omega arith), omega (arith, e.few))
