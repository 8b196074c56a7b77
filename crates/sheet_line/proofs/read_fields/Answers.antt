use mathlib.Core.Path.{sym, ◌∙◌}
use native.Mathlib.Omega.{arith}
use Rattle.sheet_line.specs.Reading.{reading_start, reading_no, reading_over, reading_place, reading_end, reading_short, next_fits, reading_none, reading_on}
use Rattle.sheet_line.proofs.read_fields.Goals as goal

pub loop-from-init : goal.loop-from-init
loop-from-init c =
    let a = c.args in
    (omega arith, reading_start a.lines a.line.now c.not_read-r.ensures)

pub returns-then-kinds-eq0 : goal.returns-then-kinds-eq0
returns-then-kinds-eq0 c =
    let a = c.args in
    let l = c.loop-from in
    reading_no a.lines a.line.now c.not_read.ensures (reading_over a.lines a.line.now l.invariant.1 (omega arith) c.if-kinds-eq0.true)

pub returns-then-not-says : goal.returns-then-not-says
returns-then-not-says c =
    let a = c.args in
    let l = c.loop-from in
    let t = c.says in
    reading_no a.lines a.line.now c.not_read-then-not-says.ensures (reading_none a.lines a.line.now l.invariant.1 c.if-kinds-eq0.false c.field_end-end.result (omega arith) c.field_end-end.ensures.0 c.first.result c.first.ensures c.value-v.result c.value-v.ensures (sym t.ensures ∙ c.if-not-says.true))

pub bounds-negative-at : goal.bounds-negative-at
bounds-negative-at c =
    let a = c.args in
    let l = c.loop-from in
    omega (arith, reading_place a.lines a.line.now l.invariant.1 c.if-kinds-eq0.false)

pub offset_bounds-magnitude-at : goal.offset_bounds-magnitude-at
offset_bounds-magnitude-at c =
    let a = c.args in
    let l = c.loop-from in
    omega (arith, reading_place a.lines a.line.now l.invariant.1 c.if-kinds-eq0.false)

pub bounds-magnitude-at : goal.bounds-magnitude-at
bounds-magnitude-at c =
    let a = c.args in
    let l = c.loop-from in
    omega (arith, reading_place a.lines a.line.now l.invariant.1 c.if-kinds-eq0.false)

pub bounds-label-at : goal.bounds-label-at
bounds-label-at c =
    let a = c.args in
    let l = c.loop-from in
    omega (arith, reading_place a.lines a.line.now l.invariant.1 c.if-kinds-eq0.false)

pub read_more-r-requires : goal.read_more-r-requires
read_more-r-requires c =
    let a = c.args in
    let l = c.loop-from in
    reading_place a.lines a.line.now l.invariant.1 c.if-kinds-eq0.false

pub next-kinds-requires : goal.next-kinds-requires
next-kinds-requires c =
    let a = c.args in
    let l = c.loop-from in
    next_fits a.lines a.line.now l.invariant.1 c.if-kinds-eq0.false c.variant_place.result

pub loop-from-preserved : goal.loop-from-preserved
loop-from-preserved c =
    let a = c.args in
    let l = c.loop-from in
    let t = c.says in (
      omega arith,
      rw (c.next-kinds.ensures, c.variant_place.ensures, c.read_more-r.ensures, c.says_label.ensures, c.own_number.ensures, c.below_zero.ensures)
          (reading_on a.lines a.line.now l.invariant.1 c.if-kinds-eq0.false c.field_end-end.result (omega arith) c.field_end-end.ensures.0 c.first.result c.first.ensures c.value-v.result c.value-v.ensures c.requires
          (sym t.ensures ∙ c.if-not-says.false)),
    )

pub returns-then-kinds-ne0 : goal.returns-then-kinds-ne0
returns-then-kinds-ne0 c =
    let a = c.args in
    let l = c.loop-from in
    reading_no a.lines a.line.now c.not_read-then-kinds-ne0.ensures (reading_short a.lines a.line.now l.invariant.1 (omega arith) c.if-kinds-ne0.true)

pub returns : goal.returns
returns c =
    let a = c.args in
    let l = c.loop-from in
    reading_end a.lines a.line.now l.invariant.1 (omega arith) c.if-kinds-ne0.false
