use Prim.Native.Nat.{ℕ}
use mathlib.Core.Path.{◌∙◌}
use native.Mathlib.Omega.{arith}
use borrow.Author.Tests.{not-true, not-false}
use Rattle.sheet_labels.specs.Labels.{address_in}
use Rattle.sheet_line.specs.Aimed.{count_few, read-aimed, read-unlabelled, aimed-whole, aimed-made, not_read-made}
use Rattle.sheet_line.proofs.read_line.Goals as goal
use Rattle.sheet_line.proofs.read_line.Goals.{then-r, else-r}

pub returns-then-not-r : goal.returns-then-not-r
returns-then-not-r c =
    let a = c.args in
    let t = c.read_fields-r in
    c.not_made.ensures ∙ not_read-made a.lines a.line.now t.ensures a.addresses.now (not-true t.result.ok c.if-not-r.true)

pub aim_all-requires : goal.aim_all-requires
aim_all-requires c =
    let a = c.args in
    omega (arith, count_few a.lines a.line.now c.read_fields-r.ensures)

pub returns : goal.returns
returns c =
    let a = c.args in
    let t = c.read_fields-r in
    let F = t.ensures in
    let f : ℕ → ℕ = address_in a.addresses.now in
    aimed-made a.lines a.line.now F a.addresses.now c.requires.1 c.if-r.magnitude
    (elim c.if-r.branch [ then-r w ↦ w.magnitude-is ∙ w.aim_all.ensures ∙ read-aimed a.lines a.line.now F f | else-r w ↦ w.magnitude-is ∙ read-unlabelled a.lines a.line.now F f w.if-r.false ])
    (not-false t.result.ok c.if-not-r.false) c.build_in-built.result c.build_in-built.ensures

pub build_in-built-requires : goal.build_in-built-requires
build_in-built-requires c =
    let a = c.args in
    let F = c.read_fields-r.ensures in
    let f : ℕ → ℕ = address_in a.addresses.now in
    aimed-whole a.lines a.line.now F a.addresses.now c.requires.1 c.if-r.magnitude
    (elim c.if-r.branch [ then-r w ↦ w.magnitude-is ∙ w.aim_all.ensures ∙ read-aimed a.lines a.line.now F f | else-r w ↦ w.magnitude-is ∙ read-unlabelled a.lines a.line.now F f w.if-r.false ])
