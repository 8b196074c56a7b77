use Rattle.std.proofs.Common.{ℕ, sym, ◌∙◌, arith}
use borrow.Author.Tests.{not-true, not-false}
use Rattle.sheet_spec.specs.Sheet.{sheet_in, addresses}
use Rattle.sheet_labels.specs.Labels.{address_in, listed}
use Rattle.sheet_line.specs.Aimed.{count_few, read-aimed, read-unlabelled, not_read_built}
use Rattle.sheet_blocks.specs.BlockLaws.{few_addresses}
use Rattle.sheet_blocks.proofs.Laws.{built_from_lem}
use Rattle.sheet_blocks.proofs.built.Goals as goal
use Rattle.sheet_blocks.proofs.built.Goals.{then-r, else-r}

pub returns-then-not-r : goal.returns-then-not-r
returns-then-not-r c =
    let a = c.args in
    let t = c.read_fields-r in
    sym (not_read_built a.lines a.line.now t.ensures (listed (addresses (sheet_in a.text.now))) (not-true t.result.ok c.if-not-r.true))

pub aim_all-requires : goal.aim_all-requires
aim_all-requires c =
    let a = c.args in
    (c.requires, omega (arith, count_few a.lines a.line.now c.read_fields-r.ensures))

pub returns : goal.returns
returns c =
    let a = c.args in
    let t = c.read_fields-r in
    let F = t.ensures in
    let f : ℕ → ℕ = address_in (addresses (sheet_in a.text.now)) in
    c.build_in.ensures
    ∙ built_from_lem a.lines a.line.now F (addresses (sheet_in a.text.now)) (few_addresses a.text.now c.requires) c.if-r.magnitude
    (elim c.if-r.branch [ then-r w ↦ w.magnitude-is ∙ w.aim_all.ensures ∙ read-aimed a.lines a.line.now F f | else-r w ↦ w.magnitude-is ∙ read-unlabelled a.lines a.line.now F f w.if-r.false ])
    (not-false t.result.ok c.if-not-r.false)
