use native.Mathlib.Omega.{arith}
use Rattle.srecord_read.specs.TextLaws.{read-refused, read_short, read-room, read-filled}
use Rattle.srecord_read.proofs.read_records.Goals as goal

pub returns-then-r-ne0 : goal.returns-then-r-ne0
returns-then-r-ne0 c =
    let a = c.args in
    let r = c.check-r in
    read-refused a.text.now a.image.now r.result r.ensures c.if-r-ne0.true

pub returns-then-image-r : goal.returns-then-image-r
returns-then-image-r c =
    let a = c.args in
    let r = c.check-r in
    read_short a.text.now a.image.now r.result r.ensures (omega arith) (omega arith) c.refused_at.result c.refused_at.ensures

pub fill-requires : goal.fill-requires
fill-requires c =
    let a = c.args in
    let r = c.check-r in
    read-room a.text.now a.image.now r.result r.ensures (omega arith) (omega arith)

pub returns : goal.returns
returns c =
    let a = c.args in
    let r = c.check-r in
    read-filled a.text.now a.image.now r.result r.ensures (omega arith) (omega arith) c.fill.new.image c.fill.ensures
