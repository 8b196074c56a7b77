use Rattle.sheet_sparse.proofs.Laws.{sizes_ready, size-refused, few_words, end_refused, ready, done}
use Rattle.sheet_sparse.proofs.translate_lines.Goals as goal

pub sizes-p-requires : goal.sizes-p-requires
sizes-p-requires c = let a = c.args in sizes_ready a.text.now a.image.now a.scratch.now c.requires c.feeds-lines.result c.feeds-lines.ensures c.lines_begin-from.result c.lines_begin-from.ensures

pub returns-then-p-ne0 : goal.returns-then-p-ne0
returns-then-p-ne0 c =
    let a = c.args in
    let r = c.refuse_pass in
    size-refused a.text.now a.image.now a.scratch.now c.requires c.feeds-lines.result c.feeds-lines.ensures c.lines_begin-from.result c.lines_begin-from.ensures c.start-s.result c.start-s.ensures c.sizes-p.result c.sizes-p.new.places c.sizes-p.ensures.0 c.sizes-p.ensures.1 c.if-p-ne0.true r.new.scratch r.result r.ensures.0 r.ensures.1

pub closing-number-requires : goal.closing-number-requires
closing-number-requires c = let a = c.args in few_words a.text.now a.image.now a.scratch.now c.requires c.feeds-lines.result c.feeds-lines.ensures c.lines_begin-from.result c.lines_begin-from.ensures c.start-s.result c.start-s.ensures c.sizes-p.result c.sizes-p.new.places c.sizes-p.ensures.0 c.sizes-p.ensures.1 c.if-p-ne0.false

pub returns-then-number-ne0 : goal.returns-then-number-ne0
returns-then-number-ne0 c =
    let a = c.args in
    let k = c.closing-number in
    let r = c.refuse in
    end_refused a.text.now a.image.now a.scratch.now c.requires c.feeds-lines.result c.feeds-lines.ensures c.lines_begin-from.result c.lines_begin-from.ensures c.start-s.result c.start-s.ensures c.sizes-p.result c.sizes-p.new.places c.sizes-p.ensures.0 c.sizes-p.ensures.1 c.if-p-ne0.false k.result k.ensures c.if-number-ne0.true r.new.scratch r.result r.ensures.0 r.ensures.1

pub lay_down-requires : goal.lay_down-requires
lay_down-requires c =
    let a = c.args in
    let k = c.closing-number in
    ready a.text.now a.image.now a.scratch.now c.requires c.feeds-lines.result c.feeds-lines.ensures c.lines_begin-from.result c.lines_begin-from.ensures c.start-s.result c.start-s.ensures c.sizes-p.result c.sizes-p.new.places c.sizes-p.ensures.0 c.sizes-p.ensures.1 c.if-p-ne0.false k.result k.ensures c.if-number-ne0.false

pub returns : goal.returns
returns c =
    let a = c.args in
    let k = c.closing-number in
    let d = c.lay_down in
    done a.text.now a.image.now a.scratch.now c.requires c.feeds-lines.result c.feeds-lines.ensures c.lines_begin-from.result c.lines_begin-from.ensures c.start-s.result c.start-s.ensures c.sizes-p.result c.sizes-p.new.places c.sizes-p.ensures.0 c.sizes-p.ensures.1 c.if-p-ne0.false k.result k.ensures c.if-number-ne0.false d.new.image d.new.scratch d.result d.ensures
