use Rattle.sheet_same.proofs.Laws.{fits, lent, comparison}
use Rattle.sheet_same.proofs.compare.Goals as goal

pub slice_bounds-equal_words-end : goal.slice_bounds-equal_words-end
slice_bounds-equal_words-end c =
    let a = c.args in
    let t = c.translate-a in
    fits a.first.now a.first_image.now a.scratch.now t.new.image t.new.scratch t.result t.ensures

pub slice_bounds-equal_words-end-2 : goal.slice_bounds-equal_words-end-2
slice_bounds-equal_words-end-2 c =
    let a = c.args in
    let t = c.translate-a in
    lent a.first.now a.first_image.now a.scratch.now t.new.image t.new.scratch t.result t.ensures

pub slice_bounds-equal_words-end-3 : goal.slice_bounds-equal_words-end-3
slice_bounds-equal_words-end-3 c =
    let a = c.args in
    let t = c.translate-a in
    let u = c.translate-b in
    fits a.second.now a.second_image.now t.new.scratch u.new.image u.new.scratch u.result u.ensures

pub slice_bounds-equal_words-end-4 : goal.slice_bounds-equal_words-end-4
slice_bounds-equal_words-end-4 c =
    let a = c.args in
    let t = c.translate-a in
    let u = c.translate-b in
    lent a.second.now a.second_image.now t.new.scratch u.new.image u.new.scratch u.result u.ensures

pub returns : goal.returns
returns c =
    let a = c.args in
    let t = c.translate-a in
    let u = c.translate-b in
    let q = c.equal_words-words in
    comparison a.first.now a.second.now a.first_image.now a.second_image.now a.scratch.now c.requires
    t.new.image t.new.scratch t.result t.ensures u.new.image u.new.scratch u.result u.ensures q.result q.ensures
