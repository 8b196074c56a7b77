use native.Mathlib.Omega.{arith}
use mathlib.Core.Path.{refl}
use Rattle.srecord_read.specs.WordLaws.{data_none, data_found}
use Rattle.srecord_read.proofs.put_data.Goals as goal

pub returns-then-line-lt2 : goal.returns-then-line-lt2
returns-then-line-lt2 c =
    let p = c.args.line.now in
    let d = data_none p (omega arith) in
    rw d (refl, refl)

pub returns-then-line-begin : goal.returns-then-line-begin
returns-then-line-begin c =
    let p = c.args.line.now in
    let w = c.address_width in
    let d = data_none p (omega (arith, w.ensures.0)) in
    rw d (refl, refl)

pub put_words-requires : goal.put_words-requires
put_words-requires c =
    let w = c.address_width in
    rw (data_found c.args.line.now w.result w.ensures.0 (omega arith)) at c.requires

pub returns : goal.returns
returns c =
    let w = c.address_width in
    rw (data_found c.args.line.now w.result w.ensures.0 (omega arith)) c.put_words.ensures
