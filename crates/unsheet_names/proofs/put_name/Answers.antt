use Rattle.std.proofs.Common.{sym, ap, ◌∙◌, [], get_or, length, arith, ltb-false}
use Rattle.base_text.specs.WroteLaws.{wrote_none}
use Rattle.unsheet_names.specs.LaidLaws.{laid_is}
use Rattle.unsheet_names.proofs.Laws.{unnamed, name_is, name_short}
use Rattle.unsheet_names.proofs.put_name.Goals as goal

pub put-requires : goal.put-requires
put-requires c =
    let l = c.in-Some.ensures.lookup in
    let e = name_is c.args.kind c.args.place c.names.result.now c.names.ensures c.in-Some.name.now l.0 l.1 c.as_bytes.result.now c.as_bytes.ensures.value in
    omega (arith, c.requires, ap length e, name_short c.args.kind c.args.place)

pub returns-in-Some : goal.returns-in-Some
returns-in-Some c =
    let l = c.in-Some.ensures.lookup in
    let e = name_is c.args.kind c.args.place c.names.result.now c.names.ensures c.in-Some.name.now l.0 l.1 c.as_bytes.result.now c.as_bytes.ensures.value in
    rw (laid_is c.args.kind c.args.place, e)
    (record {
      name = (record { next = c.put.ensures.0; image = c.put.ensures.1 }, omega (arith, c.put.ensures.0, ap length e, name_short c.args.kind c.args.place));
      laid = record { next = c.put.ensures.0; image = c.put.ensures.1 };
    })

pub returns-in-None : goal.returns-in-None
returns-in-None c =
    let t = c.names.result.now in
    let e = ap (λ ns. get_or ns c.args.place []) (sym c.names.ensures) ∙ unnamed t c.args.place (ltb-false c.args.place (length t) (sym c.in-None.ensures.lookup.0)) in
    rw (laid_is c.args.kind c.args.place, e) (record { name = (wrote_none c.args.out.now c.args.at, omega arith); laid = wrote_none c.args.out.now c.args.at })
