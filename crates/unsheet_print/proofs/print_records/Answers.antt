use Rattle.std.proofs.Common.{sym, arith}
use Rattle.srecord_facts.specs.Printing.{printed_into}
use Rattle.unsheet_print.specs.PrintLaws.{records_sheet_lem, records_refused}
use native.Mathlib.Omega.{arith}
use mathlib.Core.Path.{sym}
use lib.ListN.{length-take}
use Rattle.srecord_facts.specs.Printing.{printed_into}
use Rattle.srecord_facts.specs.Loading.{loads}
use Rattle.unsheet_print.specs.PrintLaws.{records_sheet_lem, records_refused}
use Rattle.unsheet_print.proofs.print_records.Goals as goal

pub slice_bounds-print_unsheet-end : goal.slice_bounds-print_unsheet-end
slice_bounds-print_unsheet-end c = (loads c.read_records-r.ensures c.if-r-eq0.true).room

pub slice_bounds-print_unsheet-end-then-r-eq0 : goal.slice_bounds-print_unsheet-end-then-r-eq0
slice_bounds-print_unsheet-end-then-r-eq0 c =
    rw length-take (omega (arith, (loads c.read_records-r.ensures c.if-r-eq0.true).room))

pub returns-then-r-eq0-clause-printed_into : goal.returns-then-r-eq0-clause-printed_into
returns-then-r-eq0-clause-printed_into c = let p = c.print_unsheet.ensures in (rw (records_sheet_lem c.read_records-r.ensures c.args.room c.if-r-eq0.true) at p.0, p.1)

pub returns-clause-printed_into : goal.returns-clause-printed_into
returns-clause-printed_into c = (printed_into (rw (sym (records_refused c.read_records-r.ensures c.args.room c.if-r-eq0.false)) c.put_refusal.ensures.0), omega arith)
