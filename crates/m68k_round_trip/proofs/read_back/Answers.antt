use mathlib.Core.Path.{◌∙◌}
use native.Mathlib.Omega.{arith}
use Rattle.m68k_facts.specs.Laws.{encode_most, places_law}
use Rattle.m68k_round_trip.specs.RoundTrip.{back, reads_back, take_count}
use Rattle.m68k_round_trip.proofs.InTypes.{instruction_in_types}
use Rattle.read_spec.specs.Reading.{as_reading}
use Rattle.m68k_round_trip.proofs.read_back.Goals as goal

pub slice_bounds-words-end : goal.slice_bounds-words-end
slice_bounds-words-end c =
    let a = c.args in
    rw c.encode-e.ensures (omega (arith, encode_most a.instruction a.address, places_law a.instruction a.address))

pub slice_bounds-read-end : goal.slice_bounds-read-end
slice_bounds-read-end c =
    let a = c.args in
    let e = c.encode-e in
    take_count e.result.count e.result.words
    (rw e.ensures (omega (arith, encode_most a.instruction a.address, places_law a.instruction a.address)))

pub returns : goal.returns
returns c =
    let e = c.read.ensures ∙ back c.args.instruction c.args.address c.encode-e.result c.encode-e.ensures in
    (e, reads_back c.args.instruction c.args.address (as_reading c.read.result) (instruction_in_types c.args.instruction _ c.well_formed.0) e)
