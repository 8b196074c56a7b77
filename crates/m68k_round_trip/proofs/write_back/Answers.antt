use mathlib.Core.Path.{sym, ap, ◌∙◌}
use native.Mathlib.Omega.{arith}
use Rattle.read_spec.specs.Read.{read_of}
use Rattle.read_spec.specs.Reading.{as_reading}
use Rattle.m68k_round_trip.specs.RoundTrip.{words_all, written, writes_back}
use Rattle.m68k_round_trip.proofs.write_back.Goals as goal

pub returns-in-Ok : goal.returns-in-Ok
returns-in-Ok c =
    let e = written (read_of c.args.words.now c.args.address) c.args.address _ _ (sym c.read-reading.ensures ∙ ap as_reading c.in-Ok.is) c.encode.ensures in
    (e, writes_back c.args.words.now c.args.address c.encode.result (words_all c.args.words.now (λ i. omega (arith, c.shared_slice_known-1.given i))) e)
