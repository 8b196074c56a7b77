use Rattle.std.specs.Prelude.{◌≡◌, ◌<◌, List, ℕ, ◌++◌, length, take}
use Rattle.std.specs.Io.KnownBytes.{Appends, Consumes}
use Rattle.explain_spec.specs.Explained.{explained, explained_from}
use Rattle.explain_lines.specs.Cut.{ended_of}
use Rattle.explain.proofs.print_explained.Given as goal

-- Of what was read all is printed but what is kept, in which no line ends.
abbrev pub invariant-loop : goal.invariant-loop
invariant-loop g l = record {
  text_room : 65536 ≡ length l.text;
  out_room : 139264 ≡ length l.out;
  room : l.state.have < 65536;
  read : List ℕ;
  consumed : Consumes (g.R.Read.remaining l.fn.input) (g.R.Read.remaining l.input) read;
  done : List ℕ;
  written : Appends (g.W.Write.contents l.fn.output) (g.W.Write.contents l.output) done;
  rest : (next : List ℕ) → explained (read ++ next) ≡ done ++ explained_from l.state.begun (take l.state.have l.text ++ next);
  none : ended_of (take l.state.have l.text) ≡ 0;
}
