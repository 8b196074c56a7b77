use Rattle.std.specs.Prelude.{◌≡◌, ◌-◌, ◌≤◌, List, ℕ, ◌++◌, length, drop}
use Rattle.std.specs.Io.KnownBytes.{Appends}
use Rattle.base_spec.specs.Lines.{answers_of}
use Rattle.explain_spec.specs.Explained.{explained_line}
use Rattle.explain.proofs.print_lines.Given as goal

-- The lines before `from` are printed.
abbrev pub invariant-loop-from : goal.invariant-loop-from
invariant-loop-from g l = record {
  same_room : length l.out ≡ length l.initial.out;
  wide : 73728 ≤ length l.initial.out;
  short : length l.lines ≤ 65536;
  done : List ℕ;
  written : Appends (g.W.Write.contents l.fn.output) (g.W.Write.contents l.output) done;
  rest : answers_of explained_line l.lines ≡ done ++ answers_of explained_line (drop l.from l.lines);
}

abbrev pub decreases-loop-from : goal.decreases-loop-from
decreases-loop-from g l = length l.lines - l.from
