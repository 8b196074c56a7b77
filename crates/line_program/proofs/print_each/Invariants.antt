use Rattle.std.specs.Prelude.{◌≡◌, ◌-◌, List, ℕ, ◌++◌, length, drop}
use Rattle.std.specs.Io.KnownBytes.{Appends}
use Rattle.base_spec.specs.Lines.{answers_of}
use Rattle.line_program.proofs.print_each.Given as goal

-- The lines before `next` are answered.
abbrev pub invariant-loop-next : goal.invariant-loop-next
invariant-loop-next g l = record {
  room : 65536 ≡ length l.out;
  done : List ℕ;
  written : Appends (g.W.Write.contents l.fn.output) (g.W.Write.contents l.output) done;
  rest : answers_of g.A.Answer.answer_of l.text ≡ done ++ answers_of g.A.Answer.answer_of (drop l.next l.text);
}

abbrev pub decreases-loop-next : goal.decreases-loop-next
decreases-loop-next g l = length l.text - l.next
