use Rattle.std.specs.Prelude.{◌≡◌, ◌+◌, ◌-◌, ◌≤◌, List, ℕ, ◌++◌, length}
use Rattle.std.specs.Io.KnownBytes.{Appends}
use Rattle.list_program.specs.Cases.{cases_of, cases_from}
use Rattle.list_program.proofs.print_cases.Given as goal

-- The cases before `from` are answered; `most` are left at most.
abbrev pub invariant-loop-from : goal.invariant-loop-from
invariant-loop-from g l =
    let C = g.C.LentCase in record {
      places : 4096 ≡ length l.scratch;
      room : 282625 ≡ length l.out;
      most : ℕ;
      enough : length l.list ≤ l.from + most;
      done : List ℕ;
      written : Appends (g.W.Write.contents l.fn.output) (g.W.Write.contents l.output) done;
      rest : cases_of C.limits C.is_answered C.text_of l.list ≡ done ++ cases_from C.limits C.is_answered C.text_of l.list most l.from;
    }

abbrev pub decreases-loop-from : goal.decreases-loop-from
decreases-loop-from g l = length l.list - l.from
