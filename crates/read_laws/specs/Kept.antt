-- A reading looks at no more than 16 words: the others do not matter.
use Rattle.std.specs.Prelude.{ℕ, zero, suc, ◌*◌, ◌≡◌, refl, List, take}
use Rattle.std.proofs.Common.{ap, sym, ◌∙◌}
use Rattle.isa.specs.declared.Instruction.{Instruction}
use Rattle.read_spec.specs.Reading.{Reading, Read, Short, Nothing}
use Rattle.read_spec.specs.Tree.{Tree, ret, fail, more, run, Out, got, short, none}
use Rattle.read_places.specs.RunAt.{At, found, ended, refused}
use Rattle.read_places.specs.Depth.{Depth, at_out, depth_take}
use Rattle.read_spec.specs.Read.{reader, reading_of, read_of}
use Rattle.read_facts.specs.Length.{reader_depth}

deeper : {A : Type 0} (t : Tree A) (d : ℕ) → Depth t d → Depth t (suc d)
deeper (ret x) d h = tt
deeper fail d h = tt
deeper (more k) zero h = absurd h
deeper (more k) (suc d) h = λ at w. deeper (k at w) d (h at w)

reading_at : At Instruction → Reading
reading_at (found i n) = Read i (2 * n)
reading_at ended = Short
reading_at refused = Nothing

reading_at_lem : (o : Out Instruction) → reading_of o ≡ reading_at (at_out o)
unfolding reading_at
reading_at_lem (got i n r) = refl
reading_at_lem short = refl
reading_at_lem none = refl

pub read_kept : (ws : List ℕ) (a : ℕ) → read_of (take 16 ws) a ≡ read_of ws a
unfolding read_of
read_kept ws a =
    reading_at_lem (run (reader a) a 0 (take 16 ws)) ∙ ap reading_at (depth_take (reader a) 16 (deeper (reader a) 15 (deeper (reader a) 14 (deeper (reader a) 13 (reader_depth a)))) a 0 ws) ∙ sym (reading_at_lem (run (reader a) a 0 ws))
