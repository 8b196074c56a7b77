-- What a run of words reads as (01, "The reading").
use Rattle.std.specs.Prelude.{ℕ, ◌*◌, ◌/◌, ◌%◌, List}
use Rattle.isa.specs.declared.Instruction.{Instruction}
use Rattle.read_spec.specs.declared.Group.{Group}
use Rattle.read_spec.specs.Reading.{Reading, Read, Short, Nothing}
use Rattle.read_spec.specs.Tree.{Tree, more, bind, run, Out, got, short, none}
use Rattle.read_spec.specs.Layout.{tail_tree}
use Rattle.read_spec.specs.Map.{group_at}
use Rattle.read_spec.specs.Layouts.{layout_of}
use Rattle.read_spec.specs.Decoded.{decoded}

-- what follows an operation word of a group, in its fields
abbrev pub group_tree : ℕ → Group → ℕ → ℕ → ℕ → ℕ → Tree Instruction
group_tree a s line x opmode ea =
    bind (tail_tree (layout_of s line x opmode ea)) (λ f. decoded a s line x opmode ea f.value f.source f.destination)

abbrev pub word_tree : ℕ → ℕ → ℕ → ℕ → ℕ → Tree Instruction
word_tree a line x opmode ea = group_tree a (group_at line x opmode) line x opmode ea

-- an instruction at a
abbrev pub reader : ℕ → Tree Instruction
reader a = more (λ at w. word_tree a (w / 4096) (w / 512 % 8) (w / 64 % 8) (w % 64))

-- the instruction and its length in bytes, or that the words end, or that nothing reads
abbrev pub reading_of : Out Instruction → Reading
reading_of (got i n ws) = Read i (2 * n)
reading_of short = Short
reading_of none = Nothing

unfoldable pub read_of : List ℕ → ℕ → Reading
read_of ws a = reading_of (run (reader a) a 0 ws)
