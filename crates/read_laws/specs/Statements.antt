-- What is to be proved of each instruction: that it reads (T1), and of each group of operation words: that what reads encodes (T2).
use Rattle.std.specs.Prelude.{ℕ, ◌<◌, ◌≡◌, List, ◌∷◌}
use Rattle.isa.specs.declared.Instruction.{Instruction}
use Rattle.encode_spec.specs.Encode.{words_of}
use Rattle.read_spec.specs.declared.Group.{Group}
use Rattle.read_spec.specs.declared.Tail.{Tail}
use Rattle.read_spec.specs.Tree.{ret}
use Rattle.read_spec.specs.Plain.{plain, plain_operand}
use Rattle.read_spec.specs.Map.{group_at}
use Rattle.read_spec.specs.Layouts.{layout_of}
use Rattle.read_spec.specs.Decoded.{decoded, word_of}
use Rattle.read_spec.specs.Accepted.{Accepted}
use Rattle.read_operand_laws.specs.TailStands.{TailStands, tail_words, plain_tail}

-- an instruction's words are an operation word of a group and what follows it, and its plain form is what these form (T1)
pub data Reads (a : ℕ) (i : Instruction) : Type 0 where
  reads : (s : Group) (line x opmode ea : ℕ) (f : Tail) → line < 16 → x < 8 → opmode < 8 → ea < 64
      → group_at line x opmode ≡ s
      → TailStands a (layout_of s line x opmode ea) f
      → decoded a s line x opmode ea f.value (plain_operand (layout_of s line x opmode ea).size f.source) (plain_operand (layout_of s line x opmode ea).size f.destination)
      ≡ ret (plain i)
      → words_of i a ≡ word_of line x opmode ea ∷ tail_words a (layout_of s line x opmode ea) f
      → Reads a i

-- an instruction is accepted, in plain form, and lays down the words (T2)
abbrev pub Encodes : ℕ → Instruction → List ℕ → Type 0
Encodes a i ws = Accepted a i × (plain i ≡ i) × (words_of i a ≡ ws)

-- whatever an operation word of a group and fields that follow it form
abbrev pub Sound : Group → Type 0
Sound s =
    (a line x opmode ea : ℕ) → line < 16 → x < 8 → opmode < 8 → ea < 64 → group_at line x opmode ≡ s
    → (f : Tail) → TailStands a (layout_of s line x opmode ea) f → plain_tail (layout_of s line x opmode ea).size f ≡ f
    → (i : Instruction) → decoded a s line x opmode ea f.value f.source f.destination ≡ ret i
    → Encodes a i (word_of line x opmode ea ∷ tail_words a (layout_of s line x opmode ea) f)
