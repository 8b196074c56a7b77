-- A run, a field at a time.
use Rattle.std.specs.Prelude.{Bool, true, cond, not, ◌&&◌, List, ℕ, ◌+◌, ◌*◌, ◌^◌, ltb, replicate, set}
use Rattle.base_spec.specs.Number.{Number}
use Rattle.base_spec.specs.Number as number
use Rattle.read_runs.specs.declared.Run.{Run}
use Rattle.read_runs.specs.declared.Word.{Word}
use Rattle.read_runs.specs.declared.Word.TheVariants.{Is, No}
use Rattle.print_spec.specs.Run.{is_word_field, word_in}
use Rattle.read_runs.specs.Kept.{no_run}

-- the word of four digits
abbrev pub four_digits : ℕ → ℕ → ℕ → ℕ → Word
four_digits a b c d = cond (ltb a 16 && ltb b 16 && ltb c 16 && ltb d 16) (Is (a * 4096 + b * 256 + c * 16 + d)) No

-- what a field says
unfoldable pub word_of : List ℕ → Word
word_of f = cond (is_word_field f) (Is (word_in f)) No

-- a run of no words yet
unfoldable pub start_at : Bool → ℕ → Run
start_at negative n = cond (not negative && ltb n (2 ^ 32)) (record { ok = true; address = n; count = 0; words = replicate 16 0 }) no_run

abbrev pub start_of : Number → Run
start_of (number.Is negative n) = start_at negative n
start_of number.No = no_run

-- r and one word more, where it is kept
unfoldable pub placed_word : Run → ℕ → Run
placed_word r w =
    cond (r.ok && ltb r.count 16)
    (record { ok = r.ok; address = r.address; count = r.count + 1; words = set r.words r.count w })
    r

abbrev pub with_word : Run → Word → Run
with_word r (Is w) = placed_word r w
with_word r No = no_run
