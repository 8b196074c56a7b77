-- What the code hands back of a tree run by place: what is read with the place after it, or why nothing is.
use Rattle.std.specs.Prelude.{ℕ, Result, Ok, Err, cond, List, ltb, get_or, length, ◌+◌}
use Rattle.read_spec.specs.declared.Unread.{Unread}
use Rattle.read_spec.specs.declared.Unread.TheVariants.{Short, Nothing}
use Rattle.read_places.specs.RunAt.{At, found, ended, refused}

abbrev pub read_of_at : {A : Type 0} → At A → Result (A × ℕ) Unread
read_of_at (found x n) = Ok (x, n)
read_of_at ended = Err Short
read_of_at refused = Err Nothing

-- the word at a place
abbrev pub word_read : List ℕ → ℕ → Result (ℕ × ℕ) Unread
word_read ws n = cond (ltb n (length ws)) (Ok (get_or ws n 0, n + 1)) (Err Short)
