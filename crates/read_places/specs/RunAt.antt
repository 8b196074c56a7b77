-- A tree taken over words by place, as an array is read.
use Rattle.std.specs.Prelude.{ℕ, ◌+◌, cond, List, ltb, get_or, length}
use Rattle.encode_spec.specs.Item.{word_address}
use Rattle.read_spec.specs.Tree.{Tree, fail, more, ret}

-- the same by place, as an array is read
pub data At (A : Type 0) : Type 0 where
  found : A → ℕ → At A
  ended : At A
  refused : At A

abbrev pub run_at : {A : Type 0} → Tree A → ℕ → List ℕ → ℕ → At A
run_at (ret x) a ws n = found x n
run_at fail a ws n = refused
run_at (more k) a ws n = cond (ltb n (length ws)) (run_at (k (word_address a n) (get_or ws n 0)) a ws (n + 1)) ended
