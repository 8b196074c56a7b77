-- What a program writes for what it reads.
use Rattle.std.specs.Prelude.{ℕ, List, cond, ltb, length}
use Rattle.base_spec.specs.Lines.{answers_of}
use Rattle.base_spec.specs.Refused.{too_long}

-- a program that answers line by line takes at most 1 MiB
abbrev pub answers_output_of : (List ℕ → List ℕ) → List ℕ → List ℕ
answers_output_of answer text = cond (ltb 1048576 (length text)) too_long (answers_of answer text)
