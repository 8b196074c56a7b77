-- What a stream gives and takes through a wrapper that hides its failures.
use Rattle.std.specs.Prelude.{◌≡◌, ◌⊎◌, ℕ, ◌≤◌, List, length, take, Option, Result, MatchResult}
use Rattle.std.specs.Io.KnownBytes.{Appends, Consumes, Keeps}

-- `read(buf)` succeeds and gave the next bytes, none where the stream's own read failed
abbrev pub Gave : {E : Type 0} → Option (List ℕ) → Option (List ℕ) → Result ℕ E → List ℕ → Type 0
Gave old new r buf = MatchResult r (λ n. Consumes old new (take n buf)) (λ _. ⊥)

-- `write(buf)` succeeds: the n bytes that it took are appended, or the stream took none and all are passed over
abbrev pub Took : {E : Type 0} → Option (List ℕ) → Option (List ℕ) → Result ℕ E → List ℕ → Type 0
Took old new r buf = MatchResult r (λ n. Appends old new (take n buf) ⊎ (Keeps old new × (n ≡ length buf))) (λ _. ⊥)

-- a front part of bs is appended
abbrev pub TookFront : Option (List ℕ) → Option (List ℕ) → List ℕ → Type 0
TookFront old new bs = (n : ℕ) × (n ≤ length bs) × Appends old new (take n bs)
