-- The definition at work.
use Rattle.std.specs.Prelude.{◌≡◌, refl, true, [], ◌∷◌, replicate}
use Rattle.read_runs.specs.Kept.{kept_run, no_run, run_of}

-- 4096⇥66fC
read : run_of (52 ∷ 48 ∷ 57 ∷ 54 ∷ 9 ∷ 54 ∷ 54 ∷ 102 ∷ 67 ∷ []) ≡ record { ok = true; address = 4096; count = 1; words = 26364 ∷ replicate 15 0 }
unfolding run_of kept_run
read = refl

-- an address alone is an empty run
empty : run_of (48 ∷ []) ≡ record { ok = true; address = 0; count = 0; words = replicate 16 0 }
unfolding run_of kept_run
empty = refl

-- not: nothing, 0 and a tab, 0⇥66F, 0⇥66FCA, 0⇥66FG, 0⇥66FC and CR, -1
refused : (run_of [] ≡ no_run) × (run_of (48 ∷ 9 ∷ []) ≡ no_run) × (run_of (48 ∷ 9 ∷ 54 ∷ 54 ∷ 70 ∷ []) ≡ no_run)
    × (run_of (48 ∷ 9 ∷ 54 ∷ 54 ∷ 70 ∷ 67 ∷ 65 ∷ []) ≡ no_run) × (run_of (48 ∷ 9 ∷ 54 ∷ 54 ∷ 70 ∷ 71 ∷ []) ≡ no_run)
    × (run_of (48 ∷ 9 ∷ 54 ∷ 54 ∷ 70 ∷ 67 ∷ 13 ∷ []) ≡ no_run) × (run_of (45 ∷ 49 ∷ []) ≡ no_run)
unfolding run_of
refused = (refl, refl, refl, refl, refl, refl, refl)

-- of 17 words 16 are kept
kept : kept_run 0 (replicate 17 1) ≡ record { ok = true; address = 0; count = 16; words = replicate 16 1 }
unfolding kept_run
kept = refl
