-- Demand 3 of what `translate_sparse` returns and leaves: Translated by the sparse rule is what it ensures.
use Rattle.std.specs.Prelude.{ℕ, suc, ◌*◌, ◌<◌, ◌≡◌, List, get_or}
use Rattle.std.proofs.Common.{◌∙◌, arith}
use Rattle.sheet_spec.specs.declared.Listed.{Listed}
use Rattle.sheet_spec.specs.Sheet.{sheet_in, addresses, address_of_line}
use Rattle.sheet_spec.specs.Translate.{sparse}
use Rattle.sheet_spec.specs.Promises.{Translated, Followed}
use Rattle.sheet_size_facts.specs.Outcomes.{places_length}
use Rattle.sheet_size_facts.specs.Scratch.{sparse-filled, firsts_at}
use Rattle.sheet_translate_laws.specs.Followed.{followed}

-- DEMAND 3
pub sparse_stands : (text v s v' s' : List ℕ) (r : Listed) → Translated sparse text v s v' s' r → r.number ≡ 0 → Followed sparse text v s v' s' r
sparse_stands = followed sparse-filled

-- place b, from 0, holds the address of line 64 × b + 1
pub block_addresses : (text v s v' s' : List ℕ) (r : Listed) → Translated sparse text v s v' s' r → r.number ≡ 0 → (b : ℕ) → 64 * b < r.lines
    → get_or s' b 0 ≡ address_of_line (sheet_in text) (suc (64 * b))
block_addresses text v s v' s' r t z b h =
    let f = sparse_stands text v s v' s' r t z in
    f.addresses (suc b) (omega arith) (omega arith) ∙ firsts_at (addresses (sheet_in text)) b (omega (arith, f.lines, places_length (sheet_in text)))
