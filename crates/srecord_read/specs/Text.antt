-- What the code answers to a text.
use Rattle.std.specs.Prelude.{Bool, cond, List, ℕ, ◌+◌, ◌-◌, ◌/◌, length}
use Rattle.srecord_spec.specs.declared.Loaded.{Loaded}
use Rattle.srecord_spec.specs.Read.{records_from, words_in, start_read, image_read, text_outcome, loaded_as}

abbrev pub refused_as : ℕ → ℕ → Loaded
refused_as number line = record { start = 0; words = 0; number = number; line = line }

abbrev pub closed_as : Bool → ℕ → ℕ → ℕ → Loaded
closed_as last start next k = cond last (record { start = start; words = (next - start) / 2; number = 0; line = 0 }) (refused_as 12 (k + 2))

-- every record, whatever the room
unfoldable pub checked_of : List ℕ → Loaded
checked_of text = loaded_as (text_outcome text) (start_read text) (length (image_read text))

-- the same of what is left behind k records, where the next one is due at next
unfoldable pub checked_from : ℕ → ℕ → ℕ → List (List ℕ) → Loaded
checked_from start next k ps = loaded_as (records_from start next (k + 1) ps) start ((next - start) / 2 + length (words_in ps))
