-- The definitions at work.
use Rattle.std.specs.Prelude.{◌≡◌, refl, [], ◌∷◌}
use Rattle.srecord_spec.specs.Record.{spell_record, checksum_of}
use Rattle.srecord_spec.specs.Write.{summed, image_text, write_outcome, written_of}

-- S307000010004E7525, S70500001000EA
one_word : image_text 4096 (20085 ∷ [])
    ≡ 83 ∷ 51 ∷ 48 ∷ 55 ∷ 48 ∷ 48 ∷ 48 ∷ 48 ∷ 49 ∷ 48 ∷ 48 ∷ 48 ∷ 52 ∷ 69 ∷ 55 ∷ 53 ∷ 50 ∷ 53 ∷ 10
    ∷ 83 ∷ 55 ∷ 48 ∷ 53 ∷ 48 ∷ 48 ∷ 48 ∷ 48 ∷ 49 ∷ 48 ∷ 48 ∷ 48 ∷ 69 ∷ 65 ∷ 10 ∷ []
unfolding image_text spell_record summed checksum_of
one_word = refl

-- the last word below 2^32 is written; one more is 9 before 11; one place short is 11
answers : (written_of 4294967294 (0 ∷ []) 34 ≡ record { count = 34; number = 0 })
    × (written_of 4294967294 (0 ∷ 0 ∷ []) 0 ≡ record { count = 0; number = 9 })
    × (written_of 4294967294 (0 ∷ []) 33 ≡ record { count = 0; number = 11 })
unfolding image_text spell_record summed checksum_of write_outcome written_of
answers = (refl, refl, refl)
