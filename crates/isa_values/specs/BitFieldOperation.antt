-- The bit-field instructions by their code, bits 10 to 8, and which of them name a data register beside the field (the manual, section 4: BFEXTU, BFEXTS, BFFFO, BFINS).
use Rattle.std.specs.Prelude.{ℕ, ◌%◌, Bool, true, false, [], ◌∷◌, get_or}
use Rattle.isa.specs.declared.BitFieldOperation.{BitFieldOperation}
use Rattle.isa.specs.declared.BitFieldOperation.TheVariants.{Test, ExtractUnsigned, Change, ExtractSigned, Clear, FindFirstOne, Set, Insert}

abbrev pub has_register : BitFieldOperation → Bool
has_register Test = false
has_register ExtractUnsigned = true
has_register Change = false
has_register ExtractSigned = true
has_register Clear = false
has_register FindFirstOne = true
has_register Set = false
has_register Insert = true

abbrev pub bit_field_of : ℕ → BitFieldOperation
bit_field_of code = get_or (Test ∷ ExtractUnsigned ∷ Change ∷ ExtractSigned ∷ Clear ∷ FindFirstOne ∷ Set ∷ Insert ∷ []) (code % 8) Test
