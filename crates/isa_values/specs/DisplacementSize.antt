-- Base and outer displacements (the manual, figure 2-2 and tables 2-1 and 2-2): their bytes, and the two bits of BD SIZE and of I/IS.
use Rattle.std.specs.Prelude.{ℕ, ◌≡◌, refl}
use Rattle.isa.specs.declared.DisplacementSize.{DisplacementSize}
use Rattle.isa.specs.declared.DisplacementSize.TheVariants.{Null, Word, Long}
use Rattle.isa_spec.specs.ExtensionWord.{size_of_code}

abbrev pub displacement_bytes : DisplacementSize → ℕ
displacement_bytes Null = 0
displacement_bytes Word = 2
displacement_bytes Long = 4

abbrev pub displacement_code : DisplacementSize → ℕ
displacement_code Null = 1
displacement_code Word = 2
displacement_code Long = 3

pub of_code : (d : DisplacementSize) → size_of_code (displacement_code d) ≡ d
of_code Null = refl
of_code Word = refl
of_code Long = refl
