-- The widths of the sizes (the manual, "Integer Data Formats").
use Rattle.std.specs.Prelude.{ℕ, ◌*◌, ◌≡◌, refl}
use Rattle.isa.specs.declared.Size.{Size}
use Rattle.isa.specs.declared.Size.TheVariants.{Byte, Word, Long}

abbrev pub byte_count : Size → ℕ
byte_count Byte = 1
byte_count Word = 2
byte_count Long = 4

abbrev pub bit_count : Size → ℕ
bit_count Byte = 8
bit_count Word = 16
bit_count Long = 32

pub eight : (s : Size) → byte_count s * 8 ≡ bit_count s
eight Byte = refl
eight Word = refl
eight Long = refl
