-- The fields that hold a number: their numbers, and the values that each holds (01, "The words"; 02, N2 and N5).
use Rattle.std.specs.Prelude.{ℕ, ◌-◌, ◌%◌, ◌^◌, Bool, false, not, ◌&&◌, ◌||◌, List, [], ◌∷◌, eqb, get_or, ℤ, pos, negsuc}
use Rattle.std.proofs.Math.Option.{Option, none, some}
use Rattle.std.specs.Int.Signed.{le_z}
use Rattle.isa.specs.declared.Size.{Size}
use Rattle.isa.specs.declared.Size.TheVariants.{Byte, Word, Long}
use Rattle.isa.specs.declared.Range.{Range}
use Rattle.isa.specs.declared.Field.{Field}
use Rattle.isa.specs.declared.Field.TheVariants as field

-- the number of a field
abbrev pub field_number : Field → ℕ
field_number field.ShortBranch = 1
field_number field.WordBranch = 2
field_number field.PcDisplacement = 3
field_number field.PcIndex = 4
field_number field.Displacement = 5
field_number field.IndexDisplacement = 6
field_number field.ShortAddress = 7
field_number field.LongAddress = 8
field_number (field.Immediate s) = 9
field_number field.Count = 10
field_number field.TrapVector = 11
field_number field.BitNumber = 12
field_number field.LinkDisplacement = 13
field_number field.Register = 14
field_number field.RtdDisplacement = 15
field_number field.BreakpointVector = 16
field_number field.BaseDisplacement = 17
field_number field.OuterDisplacement = 18
field_number field.NullDisplacement = 19
field_number field.BitField = 20

-- from the one value to the other
abbrev pub between : ℤ → ℤ → Range
between l h = record { low = l; high = h }

-- the 20 pairs, in the order of the fields' numbers: the lowest and the highest value
unfoldable pub ranges : List Range
ranges =
    between (negsuc 127) (pos 127)
    ∷ between (negsuc 32767) (pos 32767)
    ∷ between (negsuc 32767) (pos 32767)
    ∷ between (negsuc 127) (pos 127)
    ∷ between (negsuc 32767) (pos 32767)
    ∷ between (negsuc 127) (pos 127)
    ∷ between (negsuc 32767) (pos 32767)
    ∷ between (pos 0) (pos 4294967295)
    ∷ between (pos 0) (pos 4294967295)
    ∷ between (pos 1) (pos 8)
    ∷ between (pos 0) (pos 15)
    ∷ between (pos 0) (pos 255)
    ∷ between (negsuc 32767) (pos 32767)
    ∷ between (pos 0) (pos 7)
    ∷ between (negsuc 32767) (pos 32767)
    ∷ between (pos 0) (pos 7)
    ∷ between (negsuc 32767) (pos 32767)
    ∷ between (negsuc 32767) (pos 32767)
    ∷ between (pos 0) (pos 0)
    ∷ between (pos 0) (pos 31)
    ∷ []

-- the pair of a field
abbrev pub pair_of : Field → Range
pair_of f = get_or ranges (field_number f - 1) (between (pos 0) (pos 0))

abbrev pub lowest : Field → ℤ
lowest f = (pair_of f).low

-- the largest number of a size
abbrev pub top_of : Size → ℕ
top_of Byte = 255
top_of Word = 65535
top_of Long = 4294967295

-- the size of an Immediate; no other field has one
abbrev pub immediate_size : Field → Option Size
immediate_size field.ShortBranch = none
immediate_size field.WordBranch = none
immediate_size field.PcDisplacement = none
immediate_size field.PcIndex = none
immediate_size field.Displacement = none
immediate_size field.IndexDisplacement = none
immediate_size field.ShortAddress = none
immediate_size field.LongAddress = none
immediate_size (field.Immediate s) = some s
immediate_size field.Count = none
immediate_size field.TrapVector = none
immediate_size field.BitNumber = none
immediate_size field.LinkDisplacement = none
immediate_size field.Register = none
immediate_size field.RtdDisplacement = none
immediate_size field.BreakpointVector = none
immediate_size field.BaseDisplacement = none
immediate_size field.OuterDisplacement = none
immediate_size field.NullDisplacement = none
immediate_size field.BitField = none

-- the top of an Immediate depends on its size
abbrev pub narrowed : Option Size → ℤ → ℤ
narrowed none z = z
narrowed (some s) z = pos (top_of s)

abbrev pub highest : Field → ℤ
highest f = narrowed (immediate_size f) (pair_of f).high

abbrev pub within : Range → ℤ → Bool
within r z = le_z r.low z && le_z z r.high

-- beside its pair an Immediate of Byte holds -128 to -1, of Word -32768 to -1, with 2^32 added (02, N2)
abbrev pub also_holds : Option Size → ℤ → Bool
also_holds none z = false
also_holds (some Byte) z = within (between (pos (2 ^ 32 - 128)) (pos (2 ^ 32 - 1))) z
also_holds (some Word) z = within (between (pos (2 ^ 32 - 32768)) (pos (2 ^ 32 - 1))) z
also_holds (some Long) z = false

abbrev pub is_zero : ℤ → Bool
is_zero (pos n) = eqb n 0
is_zero (negsuc n) = false

abbrev pub is_minus_one : ℤ → Bool
is_minus_one (pos n) = false
is_minus_one (negsuc n) = eqb n 0

-- ShortBranch excludes 0, whose byte calls for a word branch, and -1, whose byte calls for a long one (02, N5); no other field excludes a value
abbrev pub excludes : Field → ℤ → Bool
excludes f z = eqb (field_number f) (field_number field.ShortBranch) && (is_zero z || is_minus_one z)

-- a field holds what lies in its pair or beside it and is not excluded
unfoldable pub holds : Field → ℤ → Bool
holds f z = (within (between (lowest f) (highest f)) z || also_holds (immediate_size f) z) && not (excludes f z)

-- what an Immediate of a size is written as (02, N2): of Byte its remainder by 256, of Word by 65,536, of Long itself
abbrev pub remainder_of : Size → ℕ → ℕ
remainder_of Byte v = v % 256
remainder_of Word v = v % 65536
remainder_of Long v = v
