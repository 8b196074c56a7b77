-- Extension words (the manual, section 2.1, figure 2-2 and tables 2-1 and 2-2).
-- Bits 15 to 12 name the index register, 11 its width, 10 and 9 its scale; bit 8 marks the full format.
use Rattle.std.specs.Prelude.{ℕ, ◌/◌, ◌%◌, Bool, not, ◌&&◌, ◌||◌, cond, ltb, leb, eqb}
use Rattle.isa.specs.declared.DisplacementSize.{DisplacementSize}
use Rattle.isa.specs.declared.DisplacementSize.TheVariants as displacement
use Rattle.isa.specs.declared.Indirection.{Indirection}
use Rattle.isa.specs.declared.Indirection.TheVariants as indirect

abbrev pub is_full : ℕ → Bool
is_full w = eqb (w / 256 % 2) 1

-- BS, bit 7, and IS, bit 6, which only a full word has
abbrev pub base_suppressed : ℕ → Bool
base_suppressed w = is_full w && eqb (w / 128 % 2) 1

abbrev pub index_suppressed : ℕ → Bool
index_suppressed w = is_full w && eqb (w / 64 % 2) 1

-- a displacement size by its two bits: 10 a word, 11 a long, and else none
abbrev pub size_of_code : ℕ → DisplacementSize
size_of_code k = cond (eqb (k % 4) 2) displacement.Word (cond (eqb (k % 4) 3) displacement.Long displacement.Null)

-- BD SIZE, bits 5 and 4
abbrev pub base_size : ℕ → DisplacementSize
base_size w = size_of_code (w / 16)

-- I/IS, bits 2 to 0
abbrev pub indirection_of : ℕ → Indirection
indirection_of w =
    cond (not (is_full w) || eqb (w % 8) 0) indirect.None (cond (ltb (w % 8) 4) indirect.Preindexed indirect.Postindexed)

-- the size of the outer displacement: null where there is no indirection
abbrev pub outer_size_as : Indirection → ℕ → DisplacementSize
outer_size_as indirect.None w = displacement.Null
outer_size_as indirect.Preindexed w = size_of_code w
outer_size_as indirect.Postindexed w = size_of_code w

abbrev pub outer_size : ℕ → DisplacementSize
outer_size w = outer_size_as (indirection_of w) w

-- reserved for the index: I/IS 100, and where it is suppressed all of 1xx, and index bits that are not clear
abbrev pub index_reserved : ℕ → Bool
index_reserved w = cond (index_suppressed w) (leb 4 (w % 8) || not (eqb (w / 512) 0)) (eqb (w % 8) 4)

-- reserved in a full word: BD SIZE 00, bit 3 set, or what is reserved for the index
abbrev pub reserved : ℕ → Bool
reserved w = eqb (w / 16 % 4) 0 || eqb (w / 8 % 2) 1 || index_reserved w

-- any brief word is canonical, and a full one without a reserved combination
abbrev pub is_canonical : ℕ → Bool
is_canonical w = not (is_full w) || not (reserved w)
