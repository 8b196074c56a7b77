-- The pair of a field by formula: the field's number gives sign, width in bits and the first value, and these give the
-- pair; an Immediate has the bits of its size. That the pairs are those of the definition is `by_number`.
use Rattle.std.specs.Prelude.{ℕ, ◌+◌, ◌-◌, ◌^◌, Bool, cond, ◌||◌, ltb, eqb, pos, negsuc}
use Rattle.std.proofs.Math.Option.{Option, none, some}
use Rattle.isa.specs.declared.Field.{Field}
use Rattle.isa.specs.declared.Range.{Range}
use Rattle.isa.specs.declared.Size.{Size}
use Rattle.isa_spec.specs.Code.{bit}
use Rattle.isa_spec.specs.Field.{between, field_number, immediate_size}
use Rattle.isa_values.specs.Size.{bit_count}

abbrev pub is_signed : ℕ → Bool
is_signed n = ltb n 8 || eqb n 13 || eqb n 15 || eqb n 17 || eqb n 18

abbrev pub signed_width : ℕ → ℕ
signed_width n = cond (eqb n 1 || eqb n 4 || eqb n 6) 8 16

abbrev pub unsigned_width : ℕ → ℕ
unsigned_width n = cond (ltb n 10) 32 (cond (eqb n 11) 4 (cond (eqb n 12) 8 (cond (eqb n 19) 0 (cond (eqb n 20) 5 3))))

-- -2^(w-1) to 2^(w-1) - 1
abbrev pub signed_pair : ℕ → Range
signed_pair w = between (negsuc (2 ^ (w - 1) - 1)) (pos (2 ^ (w - 1) - 1))

-- 2^w values from the first on
abbrev pub unsigned_pair : ℕ → ℕ → Range
unsigned_pair w first = between (pos first) (pos (2 ^ w - 1 + first))

-- Count begins at 1
abbrev pub pair_of_number : ℕ → Range
pair_of_number n = cond (is_signed n) (signed_pair (signed_width n)) (unsigned_pair (unsigned_width n) (bit (eqb n 10)))

-- the pair of an Immediate by its size, of another field by its number
abbrev pub pair_of_size : Option Size → ℕ → Range
pair_of_size none n = pair_of_number n
pair_of_size (some s) n = unsigned_pair (bit_count s) 0

abbrev pub pair_by_formula : Field → Range
pair_by_formula f = pair_of_size (immediate_size f) (field_number f)
