-- The next kind taken off, and its fields put in its place, in one number.
use Rattle.std.specs.Prelude.{ℕ, zero, suc, ◌+◌, ◌*◌, ◌/◌, ◌%◌, cond, List, [], ◌∷◌, eqb}
use Rattle.sheet_spec.specs.declared.Kind.{Kind}
use Rattle.sheet_spec.specs.Grammar.{kinds_of}
use Rattle.sheet_kinds.specs.Packed.{code_of, kind_at}

-- the codes of ks below a number
abbrev pub below : List Kind → ℕ → ℕ
below [] n = n
below (k ∷ ks) n = code_of k + 32 * below ks n

abbrev pub kinds_after : ℕ → ℕ → ℕ
kinds_after kinds place = below (kinds_of (kind_at (kinds % 32)) place) (kinds / 32)

-- the power of 32 above the codes of ks
abbrev pub above : List Kind → ℕ
above [] = 1
above (k ∷ ks) = 32 * above ks

-- the power of 32 above a number of at most so many digits to the base 32
abbrev pub power_above : ℕ → ℕ → ℕ
power_above zero n = 1
power_above (suc digits) n = cond (eqb n 0) 1 (32 * power_above digits (n / 32))
