-- The conditions by their codes.
use Rattle.std.specs.Prelude.{ℕ, ◌%◌, List, [], ◌∷◌, get_or}
use Rattle.isa.specs.declared.Condition.{Condition}
use Rattle.isa.specs.declared.Condition.TheVariants.{True, False, High, LowOrSame, CarryClear, CarrySet, NotEqual, Equal, OverflowClear, OverflowSet, Plus, Minus, GreaterThanOrEqual, LessThan, GreaterThan, LessThanOrEqual}

-- in the order of their codes
abbrev pub conditions : List Condition
conditions =
    True ∷ False ∷ High ∷ LowOrSame ∷ CarryClear ∷ CarrySet ∷ NotEqual ∷ Equal ∷ OverflowClear ∷ OverflowSet ∷ Plus ∷ Minus
    ∷ GreaterThanOrEqual ∷ LessThan ∷ GreaterThan ∷ LessThanOrEqual ∷ []

abbrev pub condition_of : ℕ → Condition
condition_of k = get_or conditions (k % 16) True
