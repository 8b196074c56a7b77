-- The condition of a four-bit code, and that this inverts the code (the manual, table 3-19, "Conditional Tests").
use Rattle.std.specs.Prelude.{ℕ, zero, suc, ◌+◌, ◌%◌, ◌<◌, ◌≡◌, refl, Bool, true, ◌&&◌, List, [], ◌∷◌, T, eqb, get_or, length}
use Rattle.std.proofs.Common.{sym, ap, ◌∙◌, eqb→eq, arith}
use Rattle.isa.specs.declared.Condition.{Condition}
use Rattle.isa.specs.declared.Condition.TheVariants.{True, False, High, LowOrSame, CarryClear, CarrySet, NotEqual, Equal, OverflowClear, OverflowSet, Plus, Minus, GreaterThanOrEqual, LessThan, GreaterThan, LessThanOrEqual}
use Rattle.isa_spec.specs.Code.{condition_code}
use Rattle.isa_spec.specs.Condition.{condition_of, conditions}
use Rattle.base_facts.specs.Tests.{T_and}

pub of_code : (c : Condition) → condition_of (condition_code c) ≡ c
of_code True = refl
of_code False = refl
of_code High = refl
of_code LowOrSame = refl
of_code CarryClear = refl
of_code CarrySet = refl
of_code NotEqual = refl
of_code Equal = refl
of_code OverflowClear = refl
of_code OverflowSet = refl
of_code Plus = refl
of_code Minus = refl
of_code GreaterThanOrEqual = refl
of_code LessThan = refl
of_code GreaterThan = refl
of_code LessThanOrEqual = refl

-- a list of conditions whose codes count up from k
abbrev counts : ℕ → List Condition → Bool
counts k [] = true
counts k (c ∷ cs) = eqb (condition_code c) k && counts (suc k) cs

code_at : (cs : List Condition) (k : ℕ) → T (counts k cs) → (j : ℕ) → j < length cs → condition_code (get_or cs j True) ≡ k + j
code_at [] k t j h = absurd (omega arith)
code_at (c ∷ cs) k t zero h = eqb→eq (condition_code c) k (T_and (eqb (condition_code c) k) (counts (suc k) cs) t).0 ∙ omega arith
code_at (c ∷ cs) k t (suc j) h =
    code_at cs (suc k) (T_and (eqb (condition_code c) k) (counts (suc k) cs) t).1 j (omega arith) ∙ omega arith

pub code_of : (k : ℕ) → condition_code (condition_of k) ≡ k % 16
code_of k = code_at conditions 0 tt (k % 16) (omega arith) ∙ omega arith

pub condition_lt : (c : Condition) → condition_code c < 16
condition_lt c =
    let e : condition_code c ≡ condition_code c % 16 = sym (ap condition_code (of_code c)) ∙ code_of (condition_code c) in
    omega (arith, e)
