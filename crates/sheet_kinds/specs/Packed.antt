-- The kinds to come in a line as one number: five bits each, the next in the lowest; 0 where there are none.
use Rattle.std.specs.Prelude.{ℕ, ◌+◌, ◌*◌, List, [], ◌∷◌, get_or}
use Rattle.sheet_spec.specs.declared.Kind.{Kind}
use Rattle.sheet_spec.specs.declared.Kind.TheVariants as kind

abbrev pub code_of : Kind → ℕ
code_of kind.Number = 1
code_of kind.Target = 2
code_of kind.Place = 3
code_of kind.Size = 4
code_of kind.TargetDirection = 5
code_of kind.RegisterOperand = 6
code_of kind.AddressWidth = 7
code_of kind.Condition = 8
code_of kind.BranchSize = 9
code_of kind.ShiftDirection = 10
code_of kind.Sign = 11
code_of kind.BitFieldOperation = 12
code_of kind.FieldValue = 13
code_of kind.TrapOperand = 14
code_of kind.RegisterChoice = 15
code_of kind.Operand = 16
code_of kind.Instruction = 17

abbrev pub packed : List Kind → ℕ
packed [] = 0
packed (k ∷ ks) = code_of k + 32 * packed ks

-- by their codes; none has the code 0
abbrev pub kinds : List Kind
kinds =
    kind.Number
    ∷ kind.Number
    ∷ kind.Target
    ∷ kind.Place
    ∷ kind.Size
    ∷ kind.TargetDirection
    ∷ kind.RegisterOperand
    ∷ kind.AddressWidth
    ∷ kind.Condition
    ∷ kind.BranchSize
    ∷ kind.ShiftDirection
    ∷ kind.Sign
    ∷ kind.BitFieldOperation
    ∷ kind.FieldValue
    ∷ kind.TrapOperand
    ∷ kind.RegisterChoice
    ∷ kind.Operand
    ∷ kind.Instruction
    ∷ []

abbrev pub kind_at : ℕ → Kind
kind_at n = get_or kinds n kind.Number
