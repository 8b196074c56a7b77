-- How many kinds may stand for a kind at once, and how many fields it may take. Assumes nothing.
use Rattle.std.specs.Prelude.{ℕ, zero, suc, ◌+◌, ◌≤◌, ◌<◌, ◌≡◌, refl, Bool, true, ◌&&◌, List, [], ◌∷◌, ◌++◌, leb, ltb, length, get_or}
use Rattle.std.proofs.Common.{arith, leb-true, ltb-true}
use Rattle.sheet_spec.specs.declared.Kind.{Kind}
use Rattle.sheet_spec.specs.declared.Kind.TheVariants as kind
use Rattle.sheet_spec.specs.Grammar.{operand_kinds, instruction_kinds, kinds_of}
use Rattle.base_facts.specs.Tests.{and-true}

-- the kinds that may stand for a kind at once
abbrev pub room : Kind → ℕ
room kind.Number = 1
room kind.Target = 1
room kind.Place = 1
room kind.Size = 1
room kind.TargetDirection = 1
room kind.RegisterOperand = 1
room kind.AddressWidth = 1
room kind.Condition = 1
room kind.BranchSize = 1
room kind.ShiftDirection = 1
room kind.Sign = 1
room kind.BitFieldOperation = 1
room kind.FieldValue = 1
room kind.TrapOperand = 1
room kind.RegisterChoice = 1
room kind.Operand = 4
room kind.Instruction = 10

-- the fields that a kind may take
abbrev pub most : Kind → ℕ
most kind.Number = 1
most kind.Target = 1
most kind.Place = 1
most kind.Size = 1
most kind.TargetDirection = 1
most kind.RegisterOperand = 2
most kind.AddressWidth = 1
most kind.Condition = 1
most kind.BranchSize = 1
most kind.ShiftDirection = 1
most kind.Sign = 1
most kind.BitFieldOperation = 1
most kind.FieldValue = 2
most kind.TrapOperand = 2
most kind.RegisterChoice = 2
most kind.Operand = 7
most kind.Instruction = 17

abbrev pub total : (Kind → ℕ) → List Kind → ℕ
total f [] = 0
total f (k ∷ ks) = f k + total f ks

pub total_append : (f : Kind → ℕ) (ks ls : List Kind) → total f (ks ++ ls) ≡ total f ks + total f ls
total_append f [] ls = omega arith
total_append f (k ∷ ks) ls = omega (arith, total_append f ks ls)

-- fields that a kind has room for
abbrev Within : Kind → List Kind → Type 0
Within k ks = (0 < room k) × (total room ks ≤ room k) × (total most ks < most k) × (length ks ≤ 7)

abbrev within : Kind → List Kind → Bool
within k ks = ltb 0 (room k) && (leb (total room ks) (room k) && (ltb (total most ks) (most k) && leb (length ks) 7))

within_true : (k : Kind) (ks : List Kind) → within k ks ≡ true → Within k ks
within_true k ks e =
    let t = and-true (ltb 0 (room k)) (leb (total room ks) (room k) && (ltb (total most ks) (most k) && leb (length ks) 7)) e in
    let u = and-true (leb (total room ks) (room k)) (ltb (total most ks) (most k) && leb (length ks) 7) t.1 in
    let v = and-true (ltb (total most ks) (most k)) (leb (length ks) 7) u.1 in
    (ltb-true 0 (room k) t.0, leb-true (total room ks) (room k) u.0, ltb-true (total most ks) (most k) v.0, leb-true (length ks) 7 v.1)

abbrev each : Kind → List (List Kind) → Bool
each k [] = within k []
each k (row ∷ rows) = within k row && each k rows

-- each row of a table, and what stands past it
each_row : (k : Kind) (rows : List (List Kind)) → each k rows ≡ true → (n : ℕ) → Within k (get_or rows n [])
each_row k [] e n = within_true k [] e
each_row k (row ∷ rows) e zero = within_true k row (and-true (within k row) (each k rows) e).0
each_row k (row ∷ rows) e (suc n) = each_row k rows (and-true (within k row) (each k rows) e).1 n

fields_within : (k : Kind) (n : ℕ) → Within k (kinds_of k n)
fields_within kind.Number n = within_true kind.Number [] refl
fields_within kind.Target n = within_true kind.Target [] refl
fields_within kind.Place n = within_true kind.Place [] refl
fields_within kind.Size n = within_true kind.Size [] refl
fields_within kind.TargetDirection n = within_true kind.TargetDirection [] refl
fields_within kind.RegisterOperand n = within_true kind.RegisterOperand (kind.Number ∷ []) refl
fields_within kind.AddressWidth n = within_true kind.AddressWidth [] refl
fields_within kind.Condition n = within_true kind.Condition [] refl
fields_within kind.BranchSize n = within_true kind.BranchSize [] refl
fields_within kind.ShiftDirection n = within_true kind.ShiftDirection [] refl
fields_within kind.Sign n = within_true kind.Sign [] refl
fields_within kind.BitFieldOperation n = within_true kind.BitFieldOperation [] refl
fields_within kind.FieldValue n = within_true kind.FieldValue (kind.Number ∷ []) refl
fields_within kind.TrapOperand n = each_row kind.TrapOperand ([] ∷ (kind.Number ∷ []) ∷ (kind.Number ∷ []) ∷ []) refl n
fields_within kind.RegisterChoice n = each_row kind.RegisterChoice ([] ∷ (kind.Number ∷ []) ∷ []) refl n
fields_within kind.Operand n = each_row kind.Operand operand_kinds refl n
fields_within kind.Instruction n = each_row kind.Instruction instruction_kinds refl n

pub fields_few : (k : Kind) (n : ℕ) → length (kinds_of k n) ≤ 7
fields_few k n = (fields_within k n).3

-- the first kind's fields put in its place
pub room_next : (k : Kind) (ks : List Kind) (n : ℕ) → total room (kinds_of k n ++ ks) ≤ total room (k ∷ ks)
room_next k ks n = rw total_append (omega (arith, (fields_within k n).1))

pub most_next : (k : Kind) (ks : List Kind) (n : ℕ) → total most (kinds_of k n ++ ks) < total most (k ∷ ks)
most_next k ks n = rw total_append (omega (arith, (fields_within k n).2))

pub most_rest : (k : Kind) (ks : List Kind) → total most ks < total most (k ∷ ks)
most_rest k ks = omega (arith, (fields_within k 0).2)

pub length_room : (ks : List Kind) → length ks ≤ total room ks
length_room [] = omega arith
length_room (k ∷ ks) = omega (arith, length_room ks, (fields_within k 0).0)
