-- Laws of the tables of names. Assumes nothing.
use Rattle.std.proofs.Common.{◌≡◌, sym, ap, ℕ, zero, suc, ◌≤◌, ◌<◌, Bool, true, ◌&&◌, List, [], ◌∷◌, map, length, get_or, refl, ◌∙◌, arith, nat_le, nat_lt, ltb-true}
use denote.Ref.{Bor}
use Rattle.base_facts.specs.Tests.{and-true, leb_is}
use Rattle.sheet_spec.specs.declared.Kind.{Kind}
use Rattle.sheet_spec.specs.declared.Kind.TheVariants as kind
use Rattle.sheet_spec.specs.Names.{bytes, names_of}
use Rattle.unsheet_names.specs.Texts.{texts}

-- an entry of a table, and nothing past it
pub named : (ns : List (Bor (List ℕ))) (k : ℕ) (t : Bor (List ℕ)) → k < length ns → t ≡ get_or ns k t → get_or (texts ns) k [] ≡ t.now
named [] k t h e = absurd (omega arith)
named (n ∷ ns) zero t h e = ap (λ (x : Bor (List ℕ)). x.now) (sym e)
named (n ∷ ns) (suc k) t h e = named ns k t (omega arith) e

pub unnamed : (ns : List (Bor (List ℕ))) (k : ℕ) → length ns ≤ k → get_or (texts ns) k [] ≡ []
unnamed [] zero h = refl
unnamed [] (suc k) h = refl
unnamed (n ∷ ns) zero h = absurd (omega arith)
unnamed (n ∷ ns) (suc k) h = unnamed ns k (omega arith)

-- no name is longer than 20 bytes: computed
abbrev short : List (List ℕ) → Bool
short [] = true
short (n ∷ ns) = nat_le (length n) 20 && short ns

short_at : (ns : List (List ℕ)) (k : ℕ) → short ns ≡ true → length (get_or ns k []) ≤ 20
short_at [] zero e = omega arith
short_at [] (suc k) e = omega arith
short_at (n ∷ ns) zero e = leb_is (length n) 20 (and-true (nat_le (length n) 20) (short ns) e).0
short_at (n ∷ ns) (suc k) e = short_at ns k (and-true (nat_le (length n) 20) (short ns) e).1

names_short : (k : Kind) → short (map bytes (names_of k)) ≡ true
names_short kind.Number = refl
names_short kind.Target = refl
names_short kind.Place = refl
names_short kind.Size = refl
names_short kind.TargetDirection = refl
names_short kind.RegisterOperand = refl
names_short kind.AddressWidth = refl
names_short kind.Condition = refl
names_short kind.BranchSize = refl
names_short kind.ShiftDirection = refl
names_short kind.Sign = refl
names_short kind.BitFieldOperation = refl
names_short kind.FieldValue = refl
names_short kind.TrapOperand = refl
names_short kind.RegisterChoice = refl
names_short kind.Operand = refl
names_short kind.Instruction = refl

pub name_short : (k : Kind) (place : ℕ) → length (get_or (map bytes (names_of k)) place []) ≤ 20
name_short k place = short_at (map bytes (names_of k)) place (names_short k)

-- a name found in the table of a kind
pub name_is : (k : Kind) (place : ℕ) (ns : List (Bor (List ℕ))) → texts ns ≡ map bytes (names_of k) → (t : Bor (List ℕ)) → true ≡ nat_lt place (length ns) → t ≡ get_or ns place t
    → (name : List ℕ) → name ≡ t.now → get_or (map bytes (names_of k)) place [] ≡ name
name_is k place ns e t h g name f = ap (λ (l : List (List ℕ)). get_or l place []) (sym e) ∙ named ns place t (ltb-true place (length ns) (sym h)) g ∙ sym f
