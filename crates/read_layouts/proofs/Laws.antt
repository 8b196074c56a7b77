-- Laws of the tables. Assumes nothing.
use Prim.Native.Nat.{ℕ, zero, suc, ◌+◌, ◌<◌}
use mathlib.Core.Path.{◌≡◌, refl, sym, ap, subst, ◌∙◌}
use mathlib.Core.Bool.{Bool, true, ◌&&◌}
use mathlib.Core.Logic.{inl, inr}
use mathlib.Core.List.{List, [], ◌∷◌}
use native.Mathlib.Omega.{arith}
use lib.Dec.{T, eqb, ltb, eqb→eq}
use lib.ListN.{length, get_or}
use types.Run.{OneOf}
use denote.Enum.Declared.{tag_of}
use Rattle.base_facts.specs.Tests.{T_and}
use Rattle.read_spec.specs.contracts.Group.{the_type}
use Rattle.read_spec.specs.declared.Group.{Group}
use Rattle.read_spec.specs.declared.Group.TheVariants as group
use Rattle.read_spec.specs.declared.Layout.{Layout}
use Rattle.read_places.specs.Groups.{groups, group_number}
use Rattle.read_places.specs.GroupLaws.{number_group}
use Rattle.read_spec.specs.Layout.{bare}
use Rattle.read_spec.specs.Layouts.{layout_of}

-- a test of each entry against a rule, counted from k
abbrev pub follows : (ℕ → ℕ) → ℕ → List ℕ → Bool
follows f k [] = true
follows f k (x ∷ xs) = eqb x (f k) && follows f (suc k) xs

from : (f : ℕ → ℕ) (xs : List ℕ) (k : ℕ) → T (follows f k xs) → (i : ℕ) → i < length xs → get_or xs i 0 ≡ f (k + i)
from f [] k t i h = absurd (omega arith)
from f (x ∷ xs) k t zero h = eqb→eq x (f k) (T_and (eqb x (f k)) (follows f (suc k) xs) t).0 ∙ ap f (omega arith)
from f (x ∷ xs) k t (suc i) h = from f xs (suc k) (T_and (eqb x (f k)) (follows f (suc k) xs) t).1 i (omega arith) ∙ ap f (omega arith)

-- a table that passes it follows the rule
pub by_rule : (f : ℕ → ℕ) (xs : List ℕ) (i : ℕ) → T (follows f 0 xs) → i < length xs → get_or xs i 0 ≡ f i
by_rule f xs i t h = from f xs 0 t i h ∙ ap f (omega arith)

-- the numbers of the groups, which are also the variants' tags
pub numbered : (s : Group) → T (ltb (group_number s) 35) × (tag_of the_type s ≡ group_number s)
numbered group.Unused = (tt, refl)
numbered group.ImmediateInto = (tt, refl)
numbered group.StaticBit = (tt, refl)
numbered group.DynamicBitMovep = (tt, refl)
numbered group.MOVES = (tt, refl)
numbered group.Bounds = (tt, refl)
numbered group.CAS = (tt, refl)
numbered group.MOVE = (tt, refl)
numbered group.OneOperand = (tt, refl)
numbered group.UnsizedOneIllegal = (tt, refl)
numbered group.NbcdLink = (tt, refl)
numbered group.PeaSwapBkpt = (tt, refl)
numbered group.MovemExt = (tt, refl)
numbered group.MULL = (tt, refl)
numbered group.DIVL = (tt, refl)
numbered group.System = (tt, refl)
numbered group.LeaExtb = (tt, refl)
numbered group.CHK = (tt, refl)
numbered group.Quick = (tt, refl)
numbered group.Conditional = (tt, refl)
numbered group.Branch = (tt, refl)
numbered group.MOVEQ = (tt, refl)
numbered group.IntoData = (tt, refl)
numbered group.ArithmeticExtended = (tt, refl)
numbered group.LogicDecimal = (tt, refl)
numbered group.LogicPack = (tt, refl)
numbered group.LogicExchange = (tt, refl)
numbered group.LogicCompare = (tt, refl)
numbered group.WordIntoData = (tt, refl)
numbered group.IntoAddress = (tt, refl)
numbered group.ShiftRegister = (tt, refl)
numbered group.ShiftMemory = (tt, refl)
numbered group.BitField = (tt, refl)
numbered group.LineA = (tt, refl)
numbered group.LineF = (tt, refl)

-- MOVEQ, ShiftRegister, LineA and LineF
abbrev pub bare_tags : List ℕ
bare_tags = 21 ∷ 30 ∷ 33 ∷ 34 ∷ []

module _ (line x opmode ea : ℕ) where
  abbrev at_number : ℕ → Layout
  at_number n = layout_of (get_or groups n group.Unused) line x opmode ea

  bare-number : (n : ℕ) → OneOf bare_tags n → at_number n ≡ bare
  bare-number n (inl e) = ap at_number e
  bare-number n (inr (inl e)) = ap at_number e
  bare-number n (inr (inr (inl e))) = ap at_number e
  bare-number n (inr (inr (inr e))) = ap at_number e

  pub bare_group : (s : Group) → OneOf bare_tags (tag_of the_type s) → bare ≡ layout_of s line x opmode ea
  bare_group s k =
      sym (bare-number (group_number s) (subst (OneOf bare_tags) (numbered s).1 k)) ∙ ap (λ (t : Group). layout_of t line x opmode ea) (number_group s)
