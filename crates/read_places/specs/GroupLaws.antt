-- A group is known by its number.
use Rattle.std.specs.Prelude.{ℕ, ◌≡◌, refl, get_or}
use Rattle.std.proofs.Common.{ap, sym, ◌∙◌}
use Rattle.read_spec.specs.declared.Group.{Group}
use Rattle.read_spec.specs.declared.Group.TheVariants as group
use Rattle.read_places.specs.Groups.{groups, group_number}

pub number_group : (s : Group) → get_or groups (group_number s) group.Unused ≡ s
number_group group.Unused = refl
number_group group.ImmediateInto = refl
number_group group.StaticBit = refl
number_group group.DynamicBitMovep = refl
number_group group.MOVES = refl
number_group group.Bounds = refl
number_group group.CAS = refl
number_group group.MOVE = refl
number_group group.OneOperand = refl
number_group group.UnsizedOneIllegal = refl
number_group group.NbcdLink = refl
number_group group.PeaSwapBkpt = refl
number_group group.MovemExt = refl
number_group group.MULL = refl
number_group group.DIVL = refl
number_group group.System = refl
number_group group.LeaExtb = refl
number_group group.CHK = refl
number_group group.Quick = refl
number_group group.Conditional = refl
number_group group.Branch = refl
number_group group.MOVEQ = refl
number_group group.IntoData = refl
number_group group.ArithmeticExtended = refl
number_group group.LogicDecimal = refl
number_group group.LogicPack = refl
number_group group.LogicExchange = refl
number_group group.LogicCompare = refl
number_group group.WordIntoData = refl
number_group group.IntoAddress = refl
number_group group.ShiftRegister = refl
number_group group.ShiftMemory = refl
number_group group.BitField = refl
number_group group.LineA = refl
number_group group.LineF = refl

pub same_group : (s t : Group) → group_number s ≡ group_number t → s ≡ t
same_group s t e = sym (number_group s) ∙ ap (λ (n : ℕ). get_or groups n group.Unused) e ∙ number_group t
