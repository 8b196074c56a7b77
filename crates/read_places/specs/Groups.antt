-- The groups by number, as the reader's table has them.
use Rattle.std.specs.Prelude.{ℕ, ◌/◌, ◌%◌, List, [], ◌∷◌}
use Rattle.read_spec.specs.declared.Group.{Group}
use Rattle.read_spec.specs.Map.{group_at}
use Rattle.read_spec.specs.declared.Group.TheVariants as group

-- by the ten bits
unfoldable pub group_of : ℕ → Group
group_of high = group_at (high / 64) (high / 8 % 8) (high % 8)

-- the groups by number, as the reader's table has them
abbrev pub groups : List Group
groups =
    group.Unused ∷ group.ImmediateInto ∷ group.StaticBit ∷ group.DynamicBitMovep ∷ group.MOVES ∷ group.Bounds ∷ group.CAS ∷ group.MOVE
    ∷ group.OneOperand ∷ group.UnsizedOneIllegal ∷ group.NbcdLink ∷ group.PeaSwapBkpt ∷ group.MovemExt ∷ group.MULL ∷ group.DIVL ∷ group.System ∷ group.LeaExtb
    ∷ group.CHK ∷ group.Quick ∷ group.Conditional ∷ group.Branch ∷ group.MOVEQ ∷ group.IntoData ∷ group.ArithmeticExtended ∷ group.LogicDecimal
    ∷ group.LogicPack ∷ group.LogicExchange ∷ group.LogicCompare ∷ group.WordIntoData ∷ group.IntoAddress ∷ group.ShiftRegister ∷ group.ShiftMemory
    ∷ group.BitField ∷ group.LineA ∷ group.LineF ∷ []

abbrev pub group_number : Group → ℕ
group_number group.Unused = 0
group_number group.ImmediateInto = 1
group_number group.StaticBit = 2
group_number group.DynamicBitMovep = 3
group_number group.MOVES = 4
group_number group.Bounds = 5
group_number group.CAS = 6
group_number group.MOVE = 7
group_number group.OneOperand = 8
group_number group.UnsizedOneIllegal = 9
group_number group.NbcdLink = 10
group_number group.PeaSwapBkpt = 11
group_number group.MovemExt = 12
group_number group.MULL = 13
group_number group.DIVL = 14
group_number group.System = 15
group_number group.LeaExtb = 16
group_number group.CHK = 17
group_number group.Quick = 18
group_number group.Conditional = 19
group_number group.Branch = 20
group_number group.MOVEQ = 21
group_number group.IntoData = 22
group_number group.ArithmeticExtended = 23
group_number group.LogicDecimal = 24
group_number group.LogicPack = 25
group_number group.LogicExchange = 26
group_number group.LogicCompare = 27
group_number group.WordIntoData = 28
group_number group.IntoAddress = 29
group_number group.ShiftRegister = 30
group_number group.ShiftMemory = 31
group_number group.BitField = 32
group_number group.LineA = 33
group_number group.LineF = 34

-- the number of the group that ten bits name
unfoldable pub group_number_of : ℕ → ℕ
group_number_of high = group_number (group_of high)
