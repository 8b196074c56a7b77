-- The operation code map (the manual, section 8, table 8-1 and the formats that follow it): which group the upper ten bits of an
-- operation word name. Bits 15 to 12 are its line, bits 11 to 9 mostly a register, bits 8 to 6 the opmode.
use Rattle.std.specs.Prelude.{ℕ, Bool, ◌&&◌, cond, List, [], ◌∷◌, eqb, leb}
use Rattle.read_spec.specs.declared.Group.{Group}
use Rattle.read_spec.specs.declared.Group.TheVariants as group

-- a line, from where to where bits 11 to 9 go, and from where to where bits 8 to 6
pub data Row : Type 0 where
  row : Group → ℕ → ℕ → ℕ → ℕ → ℕ → Row

unfoldable pub map : List Row
map =
    -- 0000: bit manipulation, MOVEP, immediate
    row group.ImmediateInto 0 0 3 0 2
    ∷ row group.ImmediateInto 0 5 6 0 2
    ∷ row group.StaticBit 0 4 4 0 3
    ∷ row group.MOVES 0 7 7 0 2
    ∷ row group.Bounds 0 0 2 3 3
    ∷ row group.CAS 0 5 7 3 3
    ∷ row group.DynamicBitMovep 0 0 7 4 7
    -- 0001, 0010, 0011: MOVE byte, long, word
    ∷ row group.MOVE 1 0 7 0 7
    ∷ row group.MOVE 2 0 7 0 7
    ∷ row group.MOVE 3 0 7 0 7
    -- 0100: miscellaneous
    ∷ row group.OneOperand 4 0 3 0 2
    ∷ row group.OneOperand 4 5 5 0 2
    ∷ row group.UnsizedOneIllegal 4 0 3 3 3
    ∷ row group.UnsizedOneIllegal 4 5 5 3 3
    ∷ row group.UnsizedOneIllegal 4 7 7 2 3
    ∷ row group.NbcdLink 4 4 4 0 0
    ∷ row group.PeaSwapBkpt 4 4 4 1 1
    ∷ row group.MovemExt 4 4 4 2 3
    ∷ row group.MovemExt 4 6 6 2 3
    ∷ row group.MULL 4 6 6 0 0
    ∷ row group.DIVL 4 6 6 1 1
    ∷ row group.System 4 7 7 1 1
    ∷ row group.CHK 4 0 7 4 4
    ∷ row group.CHK 4 0 7 6 6
    ∷ row group.LeaExtb 4 0 7 7 7
    -- 0101: ADDQ, SUBQ, Scc, DBcc, TRAPcc
    ∷ row group.Quick 5 0 7 0 2
    ∷ row group.Quick 5 0 7 4 6
    ∷ row group.Conditional 5 0 7 3 3
    ∷ row group.Conditional 5 0 7 7 7
    -- 0110: Bcc, BSR, BRA; 0111: MOVEQ
    ∷ row group.Branch 6 0 7 0 7
    ∷ row group.MOVEQ 7 0 7 0 3
    -- 1000: OR, DIV, SBCD, PACK, UNPK
    ∷ row group.IntoData 8 0 7 0 2
    ∷ row group.WordIntoData 8 0 7 3 3
    ∷ row group.LogicDecimal 8 0 7 4 4
    ∷ row group.LogicPack 8 0 7 5 6
    ∷ row group.WordIntoData 8 0 7 7 7
    -- 1001: SUB, SUBX, SUBA
    ∷ row group.IntoData 9 0 7 0 2
    ∷ row group.IntoAddress 9 0 7 3 3
    ∷ row group.ArithmeticExtended 9 0 7 4 6
    ∷ row group.IntoAddress 9 0 7 7 7
    -- 1010: unassigned
    ∷ row group.LineA 10 0 7 0 7
    -- 1011: CMP, EOR, CMPM, CMPA
    ∷ row group.IntoData 11 0 7 0 2
    ∷ row group.IntoAddress 11 0 7 3 3
    ∷ row group.LogicCompare 11 0 7 4 6
    ∷ row group.IntoAddress 11 0 7 7 7
    -- 1100: AND, MUL, ABCD, EXG
    ∷ row group.IntoData 12 0 7 0 2
    ∷ row group.WordIntoData 12 0 7 3 3
    ∷ row group.LogicDecimal 12 0 7 4 4
    ∷ row group.LogicExchange 12 0 7 5 6
    ∷ row group.WordIntoData 12 0 7 7 7
    -- 1101: ADD, ADDX, ADDA
    ∷ row group.IntoData 13 0 7 0 2
    ∷ row group.IntoAddress 13 0 7 3 3
    ∷ row group.ArithmeticExtended 13 0 7 4 6
    ∷ row group.IntoAddress 13 0 7 7 7
    -- 1110: shift, rotate, bit field
    ∷ row group.ShiftRegister 14 0 7 0 2
    ∷ row group.ShiftRegister 14 0 7 4 6
    ∷ row group.ShiftMemory 14 0 3 3 3
    ∷ row group.ShiftMemory 14 0 3 7 7
    ∷ row group.BitField 14 4 7 3 3
    ∷ row group.BitField 14 4 7 7 7
    -- 1111: coprocessor
    ∷ row group.LineF 15 0 7 0 7
    ∷ []

abbrev pub in_row : Row → ℕ → ℕ → ℕ → Bool
in_row (row s l x y o p) line register opmode = eqb line l && leb x register && leb register y && leb o opmode && leb opmode p

abbrev pub group_in : Row → Group
group_in (row s l x y o p) = s

abbrev pub first_of : List Row → ℕ → ℕ → ℕ → Group
first_of [] line register opmode = group.Unused
first_of (r ∷ rs) line register opmode = cond (in_row r line register opmode) (group_in r) (first_of rs line register opmode)

-- by the three fields
unfoldable pub group_at : ℕ → ℕ → ℕ → Group
group_at line register opmode = first_of map line register opmode
