-- What the last arm of a match knows: that the value is one of the variants that the arms before leave.
use mathlib.Core.Path.{◌≡◌, refl}
use mathlib.Core.Bool.{true}
use mathlib.Core.List.{List, [], ◌∷◌}
use Prim.Native.Nat.{ℕ}
use types.Run.{OneOf, miss}
use denote.Enum.Declared.{tag_of}
use Rattle.isa.specs.contracts.Operand as operand
use Rattle.isa.specs.contracts.Instruction as instruction
use Rattle.isa.specs.declared.Operand.{Operand}
use Rattle.isa.specs.declared.Operand.TheVariants.{Immediate, Register, Indirect, PostIndirect, PreIndirect, IndirectDisplacement, IndirectIndex, PcDisplacement, PcIndex, Extended, Absolute}
use Rattle.isa.specs.declared.Instruction.{Instruction}
use Rattle.isa.specs.declared.Instruction.TheVariants.{IntoRegister, MOVEM, Transfer, Pair, Quick, MOVEQ, ImmediateInto, WordIntoData, SWAP, EXG, UnsizedIntoRegister, UnsizedOne, UnsizedPair, EXT, OneOperand, Bcc, Scc, DBcc, Branch, Link, UNLK, Shift, Vector, Status, ConditionCode, MOVEUSP, Raw, NoOperand, RTD, MOVEC, TRAPcc, MULL, Pack, CAS, CAS2, BF, DIVL}
use Rattle.m68000_spec.specs.Of68000.{operand_of_68000, of68000}

-- every variant of Operand but Extended
abbrev not_extended : List ℕ
not_extended = 0 ∷ 1 ∷ 2 ∷ 3 ∷ 4 ∷ 5 ∷ 6 ∷ 7 ∷ 8 ∷ 10 ∷ []

pub not_extended_lem : (o : Operand) → OneOf not_extended (tag_of operand.the_type o) → true ≡ operand_of_68000 o
not_extended_lem (Immediate v) k = refl
not_extended_lem (Register r) k = refl
not_extended_lem (Indirect n) k = refl
not_extended_lem (PostIndirect n) k = refl
not_extended_lem (PreIndirect n) k = refl
not_extended_lem (IndirectDisplacement z base) k = refl
not_extended_lem (IndirectIndex base z x) k = refl
not_extended_lem (PcDisplacement t) k = refl
not_extended_lem (PcIndex t x) k = refl
not_extended_lem (Extended base w z outer) k = absurd (miss not_extended 9 tt k)
not_extended_lem (Absolute a width) k = refl

-- the instructions that are of the MC68000 whatever they hold
abbrev always : List ℕ
always = 5 ∷ 8 ∷ 9 ∷ 17 ∷ 20 ∷ 23 ∷ 24 ∷ 25 ∷ 26 ∷ 27 ∷ []

pub always_of : (i : Instruction) → OneOf always (tag_of instruction.the_type i) → true ≡ of68000 i
unfolding of68000
always_of (IntoRegister op o r s) k = absurd (miss always 0 tt k)
always_of (MOVEM direction s mask o) k = absurd (miss always 1 tt k)
always_of (Transfer op direction s r o) k = absurd (miss always 2 tt k)
always_of (Pair op o d s) k = absurd (miss always 3 tt k)
always_of (Quick op n o s) k = absurd (miss always 4 tt k)
always_of (MOVEQ v r) k = refl
always_of (ImmediateInto op v o s) k = absurd (miss always 6 tt k)
always_of (WordIntoData op o r sign) k = absurd (miss always 7 tt k)
always_of (SWAP r) k = refl
always_of (EXG x y) k = refl
always_of (UnsizedIntoRegister op o r) k = absurd (miss always 10 tt k)
always_of (UnsizedOne op o) k = absurd (miss always 11 tt k)
always_of (UnsizedPair op o d) k = absurd (miss always 12 tt k)
always_of (EXT r from to) k = absurd (miss always 13 tt k)
always_of (OneOperand op o s) k = absurd (miss always 14 tt k)
always_of (Bcc t condition s) k = absurd (miss always 15 tt k)
always_of (Scc o condition) k = absurd (miss always 16 tt k)
always_of (DBcc r t condition) k = refl
always_of (Branch op t s) k = absurd (miss always 18 tt k)
always_of (Link op r d) k = absurd (miss always 19 tt k)
always_of (UNLK r) k = refl
always_of (Shift op count o direction s) k = absurd (miss always 21 tt k)
always_of (Vector op v) k = absurd (miss always 22 tt k)
always_of (Status op v) k = refl
always_of (ConditionCode op v) k = refl
always_of (MOVEUSP to r) k = refl
always_of (Raw op w) k = refl
always_of (NoOperand op) k = refl
always_of (RTD d) k = absurd (miss always 28 tt k)
always_of (MOVEC to control r) k = absurd (miss always 29 tt k)
always_of (TRAPcc condition x) k = absurd (miss always 30 tt k)
always_of (MULL o low high sign) k = absurd (miss always 31 tt k)
always_of (Pack op o d adjustment) k = absurd (miss always 32 tt k)
always_of (CAS compare update o s) k = absurd (miss always 33 tt k)
always_of (CAS2 compare1 compare2 update1 update2 pointer1 pointer2 s) k = absurd (miss always 34 tt k)
always_of (BF op o f r) k = absurd (miss always 35 tt k)
always_of (DIVL o quotient remainder wide sign) k = absurd (miss always 36 tt k)
