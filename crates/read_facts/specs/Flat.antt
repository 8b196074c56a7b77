-- What an operation word and what follows it form: an instruction or nothing.
use Rattle.std.specs.Prelude.{ℕ, ◌-◌, ◌/◌, ◌≡◌, refl, Bool, true, false, cond, eqb}
use Rattle.isa.specs.declared.Size.{Size}
use Rattle.isa.specs.declared.Operand.{Operand}
use Rattle.isa.specs.declared.Operand.TheVariants.{Immediate, Register, Indirect, PostIndirect, PreIndirect, IndirectDisplacement, IndirectIndex, PcDisplacement, PcIndex, Extended, Absolute}
use Rattle.isa.specs.declared.Instruction.{Instruction}
use Rattle.read_spec.specs.declared.Group.{Group}
use Rattle.read_spec.specs.declared.Group.TheVariants as group
use Rattle.read_spec.specs.Tree.{Tree, ret, fail, more}
use Rattle.read_spec.specs.Operation.{size_at}
use Rattle.read_spec.specs.Decoded.{decoded, movep_decoded, cmpm_decoded, cmpm_to}

-- ---- what is formed is an instruction or nothing: no word more is looked at
abbrev pub Flat : Tree Instruction → Type 0
Flat (ret i) = Unit {0}
Flat fail = Unit {0}
Flat (more k) = ⊥

abbrev pub Live : Tree Instruction → Type 0
Live (ret i) = Unit {0}
Live fail = ⊥
Live (more k) = ⊥

live_flat : (t : Tree Instruction) → Live t → Flat t
live_flat (ret i) l = tt
live_flat fail l = tt
live_flat (more k) l = l

movep_flat : (x opmode : ℕ) (o : Operand) → Flat (movep_decoded x opmode o)
movep_flat x opmode (Immediate v) = tt
movep_flat x opmode (Register r) = tt
movep_flat x opmode (Indirect n) = tt
movep_flat x opmode (PostIndirect n) = tt
movep_flat x opmode (PreIndirect n) = tt
movep_flat x opmode (IndirectDisplacement z base) = tt
movep_flat x opmode (IndirectIndex base z i) = tt
movep_flat x opmode (PcDisplacement t) = tt
movep_flat x opmode (PcIndex t i) = tt
movep_flat x opmode (Extended base w z outer) = tt
movep_flat x opmode (Absolute a width) = tt

cmpm_to_flat : (s : Size) (y : ℕ) (d : Operand) → Flat (cmpm_to s y d)
cmpm_to_flat s y (Immediate v) = tt
cmpm_to_flat s y (Register r) = tt
cmpm_to_flat s y (Indirect n) = tt
cmpm_to_flat s y (PostIndirect n) = tt
cmpm_to_flat s y (PreIndirect n) = tt
cmpm_to_flat s y (IndirectDisplacement z base) = tt
cmpm_to_flat s y (IndirectIndex base z i) = tt
cmpm_to_flat s y (PcDisplacement t) = tt
cmpm_to_flat s y (PcIndex t i) = tt
cmpm_to_flat s y (Extended base w z outer) = tt
cmpm_to_flat s y (Absolute a width) = tt

cmpm_flat : (s : Size) (o d : Operand) → Flat (cmpm_decoded s o d)
cmpm_flat s (Immediate v) d = tt
cmpm_flat s (Register r) d = tt
cmpm_flat s (Indirect n) d = tt
cmpm_flat s (PostIndirect n) d = cmpm_to_flat s n d
cmpm_flat s (PreIndirect n) d = tt
cmpm_flat s (IndirectDisplacement z base) d = tt
cmpm_flat s (IndirectIndex base z i) d = tt
cmpm_flat s (PcDisplacement t) d = tt
cmpm_flat s (PcIndex t i) d = tt
cmpm_flat s (Extended base w z outer) d = tt
cmpm_flat s (Absolute a width) d = tt

-- ---- what every group forms: an instruction, but where the layout of MOVEP or CMPM is not followed, or there is none
pub data Decoding (s : Group) : Type 0 where
  always : ((a line x opmode ea v : ℕ) (o d : Operand) → Live (decoded a s line x opmode ea v o d)) → Decoding s
  unused : s ≡ group.Unused → Decoding s
  dynamic : s ≡ group.DynamicBitMovep → Decoding s
  compare : s ≡ group.LogicCompare → Decoding s

pub decoding : (s : Group) → Decoding s
decoding group.Unused = unused refl
decoding group.ImmediateInto = always (λ a line x opmode ea v o d. tt)
decoding group.StaticBit = always (λ a line x opmode ea v o d. tt)
decoding group.DynamicBitMovep = dynamic refl
decoding group.MOVES = always (λ a line x opmode ea v o d. tt)
decoding group.Bounds = always (λ a line x opmode ea v o d. tt)
decoding group.CAS = always (λ a line x opmode ea v o d. tt)
decoding group.MOVE = always (λ a line x opmode ea v o d. tt)
decoding group.OneOperand = always (λ a line x opmode ea v o d. tt)
decoding group.UnsizedOneIllegal = always (λ a line x opmode ea v o d. tt)
decoding group.NbcdLink = always (λ a line x opmode ea v o d. tt)
decoding group.PeaSwapBkpt = always (λ a line x opmode ea v o d. tt)
decoding group.MovemExt = always (λ a line x opmode ea v o d. tt)
decoding group.MULL = always (λ a line x opmode ea v o d. tt)
decoding group.DIVL = always (λ a line x opmode ea v o d. tt)
decoding group.System = always (λ a line x opmode ea v o d. tt)
decoding group.LeaExtb = always (λ a line x opmode ea v o d. tt)
decoding group.CHK = always (λ a line x opmode ea v o d. tt)
decoding group.Quick = always (λ a line x opmode ea v o d. tt)
decoding group.Conditional = always (λ a line x opmode ea v o d. tt)
decoding group.Branch = always (λ a line x opmode ea v o d. tt)
decoding group.MOVEQ = always (λ a line x opmode ea v o d. tt)
decoding group.IntoData = always (λ a line x opmode ea v o d. tt)
decoding group.ArithmeticExtended = always (λ a line x opmode ea v o d. tt)
decoding group.LogicDecimal = always (λ a line x opmode ea v o d. tt)
decoding group.LogicPack = always (λ a line x opmode ea v o d. tt)
decoding group.LogicExchange = always (λ a line x opmode ea v o d. tt)
decoding group.LogicCompare = compare refl
decoding group.WordIntoData = always (λ a line x opmode ea v o d. tt)
decoding group.IntoAddress = always (λ a line x opmode ea v o d. tt)
decoding group.ShiftRegister = always (λ a line x opmode ea v o d. tt)
decoding group.ShiftMemory = always (λ a line x opmode ea v o d. tt)
decoding group.BitField = always (λ a line x opmode ea v o d. tt)
decoding group.LineA = always (λ a line x opmode ea v o d. tt)
decoding group.LineF = always (λ a line x opmode ea v o d. tt)

flat_cond : (b : Bool) (t u : Tree Instruction) → Flat t → Flat u → Flat (cond b t u)
flat_cond true t u p q = p
flat_cond false t u p q = q

pub decoded_flat : (a : ℕ) (s : Group) (line x opmode ea v : ℕ) (o d : Operand) → Flat (decoded a s line x opmode ea v o d)
decoded_flat a s line x opmode ea v o d = go (decoding s)
  where
    go : Decoding s → Flat (decoded a s line x opmode ea v o d)
    go (always l) = live_flat (decoded a s line x opmode ea v o d) (l a line x opmode ea v o d)
    go (unused e) = rw e tt
    go (dynamic e) = rw e (flat_cond (eqb (ea / 8) 1) (movep_decoded x opmode o) _ (movep_flat x opmode o) tt)
    go (compare e) = rw e (flat_cond (eqb (ea / 8) 1) (cmpm_decoded (size_at (opmode - 4)) o d) _ (cmpm_flat (size_at (opmode - 4)) o d) tt)
