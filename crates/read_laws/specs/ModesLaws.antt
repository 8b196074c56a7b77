-- The reader's sets of modes are the encoder's: of every operation word, by one computed test.
use Rattle.std.specs.Prelude.{ℕ, ◌+◌, ◌*◌, ◌-◌, ◌/◌, ◌%◌, ◌<◌, ◌≡◌, refl, List, Bool, false, not, ◌&&◌, ◌||◌, cond, eqb, ltb, leb}
use Rattle.isa.specs.declared.Size.{Size}
use Rattle.isa.specs.declared.UnsizedOneOperation.{UnsizedOneOperation}
use Rattle.isa.specs.declared.UnsizedOneOperation.TheVariants.{PEA, NBCD, JSR, JMP, TAS, MOVEtoCCR, MOVEfromCCR, MOVEtoSR, MOVEfromSR}
use Rattle.isa_spec.specs.Code.{is_byte}
use Rattle.isa_spec.specs.Mode.{every_column, data_column, control_column, alterable_column, set_to, only, bits}
use Rattle.encode_spec.specs.Ea.{data_alterable, memory_alterable, bit_field_read, bit_field_written}
use Rattle.encode_spec.specs.Arithmetic.{immediate_modes}
use Rattle.encode_spec.specs.Movement.{movem_modes}
use Rattle.encode_spec.specs.Bits.{dynamic_modes, static_modes, writes}
use Rattle.read_spec.specs.declared.Group.{Group}
use Rattle.read_spec.specs.declared.Group.TheVariants as group
use Rattle.read_spec.specs.Map.{map, group_at}
use Rattle.read_spec.specs.Operation.{size_at, move_size, immediate_at, to_status, to_memory_at, unsized_at, bit_field_at}
use Rattle.read_spec.specs.Layouts.{is_exchange, layout_of}
use Rattle.base_facts.specs.Tests.{all, below, and-true, eqb_eq}

-- D0, which takes no words, where an operand is missing
abbrev missing : List Bool
missing = only 0

-- without An where a byte of an address register is refused
abbrev no_byte : Size → List Bool → List Bool
no_byte s column = cond (is_byte s) (set_to false 1 column) column

abbrev unsized : UnsizedOneOperation → List Bool
unsized PEA = control_column
unsized NBCD = data_alterable
unsized JSR = control_column
unsized JMP = control_column
unsized TAS = data_alterable
unsized MOVEtoCCR = data_column
unsized MOVEfromCCR = data_alterable
unsized MOVEtoSR = data_column
unsized MOVEfromSR = data_alterable

-- the set that the encoder has for the operand of an operation word; MOVEP takes d16(An) alone, CMPM (An)+ alone
abbrev pub encoder_modes : Group → ℕ → ℕ → ℕ → ℕ → List Bool
encoder_modes group.Unused line x opmode ea = missing
encoder_modes group.ImmediateInto line x opmode ea = cond (to_status x opmode ea) missing (immediate_modes (immediate_at x))
encoder_modes group.StaticBit line x opmode ea = static_modes opmode
encoder_modes group.DynamicBitMovep line x opmode ea = cond (eqb (ea / 8) 1) (only 5) (dynamic_modes (opmode - 4))
encoder_modes group.MOVES line x opmode ea = memory_alterable
encoder_modes group.Bounds line x opmode ea = control_column
encoder_modes group.CAS line x opmode ea = cond (eqb ea 60 && leb 6 x) missing memory_alterable
encoder_modes group.MOVE line x opmode ea = cond (eqb opmode 1 && is_byte (move_size line)) missing (no_byte (move_size line) every_column)
encoder_modes group.OneOperand line x opmode ea = cond (eqb x 5) (no_byte (size_at opmode) every_column) data_alterable
encoder_modes group.UnsizedOneIllegal line x opmode ea = cond (eqb x 5 && eqb ea 60) missing (unsized (unsized_at x opmode))
encoder_modes group.NbcdLink line x opmode ea = cond (eqb (ea / 8) 1) missing (unsized NBCD)
encoder_modes group.PeaSwapBkpt line x opmode ea = cond (ltb ea 16) missing (unsized PEA)
encoder_modes group.MovemExt line x opmode ea = cond (eqb x 4 && ltb ea 8) missing (movem_modes (to_memory_at (5 - x)))
encoder_modes group.MULL line x opmode ea = data_column
encoder_modes group.DIVL line x opmode ea = data_column
encoder_modes group.System line x opmode ea = missing
encoder_modes group.LeaExtb line x opmode ea = cond (eqb x 4 && ltb ea 8) missing control_column
encoder_modes group.CHK line x opmode ea = data_column
encoder_modes group.Quick line x opmode ea = no_byte (size_at (opmode % 4)) alterable_column
encoder_modes group.Conditional line x opmode ea = cond (eqb (ea / 8) 1 || leb 58 ea && leb ea 60) missing data_alterable
encoder_modes group.Branch line x opmode ea = missing
encoder_modes group.MOVEQ line x opmode ea = missing
encoder_modes group.IntoData line x opmode ea = cond (eqb line 8 || eqb line 12) data_column (no_byte (size_at opmode) every_column)
encoder_modes group.ArithmeticExtended line x opmode ea = cond (ltb ea 16) missing memory_alterable
encoder_modes group.LogicDecimal line x opmode ea = cond (ltb ea 16) missing memory_alterable
encoder_modes group.LogicPack line x opmode ea = cond (ltb ea 16) missing memory_alterable
encoder_modes group.LogicExchange line x opmode ea = cond (is_exchange opmode ea) missing memory_alterable
encoder_modes group.LogicCompare line x opmode ea = cond (eqb (ea / 8) 1) (only 3) data_alterable
encoder_modes group.WordIntoData line x opmode ea = data_column
encoder_modes group.IntoAddress line x opmode ea = every_column
encoder_modes group.ShiftRegister line x opmode ea = missing
encoder_modes group.ShiftMemory line x opmode ea = memory_alterable
encoder_modes group.BitField line x opmode ea = cond (writes (bit_field_at ((x - 4) * 2 + opmode / 4))) bit_field_written bit_field_read
encoder_modes group.LineA line x opmode ea = missing
encoder_modes group.LineF line x opmode ea = missing

-- and for the destination that MOVE and CMPM have
abbrev pub encoder_writes : ℕ → ℕ → ℕ → List Bool
encoder_writes line opmode ea =
    cond (leb 1 line && leb line 3 && not (eqb opmode 1)) data_alterable
    (cond (eqb line 11 && leb 4 opmode && leb opmode 6 && eqb (ea / 8) 1) (only 3) missing)

abbrev sets_agree : Group → ℕ → ℕ → ℕ → ℕ → Bool
sets_agree s line x opmode ea =
    eqb (layout_of s line x opmode ea).readable (bits (encoder_modes s line x opmode ea)) && eqb (layout_of s line x opmode ea).writable (bits (encoder_writes line opmode ea))

abbrev group_agrees : ℕ → ℕ → ℕ → Group → Bool
group_agrees line x opmode s = all (sets_agree s line x opmode) 64

pub modes_agree : (line x opmode ea : ℕ) → line < 16 → x < 8 → opmode < 8 → ea < 64
    → ((layout_of (group_at line x opmode) line x opmode ea).readable ≡ bits (encoder_modes (group_at line x opmode) line x opmode ea))
    × ((layout_of (group_at line x opmode) line x opmode ea).writable ≡ bits (encoder_writes line opmode ea))
unfolding map group_at
modes_agree line x opmode ea hl hx ho he =
    let test : ℕ → ℕ → ℕ → Bool = λ line x opmode. group_agrees line x opmode (group_at line x opmode) in
    let a = below (λ line. all (λ x. all (test line x) 8) 8) 16 refl line hl in
    let b = below (λ x. all (test line x) 8) 8 a x hx in
    let c = below (test line x) 8 b opmode ho in
    let d = and-true (eqb (layout_of (group_at line x opmode) line x opmode ea).readable _) _
    (below (sets_agree (group_at line x opmode) line x opmode) 64 c ea he) in
    (eqb_eq _ _ d.0, eqb_eq _ _ d.1)
