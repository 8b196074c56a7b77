-- The effective address, read (the manual, section 2.2, "Effective Addressing Modes"; table 2-4 and figure 2-2).
use Rattle.std.specs.Prelude.{ℕ, ◌+◌, ◌*◌, ◌-◌, ◌/◌, ◌%◌, ◌^◌, Bool, ◌&&◌, cond, [], ◌∷◌, ltb, eqb, ℤ, pos, get_or}
use Rattle.isa.specs.declared.Size.{Size}
use Rattle.isa.specs.declared.Size.TheVariants.{Byte, Word, Long}
use Rattle.isa.specs.declared.AddressWidth.TheVariants as width
use Rattle.isa.specs.declared.DisplacementSize.{DisplacementSize}
use Rattle.isa.specs.declared.DisplacementSize.TheVariants as displacement
use Rattle.isa.specs.declared.RegisterOperand.{RegisterOperand}
use Rattle.isa.specs.declared.RegisterOperand.TheVariants.{Address, Data}
use Rattle.isa.specs.declared.IndexRegister.{IndexRegister}
use Rattle.isa.specs.declared.Operand.{Operand}
use Rattle.isa.specs.declared.Operand.TheVariants.{Immediate, Register, Indirect, PostIndirect, PreIndirect, IndirectDisplacement, IndirectIndex, PcDisplacement, PcIndex, Extended, Absolute}
use Rattle.base_spec.specs.Signed.{signed32, bits_of}
use Rattle.isa_spec.specs.ExtensionWord.{is_full, base_size, outer_size, is_canonical}
use Rattle.isa_spec.specs.IndexBase.{is_pc}
use Rattle.encode_spec.specs.Ea.{from_pc}
use Rattle.read_spec.specs.Number.{signed8, signed16, reach}
use Rattle.read_spec.specs.Tree.{Tree, ret, fail, more, bind, guard}

-- which mode six bits name, 0 to 11; 12 to 14 are none
abbrev pub mode_at : ℕ → ℕ
mode_at ea = cond (ltb ea 56) (ea / 8) (ea - 49)

abbrev pub permitted : ℕ → ℕ → Bool
permitted modes ea = ltb (mode_at ea) 12 && eqb (modes / 2 ^ mode_at ea % 2) 1

-- D/A and a register number, in four bits
abbrev pub general_of : ℕ → RegisterOperand
general_of k = cond (ltb k 8) (Data k) (Address (k - 8))

-- the index register of an extension word, and its width
abbrev pub index_of : ℕ → IndexRegister
index_of w = record { register = general_of (w / 4096); size = cond (eqb (w / 2048 % 2) 1) Long Word }

-- a displacement of a full word
abbrev pub displacement_tree : DisplacementSize → Tree ℤ
displacement_tree displacement.Null = ret (pos 0)
displacement_tree displacement.Word = more (λ at w. ret (signed16 w))
displacement_tree displacement.Long = more (λ at h. more (λ next l. ret (signed32 (h * 65536 + l))))

-- what an Extended operand holds: from an unsuppressed program counter, the target
abbrev pub landed : Bool → ℕ → ℤ → ℤ
landed pc at z = cond pc (signed32 (reach at z)) z

-- the outer displacement of a full word, and both
abbrev pub outer_tree : ℕ → ℕ → ℕ → ℤ → Tree Operand
outer_tree base at w z = bind (displacement_tree (outer_size w)) (λ outer. ret (Extended base w (landed (from_pc base w) at z) outer))

abbrev pub base_tree : ℕ → ℕ → ℕ → Tree Operand
base_tree base at w = bind (displacement_tree (base_size w)) (outer_tree base at w)

-- the full format, without a reserved combination
abbrev pub full_tree : ℕ → ℕ → ℕ → Tree Operand
full_tree base at w = guard (is_canonical w) (base_tree base at w)

-- the brief format: of scale 1 the MC68000's index, else an Extended operand without the low bits
abbrev pub index_operand : ℕ → ℕ → ℕ → ℤ → Operand
index_operand base at w z = cond (is_pc base) (PcIndex (reach at z) (index_of w)) (IndirectIndex (Address base) z (index_of w))

abbrev pub scaled_operand : ℕ → ℕ → ℕ → ℤ → Operand
scaled_operand base at w z = Extended base (w / 512 * 512) (landed (is_pc base) at z) (pos 0)

abbrev pub brief_operand : ℕ → ℕ → ℕ → Operand
brief_operand base at w = cond (eqb (w / 512 % 4) 0) (index_operand base at w (signed8 (w % 256))) (scaled_operand base at w (signed8 (w % 256)))

-- an extension word; base is an IndexBase
abbrev pub indexed_tree : ℕ → Tree Operand
indexed_tree base = more (λ at w. cond (is_full w) (full_tree base at w) (ret (brief_operand base at w)))

-- #<data>: the high byte of a byte's word is 0
abbrev pub immediate_tree : Size → Tree ℕ
immediate_tree Byte = more (λ at w. guard (ltb w 256) (ret w))
immediate_tree Word = more (λ at w. ret w)
immediate_tree Long = more (λ at h. more (λ next l. ret (h * 65536 + l)))

-- mode 7, by the register field
abbrev pub special_tree : Size → ℕ → Tree Operand
special_tree s k =
    get_or
    (more (λ at w. ret (Absolute (bits_of (signed16 w) % 2 ^ 32) width.Word))
    ∷ more (λ at h. more (λ next l. ret (Absolute (h * 65536 + l) width.Long)))
    ∷ more (λ at w. ret (PcDisplacement (reach at (signed16 w))))
    ∷ indexed_tree 8
    ∷ bind (immediate_tree s) (λ v. ret (Immediate v))
    ∷ [])
    k fail

-- by the mode field and the register field
abbrev pub mode_tree : Size → ℕ → ℕ → Tree Operand
mode_tree s m k =
    get_or
    (ret (Register (Data k))
    ∷ ret (Register (Address k))
    ∷ ret (Indirect k)
    ∷ ret (PostIndirect k)
    ∷ ret (PreIndirect k)
    ∷ more (λ at w. ret (IndirectDisplacement (signed16 w) (Address k)))
    ∷ indexed_tree k
    ∷ special_tree s k
    ∷ [])
    m fail

abbrev pub operand_tree : Size → ℕ → Tree Operand
operand_tree s ea = mode_tree s (ea / 8) (ea % 8)
