-- The trees of opcode, cut at each place where a function begins.
use Rattle.std.specs.Prelude.{ℕ, ◌+◌, ◌*◌, ◌%◌, ◌^◌}
use Rattle.isa.specs.declared.Size.{Size}
use Rattle.isa.specs.declared.AddressWidth.TheVariants as width
use Rattle.isa.specs.declared.RegisterOperand.TheVariants.{Address}
use Rattle.isa.specs.declared.Operand.{Operand}
use Rattle.isa.specs.declared.Operand.TheVariants.{Immediate, IndirectDisplacement, PcDisplacement, Absolute}
use Rattle.base_spec.specs.Signed.{bits_of}
use Rattle.read_spec.specs.declared.Specifier.{Specifier}
use Rattle.read_spec.specs.declared.Layout.{Layout}
use Rattle.read_spec.specs.declared.Tail.{Tail}
use Rattle.read_spec.specs.Tree.{Tree, ret, more, bind, guard}
use Rattle.read_spec.specs.Number.{signed16, reach}
use Rattle.read_spec.specs.Operand.{immediate_tree, operand_tree}
use Rattle.read_spec.specs.Layout.{valid, specifier_tree}

-- the second of two words
abbrev pub second_word : Specifier → ℕ → Tree ℕ
second_word k h = more (λ next l. guard (valid k l) (ret (h * 65536 + l)))

-- mode 5, and the register fields 0, 1, 2 and 4 of mode 7
abbrev pub displaced_tree : ℕ → Tree Operand
displaced_tree k = more (λ at w. ret (IndirectDisplacement (signed16 w) (Address k)))

abbrev pub short_address_tree : Tree Operand
short_address_tree = more (λ at w. ret (Absolute (bits_of (signed16 w) % 2 ^ 32) width.Word))

abbrev pub long_address_tree : Tree Operand
long_address_tree = more (λ at h. more (λ next l. ret (Absolute (h * 65536 + l) width.Long)))

abbrev pub pc_displacement_tree : Tree Operand
pc_displacement_tree = more (λ at w. ret (PcDisplacement (reach at (signed16 w))))

abbrev pub immediate_operand_tree : Size → Tree Operand
immediate_operand_tree s = bind (immediate_tree s) (λ v. ret (Immediate v))

-- the fields from the destination on, from the source on, and from the specifier on
abbrev pub destination_tree : Layout → ℕ → Operand → Tree Tail
destination_tree l v o =
    bind (operand_tree l.size l.destination) (λ d. ret (record { value = v; source = o; destination = d }))

abbrev pub source_tree : Layout → ℕ → Tree Tail
source_tree l v = bind (operand_tree l.size l.source) (destination_tree l v)

abbrev pub specified_tree : Layout → Tree Tail
specified_tree l = bind (specifier_tree l.specifier) (source_tree l)
