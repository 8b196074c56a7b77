-- What follows an operation word, in the order of the manual's figure 2-1, "Instruction Word General Format": the special operand
-- specifier, the source's words, the destination's words.
use Rattle.std.specs.Prelude.{ℕ, ◌+◌, ◌*◌, ◌/◌, ◌%◌, Bool, true, false, not, ◌&&◌, ◌||◌, eqb}
use Rattle.isa.specs.declared.Size.{Size}
use Rattle.isa.specs.declared.Size.TheVariants.{Byte}
use Rattle.read_spec.specs.declared.Specifier.{Specifier}
use Rattle.read_spec.specs.declared.Specifier.TheVariants as specifier
use Rattle.read_spec.specs.declared.Layout.{Layout}
use Rattle.read_spec.specs.declared.Tail.{Tail}
use Rattle.read_spec.specs.Tree.{Tree, ret, more, bind, guard}
use Rattle.read_spec.specs.Operand.{permitted, operand_tree}
use Rattle.read_spec.specs.Modes.{only_mode}

-- A bit-field's offset or width in six bits: Do or Dw before a register or a number.
abbrev pub value_part : ℕ → Bool
value_part n = not (eqb (n / 32) 1) || eqb (n / 8 % 4) 0

-- the bits that an extension word leaves unused are 0; all eight bit-field operations have a register number in bits 14 to 12
-- (01, exception ii)
abbrev pub valid : Specifier → ℕ → Bool
valid specifier.Nothing w = true
valid specifier.Word w = true
valid specifier.Byte w = eqb (w / 256) 0
valid specifier.General w = eqb (w % 2048) 0
valid specifier.Multiply w = eqb (w / 32768) 0 && eqb (w / 8 % 128) 0 && (eqb (w / 1024 % 2) 1 || eqb (w % 8) 0)
valid specifier.Divide w = eqb (w / 32768) 0 && eqb (w / 8 % 128) 0
valid specifier.Compare w = eqb (w / 512) 0 && eqb (w / 8 % 8) 0
valid specifier.BitField w = eqb (w / 32768) 0 && value_part (w / 64 % 64) && value_part (w % 64)
valid specifier.Long w = true
valid specifier.CompareTwo w = eqb (w / 512 % 8) 0 && eqb (w / 8 % 8) 0

abbrev pub one_word : Specifier → Tree ℕ
one_word k = more (λ at w. guard (valid k w) (ret w))

abbrev pub two_words : Specifier → Tree ℕ
two_words k = more (λ at h. guard (valid k h) (more (λ next l. guard (valid k l) (ret (h * 65536 + l)))))

abbrev pub specifier_tree : Specifier → Tree ℕ
specifier_tree specifier.Nothing = ret 0
specifier_tree specifier.Word = one_word specifier.Word
specifier_tree specifier.Byte = one_word specifier.Byte
specifier_tree specifier.General = one_word specifier.General
specifier_tree specifier.Multiply = one_word specifier.Multiply
specifier_tree specifier.Divide = one_word specifier.Divide
specifier_tree specifier.Compare = one_word specifier.Compare
specifier_tree specifier.BitField = one_word specifier.BitField
specifier_tree specifier.Long = two_words specifier.Long
specifier_tree specifier.CompareTwo = two_words specifier.CompareTwo

-- everything that the operation word says is looked at before another word
abbrev pub accepts : Layout → Bool
accepts l = l.accepted && permitted l.readable l.source && permitted l.writable l.destination

abbrev pub tail_tree : Layout → Tree Tail
tail_tree l =
    guard (accepts l)
    (bind (specifier_tree l.specifier) (λ v.
    bind (operand_tree l.size l.source) (λ o.
    bind (operand_tree l.size l.destination) (λ d. ret (record { value = v; source = o; destination = d })))))

-- a layout: a specifier, and one operand or two; an operand that is missing stands as D0, which takes no words
abbrev pub two : Specifier → Size → ℕ → ℕ → ℕ → ℕ → Layout
two k s ea modes to to_modes =
    record { accepted = true; specifier = k; size = s; source = ea; readable = modes; destination = to; writable = to_modes }

abbrev pub one : Specifier → Size → ℕ → ℕ → Layout
one k s ea modes = two k s ea modes 0 (only_mode 0)

abbrev pub alone : Specifier → Layout
alone k = one k Byte 0 (only_mode 0)

abbrev pub bare : Layout
bare = alone specifier.Nothing

abbrev pub no_layout : Layout
no_layout =
    record { accepted = false; specifier = specifier.Nothing; size = Byte; source = 0; readable = only_mode 0; destination = 0; writable = only_mode 0 }
