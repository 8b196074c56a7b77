-- What it is for a tail to follow an operation word of a layout at an address, and its words.
use Rattle.std.specs.Prelude.{ℕ, ◌+◌, ◌/◌, ◌%◌, ◌^◌, ◌<◌, ◌≡◌, true, List, [], ◌∷◌, ◌++◌, length}
use Rattle.isa.specs.declared.Size.{Size}
use Rattle.encode_spec.specs.Item.{words_in, count_of, word_address}
use Rattle.encode_spec.specs.Ea.{ea_items}
use Rattle.read_spec.specs.declared.Specifier.{Specifier}
use Rattle.read_spec.specs.declared.Specifier.TheVariants as specifier
use Rattle.read_spec.specs.declared.Layout.{Layout}
use Rattle.read_spec.specs.declared.Tail.{Tail}
use Rattle.read_spec.specs.Layout.{valid, accepts}
use Rattle.read_spec.specs.Plain.{plain_operand}
use Rattle.read_operand_laws.specs.Stands.{Stands}

abbrev pub specifier_words : Specifier → ℕ → List ℕ
specifier_words specifier.Nothing v = []
specifier_words specifier.Word v = v ∷ []
specifier_words specifier.Byte v = v ∷ []
specifier_words specifier.General v = v ∷ []
specifier_words specifier.Multiply v = v ∷ []
specifier_words specifier.Divide v = v ∷ []
specifier_words specifier.Compare v = v ∷ []
specifier_words specifier.BitField v = v ∷ []
specifier_words specifier.Long v = v / 65536 ∷ v % 65536 ∷ []
specifier_words specifier.CompareTwo v = v / 65536 ∷ v % 65536 ∷ []

-- a specifier of one word, and one of two
abbrev pub OneStands : Specifier → ℕ → Type 0
OneStands k v = (v < 65536) × (valid k v ≡ true)

abbrev pub TwoStand : Specifier → ℕ → Type 0
TwoStand k v = (v < 2 ^ 32) × (valid k (v / 65536) ≡ true) × (valid k (v % 65536) ≡ true)

abbrev pub SpecifierStands : Specifier → ℕ → Type 0
SpecifierStands specifier.Nothing v = v ≡ 0
SpecifierStands specifier.Word v = OneStands specifier.Word v
SpecifierStands specifier.Byte v = OneStands specifier.Byte v
SpecifierStands specifier.General v = OneStands specifier.General v
SpecifierStands specifier.Multiply v = OneStands specifier.Multiply v
SpecifierStands specifier.Divide v = OneStands specifier.Divide v
SpecifierStands specifier.Compare v = OneStands specifier.Compare v
SpecifierStands specifier.BitField v = OneStands specifier.BitField v
SpecifierStands specifier.Long v = TwoStand specifier.Long v
SpecifierStands specifier.CompareTwo v = TwoStand specifier.CompareTwo v

-- where each operand's words begin; the operation word stands at a
abbrev pub source_at : ℕ → Layout → Tail → ℕ
source_at a l f = word_address a (1 + length (specifier_words l.specifier f.value))

abbrev pub destination_at : ℕ → Layout → Tail → ℕ
destination_at a l f =
    word_address a (1 + length (specifier_words l.specifier f.value) + count_of (ea_items f.source l.size (source_at a l f)))

abbrev pub TailStands : ℕ → Layout → Tail → Type 0
TailStands a l f =
    (accepts l ≡ true)
    × SpecifierStands l.specifier f.value
    × Stands l.size (source_at a l f) l.source f.source
    × Stands l.size (destination_at a l f) l.destination f.destination

abbrev pub tail_words : ℕ → Layout → Tail → List ℕ
tail_words a l f =
    specifier_words l.specifier f.value
    ++ (words_in (ea_items f.source l.size (source_at a l f)) ++ words_in (ea_items f.destination l.size (destination_at a l f)))

abbrev pub plain_tail : Size → Tail → Tail
plain_tail s f = record { value = f.value; source = plain_operand s f.source; destination = plain_operand s f.destination }
