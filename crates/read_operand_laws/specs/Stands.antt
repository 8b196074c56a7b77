-- What it is for an operand to stand at an address: it encodes there, and `ea` is its effective address field.
use Rattle.std.specs.Prelude.{ℕ, ◌≡◌, true}
use Rattle.isa.specs.declared.Size.{Size}
use Rattle.isa.specs.declared.Operand.{Operand}
use Rattle.encode_spec.specs.Item.{fine, failure}
use Rattle.encode_spec.specs.Ea.{ea_field, ea_items, is_typed}
use Rattle.read_spec.specs.Accepted.{InTypes}

abbrev pub Stands : Size → ℕ → ℕ → Operand → Type 0
Stands s at ea o = (failure true (ea_items o s at) ≡ fine) × (is_typed o ≡ true) × InTypes o × (ea_field o ≡ ea)
