-- What the program `encode_bytes` prints for the numbers that code holds in places.
use Rattle.std.specs.Prelude.{cond, ◌&&◌, List, ℕ}
use Rattle.base_spec.specs.Refused.{not_in_form}
use Rattle.numeric_places.specs.declared.Numbers.{Numbers}
use Rattle.numeric_places.specs.Places.{built_from}
use Rattle.numeric_fields.specs.Number.{unsigned_at, long_at}
use Rattle.print_spec.specs.BytesAnswer.{called_text}

unfoldable pub lent_places_text : Numbers → List ℕ
lent_places_text ns =
    let lent = unsigned_at 32 ns 0 in
    let address = long_at ns lent.next in
    cond (lent.ok && address.ok) (called_text (built_from ns address.next) lent.value address.value) not_in_form
