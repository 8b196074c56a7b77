-- What is printed for the numbers that code holds in places.
use Rattle.std.specs.Prelude.{cond, List, ℕ}
use Rattle.base_spec.specs.Refused.{not_in_form}
use Rattle.base_text.specs.declared.LineNumbers.{LineNumbers}
use Rattle.numeric_places.specs.declared.Numbers.{Numbers}
use Rattle.numeric_places.specs.Places.{built_from}
use Rattle.numeric_fields.specs.Number.{long_at}
use Rattle.print_spec.specs.EncodeAnswer.{built_text}

abbrev pub places_in : LineNumbers → Numbers
places_in n = record { count = n.count; negative = n.negative; magnitude = n.magnitude }

unfoldable pub places_text : Numbers → List ℕ
places_text ns = let address = long_at ns 0 in cond address.ok (built_text (built_from ns 1) address.value) not_in_form
