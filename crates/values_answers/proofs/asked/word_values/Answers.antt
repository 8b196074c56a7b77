use mathlib.Core.Path.{ap, ◌∙◌}
use mathlib.Core.List.{[], ◌∷◌}
use Rattle.isa_spec.specs.Code.{bit, condition_code}
use Rattle.encode_spec.specs.Bits.{bit_field_code}
use Rattle.isa_values.specs.DisplacementSize.{displacement_code}
use Rattle.values_answers.specs.Values.{index_number, index_choice_number, indirection_number, processor_number, word_values}
use Rattle.values_answers.proofs.asked.word_values.Goals as goal

pub returns : goal.returns
unfolding word_values
returns c =
    let full = c.bit.ensures.0 ∙ ap bit c.is_full.ensures in
    let base = c.bit-2.ensures.0 ∙ ap bit c.base_suppressed.ensures in
    let index = c.bit-3.ensures.0 ∙ ap bit c.index_suppressed.ensures in
    let canonical = c.bit-4.ensures.0 ∙ ap bit c.is_canonical.ensures in
    let register = c.index_number.ensures.0 ∙ ap index_number c.index_register.ensures in
    let choice = c.index_choice_number.ensures ∙ ap index_choice_number c.index.ensures in
    let width = c.code.ensures.0 ∙ ap displacement_code c.base_displacement_size.ensures in
    let kind = c.indirection_number.ensures ∙ ap indirection_number c.indirection.ensures in
    let outer = c.code-2.ensures.0 ∙ ap displacement_code c.outer_displacement_size.ensures in
    let size = c.code-3.ensures.0 ∙ ap displacement_code c.of_code.ensures in
    let condition = c.code-4.ensures.0 ∙ ap condition_code c.from_code.ensures in
    let processor = c.processor_number.ensures ∙ ap processor_number c.processor.ensures in
    let field = c.code-5.ensures.0 ∙ ap bit_field_code c.from_code-3.ensures in
    λ i. full i ∷ base i ∷ index i ∷ canonical i ∷ register i ∷ c.scale_shift.ensures.0 i ∷ c.scale.ensures.0 i ∷ choice i
    ∷ width i ∷ kind i ∷ outer i ∷ c.bytes.ensures.0 i ∷ size i ∷ condition i ∷ c.from_code-2.ensures.0 i ∷ processor i ∷ field i ∷ []
