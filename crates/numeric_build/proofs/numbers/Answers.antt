use Rattle.std.proofs.Common.{ap, ◌∙◌}
use Rattle.numeric_spec.specs.Form.{form_of}
use Rattle.numeric_build.specs.Places.{in_places, numbers_placed, numbers_few}
use Rattle.numeric_build.proofs.numbers.Goals as goal

pub returns : goal.returns
returns c =
    let e = c.in_places.ensures ∙ ap in_places c.numbers.ensures.value ∙ numbers_placed (form_of c.args.instruction) in
    (e, rw e (numbers_few c.args.instruction))
