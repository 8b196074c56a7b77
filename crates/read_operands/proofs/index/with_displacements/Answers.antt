use borrow.Author.Rules.{rules}
use mir.Syntax.{w32}
use mir.Facts.{to_z-of_z}
use Rattle.std.specs.Prelude.{Ok, ◌≡◌}
use Rattle.std.proofs.Common.{◌∙◌}
use Rattle.isa.specs.declared.Operand.TheVariants.{Extended}
use Rattle.isa_spec.specs.ExtensionWord.{base_size, outer_size}
use Rattle.encode_spec.specs.Ea.{from_pc}
use Rattle.read_spec.specs.Operand.{displacement_tree, landed, outer_tree}
use Rattle.read_spec.specs.Tree.{ret}
use Rattle.read_places.specs.RunAt.{run_at}
use Rattle.read_operands.specs.Read.{read_of_at}
use Rattle.read_operands.specs.ReadLaws.{read_then}
use Rattle.read_operands.proofs.index.with_displacements.Goals as goal

pub returns : goal.returns
returns c a =
    let i = c.args in
    let z = c.in_ok-z in
    let o = c.in_ok-outer in
    let e : Ok (z.z, z.at_outer) ≡ read_of_at (run_at (displacement_tree (base_size i.w)) a i.words.now i.at) = rw (← c.base_displacement_size-size.ensures) (z.ensures a) in
    let g : Ok (o.outer, o.next) ≡ read_of_at (run_at (displacement_tree (outer_size i.w)) a i.words.now z.at_outer) = rw (← c.outer_displacement_size-outer_size.ensures) (o.ensures a) in
    rw (to_z-of_z {w = w32} {z = c.landed.result} (search rules), c.landed.ensures, c.from_pc.ensures, to_z-of_z {w = w32} {z = o.outer} (search rules), to_z-of_z {w = w32} {z = z.z} (search rules))
    (read_then (displacement_tree (outer_size i.w)) (λ outer. ret (Extended i.base i.w (landed (from_pc i.base i.w) i.place z.z) outer)) a i.words.now z.at_outer o.outer o.next g
    ∙ read_then (displacement_tree (base_size i.w)) (outer_tree i.base i.place i.w) a i.words.now i.at z.z z.at_outer e)
