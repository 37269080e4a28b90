use Rattle.std.proofs.Common.{◌<◌, ◌≤◌, ◌^◌, ℕ, Option, length, arith, sym, subst}
use Rattle.std.specs.Prelude.{IfSome}
use Rattle.std.proofs.lemmas.List.{length-map}
use Rattle.ir_tree.specs.ShapeOf.{name_shape, global_shape}
use Rattle.program_steps.specs.Steps.{names_of}
use Rattle.program_consts.specs.Constants.{shape_of}
use Rattle.program_consts.proofs.Valued.{global_below}
use Rattle.program_consts.proofs.values.Constants.address_of.Goals as goal

pub global_address-requires : goal.global_address-requires
global_address-requires c =
    let m = c.args.self.now.steps.«module».now in
    let names = names_of c.args.self.now.steps in
    let few : length (shape_of c.args.self.now).globals ≤ 2 ^ 63 = omega (arith, length-map m.globals.items (global_shape m.names), m.globals.small, m.globals.ok) in
    subst (λ (o : Option ℕ). IfSome o (λ g. g < 2 ^ 63)) (sym (c.global_of.ensures m c.requires.constants.names c.requires.name))
    (global_below (shape_of c.args.self.now) (name_shape names c.args.id) (2 ^ 63) few)
