use Rattle.std.proofs.lemmas.Option.{IfSome_then}
use Rattle.ir_tree.specs.ShapeOf.{ty_shape, module_shape}
use Rattle.ir_openings.proofs.Once.{steps_from_opened, steps_in_opened, steps_open}
use Rattle.ir_openings.proofs.Parts.{none_then}
use Rattle.ir_openings.proofs.table.Openings.step.Goals as goal

pub returns-in-Some-clause-steps : goal.returns-in-Some-clause-steps
returns-in-Some-clause-steps c =
    let names = c.args.m.now.names in
    IfSome_then c.part_at.result (c.part_at.ensures.steps names)
    (λ u steps. steps_from_opened (module_shape c.args.m.now).types c.args.number (ty_shape names c.args.ty.now) (ty_shape names c.in-Some.opened.now) (ty_shape names u.now)
    c.in-Some.ensures.opens steps)

pub returns-in-Some-clause-known : goal.returns-in-Some-clause-known
returns-in-Some-clause-known c = c.part_at.ensures.known _ c.in-Some.ensures.known

pub returns-in-Some-clause-none : goal.returns-in-Some-clause-none
returns-in-Some-clause-none c =
    let names = c.args.m.now.names in
    none_then c.part_at.result (c.part_at.ensures.none names)
    (λ none u steps. none u
    (steps_in_opened (module_shape c.args.m.now).types c.args.number (ty_shape names c.args.ty.now) (ty_shape names c.in-Some.opened.now) u c.in-Some.ensures.opens steps))

pub returns-in-None-clause-none : goal.returns-in-None-clause-none
returns-in-None-clause-none c u steps =
    steps_open (module_shape c.args.m.now).types c.args.number (ty_shape c.args.m.now.names c.args.ty.now) u c.in-None.ensures.none steps
