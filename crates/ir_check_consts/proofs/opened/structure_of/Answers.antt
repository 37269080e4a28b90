use Rattle.std.proofs.Common.{subst}
use Rattle.std.proofs.lemmas.Option.{IfSome_then}
use Rattle.ir_tree.specs.Shape.{TyShape, structure}
use Rattle.ir_tree.specs.ShapeOf.{ty_shape, module_shape}
use Rattle.ir_rules.specs.Constants.{Opens}
use Rattle.ir_openings.proofs.Once.{opens_once}
use Rattle.ir_openings.proofs.Parts.{none_then}
use Rattle.ir_check_consts.proofs.opened.structure_of.Goals as goal

pub returns-in-Some-clause-opens : goal.returns-in-Some-clause-opens
returns-in-Some-clause-opens c =
    let m = c.args.m.now in
    IfSome_then c.structure_parts.result (c.structure_parts.ensures.is m.names)
    (λ parts is. subst (λ (z : TyShape). Opens (module_shape m).types (ty_shape m.names c.args.ty.now) z) is c.in-Some.ensures.opens)

pub returns-in-Some-clause-known : goal.returns-in-Some-clause-known
returns-in-Some-clause-known c = c.structure_parts.ensures.known _ c.in-Some.ensures.known

pub returns-in-Some-clause-none : goal.returns-in-Some-clause-none
returns-in-Some-clause-none c =
    let m = c.args.m.now in
    none_then c.structure_parts.result (c.structure_parts.ensures.none m.names)
    (λ none row packed opens. none row packed
    (opens_once (module_shape m).types (ty_shape m.names c.args.ty.now) (ty_shape m.names c.in-Some.opened.now) (structure row packed) c.in-Some.ensures.opens opens))

pub returns-in-None-clause-none : goal.returns-in-None-clause-none
returns-in-None-clause-none c row packed opens = c.in-None.ensures.none (structure row packed) opens
