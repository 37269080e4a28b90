use Rattle.std.proofs.Common.{subst}
use Rattle.std.proofs.lemmas.Option.{IfSome_then}
use Rattle.ir_tree.specs.Shape.{TyShape, array}
use Rattle.ir_tree.specs.ShapeOf.{ty_shape, module_shape}
use Rattle.ir_rules.specs.Constants.{Opens}
use Rattle.ir_openings.proofs.Once.{opens_once}
use Rattle.ir_openings.proofs.Parts.{none_then}
use Rattle.ir_check_consts.proofs.opened.array_of.Goals as goal

pub returns-in-Some-clause-opens : goal.returns-in-Some-clause-opens
returns-in-Some-clause-opens c =
    let m = c.args.m.now in
    IfSome_then c.array_parts.result (c.array_parts.ensures.is m.names)
    (λ parts is. subst (λ (z : TyShape). Opens (module_shape m).types (ty_shape m.names c.args.ty.now) z) is c.in-Some.ensures.opens)

pub returns-in-Some-clause-known : goal.returns-in-Some-clause-known
returns-in-Some-clause-known c = c.array_parts.ensures.known _ c.in-Some.ensures.known

pub returns-in-Some-clause-none : goal.returns-in-Some-clause-none
returns-in-Some-clause-none c =
    let m = c.args.m.now in
    none_then c.array_parts.result (c.array_parts.ensures.none m.names)
    (λ none count element opens. none count element
    (opens_once (module_shape m).types (ty_shape m.names c.args.ty.now) (ty_shape m.names c.in-Some.opened.now) (array count element) c.in-Some.ensures.opens opens))

pub returns-in-None-clause-none : goal.returns-in-None-clause-none
returns-in-None-clause-none c count element opens = c.in-None.ensures.none (array count element) opens
