use Rattle.std.proofs.Common.{List, [], ◌∷◌, length, map, sym, ◌∙◌, ap, subst}
use Rattle.std.specs.Prelude.{flat_map}
use Rattle.ir_tree.specs.Shape.{BlockShape, FunctionShape}
use Rattle.ir_tree.specs.ShapeOf.{function_shape, module_shape}
use Rattle.ir_tree.specs.declared.module.Function.{Function}
use Rattle.ir_proper.specs.declared.Which.{Which}
use Rattle.ir_proper.specs.declared.Which.TheVariants.{Params, Results, Cases}
use Rattle.ir_proper.specs.Limits.{capped, result_count, case_counts, most_of}
use Rattle.ir_limits.specs.Passing.{first_above}
use Rattle.ir_limits.proofs.EachLimit.{IsAnswer, by_params, by_results, by_cases, by_globals}
use Rattle.ir_limits.proofs.OneCount.{some_globals, globals_have}
use Rattle.ir_limits.proofs.passing.first_of_limit.Goals as goal

pub room_of_globals-requires-clause-sized : goal.room_of_globals-requires-clause-sized
room_of_globals-requires-clause-sized c =
    let m = module_shape c.args.m.now in
    let room = some_globals m c.requires.types in (room.0, globals_have m.types m.globals room.0 room.1)

pub returns-in-Params : goal.returns-in-Params
returns-in-Params c =
    let m = c.args.m.now in
    let read = c.first_params.ensures m.names
    ∙ ap (λ (fs : List Function). first_above (most_of Params) (flat_map (λ (f : FunctionShape). length f.params ∷ []) (map (function_shape m.names) fs)))
    c.deref.ensures.value in
    subst (λ (w : Which). IsAnswer (module_shape m) c.first_params.result w) (sym c.in-Params.is) (by_params (module_shape m) c.first_params.result read)

pub returns-in-Results : goal.returns-in-Results
returns-in-Results c =
    let m = c.args.m.now in
    let read = c.first_results.ensures m.names
    ∙ ap
    (λ (fs : List Function). first_above (most_of Results) (flat_map (λ (f : FunctionShape). capped (result_count f) ∷ []) (map (function_shape m.names) fs)))
    c.deref-in-Results.ensures.value in
    subst (λ (w : Which). IsAnswer (module_shape m) c.first_results.result w) (sym c.in-Results.is) (by_results (module_shape m) c.first_results.result read)

pub returns-in-Cases : goal.returns-in-Cases
returns-in-Cases c =
    let m = c.args.m.now in
    let read = c.first_cases.ensures m.names
    ∙ ap
    (λ (fs : List Function). first_above (most_of Cases)
    (flat_map (λ (f : FunctionShape). flat_map (λ (b : BlockShape). flat_map (λ x. case_counts x.body) b.insts) f.blocks) (map (function_shape m.names) fs)))
    c.deref-in-Cases.ensures.value in
    subst (λ (w : Which). IsAnswer (module_shape m) c.first_cases.result w) (sym c.in-Cases.is) (by_cases (module_shape m) c.first_cases.result read)

pub returns-in-Globals : goal.returns-in-Globals
returns-in-Globals c =
    let m = module_shape c.args.m.now in
    let read = c.above-in-Globals.ensures ∙ ap (λ (w : Which). first_above (most_of w) (c.room_of_globals.result ∷ [])) c.in-Globals.is in
    subst (λ (w : Which). IsAnswer m c.above-in-Globals.result w) (sym c.in-Globals.is)
    (by_globals m c.room_of_globals.result c.above-in-Globals.result c.room_of_globals.ensures read)
