use Rattle.std.proofs.Common.{◌<◌, length, map, arith}
use Rattle.ir_tree.specs.Shape.{void}
use Rattle.ir_tree.specs.ShapeOf.{param_shape}
use Rattle.ir_type_tests.proofs.Both.{fails}
use Rattle.ir_check_insts.specs.Surroundings.{names_of, count_of, ty_val_in}
use Rattle.ir_check_insts.proofs.Known.{ty_val_known_at, param_known_at}
use Rattle.ir_check_insts.proofs.Alike.{at_map_map, within_map, alike_next, alike_fails}
use Rattle.ir_check_insts.proofs.around.Around.are_of_params.Goals as goal

pub returns-then-not-same_ty : goal.returns-then-not-same_ty
returns-then-not-same_ty c =
    let within : c.loop-i.i < length c.args.params.now = omega arith in
    let tells = c.same_ty.ensures (names_of c.args.self.now) c.requires.around.names.distinct
    (ty_val_known_at (count_of c.args.self.now) c.args.arguments.now c.loop-i.i c.index-arguments-i.result c.requires.known c.loop-i-test.true c.index-arguments-i.is)
    (param_known_at (count_of c.args.self.now) c.args.params.now c.loop-i.i c.index-params-i.result c.requires.param_names within c.index-params-i.is) in (
      λ no. cc,
      λ same.
          absurd (alike_fails (map (λ x. x.ty) (map (ty_val_in c.args.self.now) c.args.arguments.now)) (map (λ p. p.ty) (map (param_shape (names_of c.args.self.now)) c.args.params.now)) c.loop-i.i _ _ void
          (at_map_map (λ x. x.ty) (ty_val_in c.args.self.now) c.args.arguments.now c.loop-i.i c.index-arguments-i.result void c.loop-i-test.true c.index-arguments-i.is)
          (at_map_map (λ p. p.ty) (param_shape (names_of c.args.self.now)) c.args.params.now c.loop-i.i c.index-params-i.result void within c.index-params-i.is)
          (fails _ c.same_ty.result c.if-not-same_ty.true tells) same),
    )

pub loop-i-preserved : goal.loop-i-preserved
loop-i-preserved c =
    let within : c.loop-i.i < length c.args.params.now = omega arith in
    let tells = c.same_ty.ensures (names_of c.args.self.now) c.requires.around.names.distinct
    (ty_val_known_at (count_of c.args.self.now) c.args.arguments.now c.loop-i.i c.index-arguments-i.result c.requires.known c.loop-i-test.true c.index-arguments-i.is)
    (param_known_at (count_of c.args.self.now) c.args.params.now c.loop-i.i c.index-params-i.result c.requires.param_names within c.index-params-i.is) in
    alike_next (map (λ x. x.ty) (map (ty_val_in c.args.self.now) c.args.arguments.now)) (map (λ p. p.ty) (map (param_shape (names_of c.args.self.now)) c.args.params.now)) c.loop-i.i _ _ void
    (within_map (λ x. x.ty) (map (ty_val_in c.args.self.now) c.args.arguments.now) c.loop-i.i (within_map (ty_val_in c.args.self.now) c.args.arguments.now c.loop-i.i c.loop-i-test.true))
    (within_map (λ p. p.ty) (map (param_shape (names_of c.args.self.now)) c.args.params.now) c.loop-i.i (within_map (param_shape (names_of c.args.self.now)) c.args.params.now c.loop-i.i within))
    (at_map_map (λ x. x.ty) (ty_val_in c.args.self.now) c.args.arguments.now c.loop-i.i c.index-arguments-i.result void c.loop-i-test.true c.index-arguments-i.is)
    (at_map_map (λ p. p.ty) (param_shape (names_of c.args.self.now)) c.args.params.now c.loop-i.i c.index-params-i.result void within c.index-params-i.is)
    (tells.0 c.if-not-same_ty.false) c.loop-i.invariant
