use Rattle.std.proofs.Common.{◌<◌, length, map, arith}
use Rattle.ir_tree.specs.Shape.{void}
use Rattle.ir_tree.specs.Known.{ty_known}
use Rattle.ir_type_tests.proofs.Both.{fails}
use Rattle.ir_check_insts.specs.Surroundings.{names_of, count_of, ty_in, ty_val_in}
use Rattle.ir_check_insts.proofs.Known.{known_at, ty_val_known_at}
use Rattle.ir_check_insts.proofs.Alike.{at_map, at_map_map, within_map, alike_next, alike_fails}
use Rattle.ir_check_insts.proofs.around.Around.are_of_types.Goals as goal

pub returns-then-not-same_ty : goal.returns-then-not-same_ty
returns-then-not-same_ty c =
    let within : c.loop-i.i < length c.args.types.now = omega arith in
    let tells = c.same_ty.ensures (names_of c.args.self.now) c.requires.around.names.distinct
    (ty_val_known_at (count_of c.args.self.now) c.args.arguments.now c.loop-i.i c.index-arguments-i.result c.requires.known c.loop-i-test.true c.index-arguments-i.is)
    (known_at (ty_known (count_of c.args.self.now)) c.args.types.now c.loop-i.i c.index-types-i.result c.requires.ty_names within c.index-types-i.is) in (
      λ no. cc,
      λ same.
          absurd (alike_fails (map (λ x. x.ty) (map (ty_val_in c.args.self.now) c.args.arguments.now)) (map (ty_in c.args.self.now) c.args.types.now) c.loop-i.i _ _ void
          (at_map_map (λ x. x.ty) (ty_val_in c.args.self.now) c.args.arguments.now c.loop-i.i c.index-arguments-i.result void c.loop-i-test.true c.index-arguments-i.is)
          (at_map (ty_in c.args.self.now) c.args.types.now c.loop-i.i c.index-types-i.result void within c.index-types-i.is)
          (fails _ c.same_ty.result c.if-not-same_ty.true tells) same),
    )

pub loop-i-preserved : goal.loop-i-preserved
loop-i-preserved c =
    let within : c.loop-i.i < length c.args.types.now = omega arith in
    let tells = c.same_ty.ensures (names_of c.args.self.now) c.requires.around.names.distinct
    (ty_val_known_at (count_of c.args.self.now) c.args.arguments.now c.loop-i.i c.index-arguments-i.result c.requires.known c.loop-i-test.true c.index-arguments-i.is)
    (known_at (ty_known (count_of c.args.self.now)) c.args.types.now c.loop-i.i c.index-types-i.result c.requires.ty_names within c.index-types-i.is) in
    alike_next (map (λ x. x.ty) (map (ty_val_in c.args.self.now) c.args.arguments.now)) (map (ty_in c.args.self.now) c.args.types.now) c.loop-i.i _ _ void
    (within_map (λ x. x.ty) (map (ty_val_in c.args.self.now) c.args.arguments.now) c.loop-i.i (within_map (ty_val_in c.args.self.now) c.args.arguments.now c.loop-i.i c.loop-i-test.true))
    (within_map (ty_in c.args.self.now) c.args.types.now c.loop-i.i within)
    (at_map_map (λ x. x.ty) (ty_val_in c.args.self.now) c.args.arguments.now c.loop-i.i c.index-arguments-i.result void c.loop-i-test.true c.index-arguments-i.is)
    (at_map (ty_in c.args.self.now) c.args.types.now c.loop-i.i c.index-types-i.result void within c.index-types-i.is)
    (tells.0 c.if-not-same_ty.false) c.loop-i.invariant
