use Rattle.std.proofs.Common.{map}
use Rattle.std.specs.List.{AllByRecursion}
use Rattle.ir_tree.specs.ShapeOf.{phi_in_shape}
use Rattle.ir_rules.specs.Instructions.{HasTy}
use Rattle.ir_type_tests.proofs.Rests.{RestDecides}
use Rattle.ir_check_insts.specs.Surroundings.{names_of, around_shape, ty_in}
use Rattle.ir_check_insts.proofs.around.Around.inputs_have.Given as goal

abbrev pub invariant-loop-input : goal.invariant-loop-input
invariant-loop-input l = RestDecides (λ i. HasTy (around_shape l.self) i.val (ty_in l.self l.ty)) (phi_in_shape (names_of l.self)) l.inputs l.input-index (AllByRecursion (λ i. HasTy (around_shape l.self) i.val (ty_in l.self l.ty)) (map (phi_in_shape (names_of l.self)) l.inputs))
