use Rattle.std.proofs.Common.{map}
use Rattle.std.specs.List.{AllByRecursion}
use Rattle.ir_rules.specs.Instructions.{IsStep}
use Rattle.ir_type_tests.proofs.Rests.{RestDecides}
use Rattle.ir_check_insts.specs.Surroundings.{around_shape, ty_val_in}
use Rattle.ir_check_insts.proofs.around.Around.are_steps.Given as goal

abbrev pub invariant-loop-index : goal.invariant-loop-index
invariant-loop-index l = RestDecides (IsStep (around_shape l.self)) (ty_val_in l.self) l.indices l.index-index (AllByRecursion (IsStep (around_shape l.self)) (map (ty_val_in l.self) l.indices))
