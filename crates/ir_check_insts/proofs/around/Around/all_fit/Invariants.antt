use Rattle.std.proofs.Common.{map}
use Rattle.std.specs.List.{AllByRecursion}
use Rattle.ir_rules.specs.Instructions.{Fits}
use Rattle.ir_type_tests.proofs.Rests.{RestDecides}
use Rattle.ir_check_insts.specs.Surroundings.{around_shape, ty_val_in}
use Rattle.ir_check_insts.proofs.around.Around.all_fit.Given as goal

abbrev pub invariant-loop-x : goal.invariant-loop-x
invariant-loop-x l = RestDecides (Fits (around_shape l.self)) (ty_val_in l.self) l.xs l.x-index (AllByRecursion (Fits (around_shape l.self)) (map (ty_val_in l.self) l.xs))
