use Rattle.std.proofs.Common.{map, take}
use Rattle.ir_tree.specs.ShapeOf.{global_shape, module_shape}
use Rattle.ir_limits.specs.Sums.{HaveSum, IsTold}
use Rattle.ir_limits.specs.Globals.{GlobalTakes}
use Rattle.ir_limits.proofs.globals.room_of_globals.Given as goal

abbrev pub invariant-loop-g : goal.invariant-loop-g
invariant-loop-g l = IsTold (HaveSum (GlobalTakes (module_shape l.m).types) (map (global_shape l.m.names) (take l.g-index l.m.globals.items))) l.total
