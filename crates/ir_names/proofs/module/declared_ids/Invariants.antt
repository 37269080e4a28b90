use Rattle.std.proofs.Common.{◌≡◌, map, take}
use Rattle.ir_names.specs.Numbers.{declared_id}
use Rattle.ir_names.proofs.module.declared_ids.Given as goal

abbrev pub invariant-loop-d : goal.invariant-loop-d
invariant-loop-d l = l.ids.items ≡ map (declared_id l.names) (take l.d-index l.declares)
