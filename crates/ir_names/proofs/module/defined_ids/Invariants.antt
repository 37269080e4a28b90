use Rattle.std.proofs.Common.{◌≡◌, map, take}
use Rattle.ir_names.specs.Numbers.{defined_id}
use Rattle.ir_names.proofs.module.defined_ids.Given as goal

abbrev pub invariant-loop-f : goal.invariant-loop-f
invariant-loop-f l = l.ids.items ≡ map (defined_id l.names) (take l.f-index l.functions)
