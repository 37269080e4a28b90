use Rattle.std.proofs.Common.{map, take}
use Rattle.std.specs.Ordering.{nat_cmp}
use Rattle.std.specs.BTreeSet.{contains}
use Rattle.ir_rules.specs.Instructions.{bits_of}
use Rattle.ir_type_tests.proofs.Apart.{HasSeen}
use Rattle.ir_type_tests.proofs.cases.are_apart.Given as goal

abbrev pub invariant-loop-case : goal.invariant-loop-case
invariant-loop-case l = HasSeen (map (λ c. bits_of l.width c.value) (take l.case-index l.cases)) (contains nat_cmp l.seen)
