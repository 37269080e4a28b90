use Rattle.ir_check.proofs.Mains.{NoneBefore}
use Rattle.ir_check.proofs.main_function.some_is_main.Given as goal

abbrev pub invariant-loop-f : goal.invariant-loop-f
invariant-loop-f l = NoneBefore l.names l.functions l.f-index
