use Rattle.rv_machine.proofs.RunSoFar.{Progress}
use Rattle.rv_machine.proofs.runner.run.Given as goal

abbrev pub invariant-loop-done : goal.invariant-loop-done
invariant-loop-done l = Progress l.fn.steps l.initial.machine l.fn.flip l.done l.machine l.pending
