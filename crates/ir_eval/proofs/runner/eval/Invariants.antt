use Rattle.ir_eval.proofs.RunSoFar.{HasRun}
use Rattle.ir_eval.proofs.runner.eval.Given as goal

abbrev pub invariant-loop-done : goal.invariant-loop-done
invariant-loop-done l = HasRun l.p l.input l.fn.steps l.done l.machine
