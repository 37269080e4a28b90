use Rattle.std.proofs.Common.{vec_len}
use Rattle.ir_layout.proofs.order.next_unseen.Given as goal

abbrev pub decreases-loop-step : goal.decreases-loop-step
decreases-loop-step l = vec_len l.steps
