use Rattle.std.proofs.Common.{ℕ, ◌<◌}
use Rattle.ir_flow.specs.Around.{inputs_of}
use Rattle.ir_flow.specs.Phis.{IsLike}
use Rattle.ir_flow.proofs.around.Around.are_alike.Given as goal

abbrev pub invariant-loop-at : goal.invariant-loop-at
invariant-loop-at l = (k : ℕ) → k < l.at → IsLike (inputs_of l.self l.inputs) l.from l.places k
