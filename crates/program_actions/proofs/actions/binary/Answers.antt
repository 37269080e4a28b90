use Rattle.std.proofs.Common.{ℕ, ap}
use Rattle.ir_model.specs.Operations as model
use Rattle.ir_model.specs.Programs as programs
use Rattle.program_actions.proofs.actions.binary.Goals as goal

pub returns : goal.returns
returns c names = ap (λ (w : ℕ). programs.Compute (model.Binary c.args.operation c.args.flags w)) (c.width_of.ensures names)
