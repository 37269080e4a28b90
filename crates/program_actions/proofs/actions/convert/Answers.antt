use Rattle.std.proofs.Common.{ℕ, ap₂}
use Rattle.ir_model.specs.Operations as model
use Rattle.ir_model.specs.Programs as programs
use Rattle.program_actions.proofs.actions.convert.Goals as goal

pub returns : goal.returns
returns c names =
    ap₂ (λ (from to : ℕ). programs.Compute (model.Convert c.args.conversion from to)) (c.width_of.ensures names) (c.width_of-2.ensures names)
