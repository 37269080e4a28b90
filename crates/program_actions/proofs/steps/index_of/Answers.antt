use Rattle.std.proofs.Common.{ℕ, ℤ, Option, ap₂}
use Rattle.ir_program.specs.Strides.{Index}
use Rattle.program_actions.proofs.steps.index_of.Goals as goal

pub returns : goal.returns
returns c names =
    let make : ℕ → Option ℤ → Index = λ width number. record { width = width; number = number } in
    ap₂ make (c.width_of.ensures names) (c.number_of.ensures names)
