use Rattle.std.proofs.Common.{ℕ, List, map, ap, ap₂, ◌∙◌}
use Rattle.ir_tree.specs.ShapeOf.{case_shape}
use Rattle.ir_model.specs.Programs.{Case, Switch}
use Rattle.ir_program.specs.Operands.{program_case}
use Rattle.program_actions.specs.Around.{around_of, names_around}
use Rattle.program_actions.proofs.around.Around.switch.Goals as goal

pub returns : goal.returns
returns c =
    let a = c.args.self.now in
    let row = map (case_shape (names_around a)) c.args.row.now in
    ap₂ (λ (to : ℕ) (cases : List Case). Switch to cases) c.block_number.ensures
    (c.in_ok-cases.ensures ∙ ap (λ (w : ℕ). map (program_case (around_of a) w) row) (c.width_of.ensures (names_around a)))
