use Rattle.std.proofs.Common.{ℕ, List, map, ap, ap₂, sym, ◌∙◌}
use Rattle.ir_model.specs.Values.{Value}
use Rattle.ir_model.specs.Programs.{Phi}
use Rattle.ir_model.specs.States.{value_of}
use Rattle.ir_model.specs.Steps.{input_from}
use Rattle.mem_cells.specs.declared.values.Value as code
use Rattle.mem_cells.specs.Shapes.{value_shape}
use Rattle.program_tables.specs.Shapes.{phi_shape}
use Rattle.ir_eval.specs.Shapes.{with_values, values_of}
use Rattle.ir_eval.specs.Written.{written}
use Rattle.ir_eval.proofs.Lists.{taken_written, results_are}
use Rattle.ir_eval.proofs.enter.take.Goals as goal

pub returns : goal.returns
returns c =
    let a = c.args.a.now in
    let phis = c.args.phis.now in
    let Taken : List code.Value → List Value = λ vs. map (λ (x : Phi). value_of (map value_shape vs) (input_from a.block x.inputs)) (map phi_shape phis) in
    c.write.ensures
    ∙ ap (with_values a)
    (ap₂ (λ (ids : List ℕ) (vs : List Value). written (values_of a) ids vs) (results_are phis) (c.in_ok-read.ensures ∙ ap Taken c.as_slice.ensures.value)
    ∙ sym (taken_written a.block (values_of a) (map phi_shape phis)))
