use Rattle.std.proofs.Common.{◌++◌, ◌∷◌, [], List, ap, ap₂, sym, ◌∙◌}
use Rattle.ir_model.specs.States as model
use Rattle.mem_cells.specs.declared.values.Value.{Value}
use Rattle.program_tables.specs.Shapes.{program_shape}
use Rattle.ir_compute.specs.Operands.{operand_values}
use Rattle.ir_eval.specs.declared.activation.Activation.{Activation}
use Rattle.ir_eval.specs.Shapes.{activation_shape, state_of}
use Rattle.ir_eval.proofs.Stacks.{pushed}
use Rattle.ir_eval.proofs.machine.Machine.call.Goals as goal

pub returns : goal.returns
returns c = λ input memory shows.
    let m = c.args.self.now in
    let waiting : List Activation = m.waiting.items in
    let callee =
    c.in_ok-callee.ensures
    ∙ ap (λ (vs : List Value). model.entered (program_shape c.args.p.now) c.args.function (operand_values vs c.args.operands.now)) c.as_slice.ensures.value in
    let kept = c.in_ok-push.ensures.items ∙ ap (λ (a : Activation). waiting ++ a ∷ []) c.replace-caller.ensures.value in (
      memory,
      ap₂ (λ (a : model.Activation) (rest : List model.Activation). model.Continues (record (state_of input memory m) { stack = a ∷ rest }))
          (sym callee ∙ ap activation_shape (sym c.replace-caller.ensures.after))
          (sym (pushed activation_shape waiting c.push.new.self.items m.current kept)),
      shows,
    )
