use Rattle.std.proofs.Common.{List, ap, sym, subst}
use Rattle.ir_model.specs.MemoryFacts.{Carries}
use Rattle.ir_model.specs.Operations.{operand}
use Rattle.ir_typed_runs.specs.Kinds.{OfPointer, IsOfKind}
use Rattle.mem_cells.specs.Shown.{block_count}
use Rattle.program_tables.specs.declared.program.Operand.{Operand}
use Rattle.program_tables.specs.Shapes.{action_shape, instruction_shape, operation_shape}
use Rattle.ir_compute.specs.Operands.{operand_values}
use Rattle.ir_eval.specs.Computing.{Computes}
use Rattle.ir_eval.proofs.Fitting.{computing, loading, storing_value, storing_address, owning}
use Rattle.ir_eval.proofs.machine.Machine.step.Goals as goal

pub compute-requires-clause-fits : goal.compute-requires-clause-fits
compute-requires-clause-fits c =
    let m = c.args.self.now in
    let x = c.in-Some.instruction.now in
    subst (λ (xs : List Operand). Computes (block_count m.mem) (operation_shape c.in-Compute.operation) x.result (operand_values m.current.values.items xs))
    (sym c.as_slice-operands.ensures.value)
    (computing c.args.p.now c.args.input.now m c.requires (instruction_shape x) (operation_shape c.in-Compute.operation)
    (sym c.in-Some.ensures.found) (ap action_shape c.in-Compute.is))

pub load-requires-clause-address : goal.load-requires-clause-address
load-requires-clause-address c =
    let m = c.args.self.now in
    let x = c.in-Some.instruction.now in
    subst (λ (xs : List Operand). IsOfKind (block_count m.mem) OfPointer (operand 0 (operand_values m.current.values.items xs)))
    (sym c.as_slice-operands.ensures.value)
    (loading c.args.p.now c.args.input.now m c.requires (instruction_shape x) c.in-Load.access (sym c.in-Some.ensures.found) (ap action_shape c.in-Load.is))

pub store-requires-clause-value : goal.store-requires-clause-value
store-requires-clause-value c =
    let m = c.args.self.now in
    let x = c.in-Some.instruction.now in
    subst (λ (xs : List Operand). Carries c.in-Store.access (operand 0 (operand_values m.current.values.items xs)))
    (sym c.as_slice-operands.ensures.value)
    (storing_value c.args.p.now c.args.input.now m c.requires (instruction_shape x) c.in-Store.access (sym c.in-Some.ensures.found) (ap action_shape c.in-Store.is))

pub store-requires-clause-address : goal.store-requires-clause-address
store-requires-clause-address c =
    let m = c.args.self.now in
    let x = c.in-Some.instruction.now in
    subst (λ (xs : List Operand). IsOfKind (block_count m.mem) OfPointer (operand 1 (operand_values m.current.values.items xs)))
    (sym c.as_slice-operands.ensures.value)
    (storing_address c.args.p.now c.args.input.now m c.requires (instruction_shape x) c.in-Store.access (sym c.in-Some.ensures.found) (ap action_shape c.in-Store.is))

pub return_value-requires-clause-owned : goal.return_value-requires-clause-owned
return_value-requires-clause-owned c = owning c.args.p.now c.args.input.now c.args.self.now c.requires

pub return_value-requires-in-Return-clause-owned : goal.return_value-requires-in-Return-clause-owned
return_value-requires-in-Return-clause-owned c = owning c.args.p.now c.args.input.now c.args.self.now c.requires
