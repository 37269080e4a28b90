use Rattle.std.proofs.Common.{Option, None, ℕ, List, ap, sym, subst, ◌∙◌}
use Rattle.ir_model.specs.Values.{Answer, Poison}
use Rattle.ir_model.specs.Operations.{compute}
use Rattle.ir_model.specs.States.{after, goes_on}
use Rattle.ir_model.specs.Steps.{answered}
use Rattle.mem_cells.specs.declared.values.Value.{Value}
use Rattle.program_tables.specs.declared.operations.Operation.{Operation}
use Rattle.program_tables.specs.declared.operations.Operation.TheVariants.{Convert}
use Rattle.program_tables.specs.Shapes.{operation_shape}
use Rattle.ir_compute.specs.Operands.{operand_values}
use Rattle.ir_eval.specs.Shapes.{activation_shape, below, state_of}
use Rattle.ir_eval.specs.Turns.{IsTurn}
use Rattle.ir_eval.proofs.machine.Machine.compute.Goals as goal

-- a conversion has a value, and where nothing takes it the next state is the same whatever it is
pub returns-in-Convert-None : goal.returns-in-Convert-None
unfolding compute
returns-in-Convert-None c = λ input memory shows.
    let m = c.args.self.now in
    let vs = operand_values m.current.values.items c.args.operands.now in
    let Turned : Operation → Option ℕ → Type 0 = λ o given.
    IsTurn input c.go_on.result
    (answered (compute (operation_shape o) memory vs) given (activation_shape m.current) (below m) (state_of input memory m)) m.output.items c.go_on.new.self in
    let gone = subst
    (λ (given : Option ℕ). IsTurn input c.go_on.result
    (goes_on (after given Poison (activation_shape m.current)) (below m) (state_of input memory m)) m.output.items c.go_on.new.self)
    c.in-Convert-None.is-1 (c.go_on.ensures input memory shows) in
    subst (λ (o : Operation). Turned o c.args.given) (sym c.in-Convert-None.is-0)
    (subst (Turned (Convert c.in-Convert-None.conversion-0 c.in-Convert-None.from-0 c.in-Convert-None.to-0)) (sym c.in-Convert-None.is-1) gone)

pub returns-in-Ok : goal.returns-in-Ok
returns-in-Ok c = λ input memory shows.
    let m = c.args.self.now in
    let Turned : Answer → Type 0 = λ answer.
    IsTurn input c.go_on-in-Ok.result (answered answer c.args.given (activation_shape m.current) (below m) (state_of input memory m)) m.output.items c.go_on-in-Ok.new.self in
    subst Turned
    (c.in-Ok.ensures memory shows
    ∙ ap (λ (vs : List Value). compute (operation_shape c.args.operation.now) memory (operand_values vs c.args.operands.now)) c.as_slice.ensures.value)
    (c.go_on-in-Ok.ensures input memory shows)
