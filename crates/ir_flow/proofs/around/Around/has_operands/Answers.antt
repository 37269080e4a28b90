use Rattle.std.proofs.Common.{Option, List, sym, subst}
use Rattle.std.specs.Prelude.{◌↔◌, IsTrue, IfOk}
use Rattle.ir_tree.specs.Shape.{PhiInShape}
use Rattle.ir_tree.specs.ShapeOf.{body_shape}
use Rattle.ir_proper.specs.FlowRules.{HasOperands}
use Rattle.ir_flow.specs.Around.{names_of, function_of}
use Rattle.ir_flow.proofs.Operands.{phi_operands, no_inputs}
use Rattle.ir_flow.proofs.around.Around.has_operands.Goals as goal

pub returns-in_ok-are_inputs_there-in-Phi : goal.returns-in_ok-are_inputs_there-in-Phi
returns-in_ok-are_inputs_there-in-Phi c =
    phi_operands (names_of c.args.self.now) (function_of c.args.self.now) c.args.block c.args.index c.args.body.now c.in-Phi.field-0 c.in-Phi.inputs
    c.deref.result.now c.deref-then-come.result.now c.in_ok-are_inputs_there-in-Phi.field-0 c.in-Phi.is c.deref.ensures.value c.deref-then-come.ensures.value
    (c.in_ok-come-in-Phi.ensures.0 c.if-come.true) c.in_ok-are_inputs_there-in-Phi.ensures

pub returns-in_default : goal.returns-in_default
returns-in_default c =
    let names = names_of c.args.self.now in
    let body = body_shape names c.args.body.now in
    subst (λ (o : Option (List PhiInShape)). IfOk c.are_operands_there.result (λ answer.
    IsTrue answer ↔ HasOperands (function_of c.args.self.now) c.args.block c.args.index body o)) (sym (no_inputs names c.args.body.now c.in_default.not-Phi))
    c.are_operands_there.ensures
