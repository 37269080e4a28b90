use Rattle.std.proofs.Common.{◌≡◌, List, Some, sym, ◌∙◌, arith}
use Rattle.std.specs.Prelude.{IsTrue}
use Rattle.std.proofs.lemmas.Result.{IfOk-weaker}
use Rattle.ir_tree.specs.Shape.{PhiInShape}
use Rattle.ir_tree.specs.ShapeOf.{inst_shape}
use Rattle.ir_proper.specs.FlowRules.{phi_inputs}
use Rattle.ir_flow.specs.Around.{names_of, function_of}
use Rattle.ir_flow.proofs.Operands.{flow_by_operands, is_no_phi}
use Rattle.ir_flow.proofs.around.Around.has_proper_flow.Goals as goal
use Rattle.ir_flow.proofs.around.Around.has_proper_flow.Goals.{else-block-eq0-via-then-block-eq0+else-is_phi, else-block-eq0-via-else-block-eq0}

pub returns : goal.returns
returns c =
    let names = names_of c.args.self.now in
    let x = inst_shape names c.args.inst.now in
    let no_first_phi : (inputs : List PhiInShape) → phi_inputs x.body ≡ Some inputs → c.args.block ≡ 0 → ⊥ =
    λ inputs e first. elim c.else-block-eq0.branch [
      | else-block-eq0-via-then-block-eq0+else-is_phi w ↦
          is_no_phi (phi_inputs x.body) inputs (sym (w.is_phi.ensures names) ∙ w.if-is_phi.false) e
      | else-block-eq0-via-else-block-eq0 w ↦ absurd (omega arith)
    ] in
    IfOk-weaker c.has_operands.result _ _
    (λ answer tells.
    flow_by_operands (function_of c.args.self.now) c.args.block c.args.index x (IsTrue answer) (c.in_ok-leads_on.ensures.0 c.if-not-branch.false) no_first_phi
    tells)
    c.has_operands.ensures
