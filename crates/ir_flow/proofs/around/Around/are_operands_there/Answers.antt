use Rattle.std.proofs.Common.{map, ◌∙◌, ap}
use Rattle.std.specs.Prelude.{IsTrue}
use Rattle.std.proofs.lemmas.Result.{IfOk-weaker}
use Rattle.ir_tree.specs.ShapeOf.{name_shape, body_shape}
use Rattle.ir_flow.specs.Around.{names_of, function_of}
use Rattle.ir_flow.proofs.Operands.{operands_there}
use Rattle.ir_flow.proofs.around.Around.are_operands_there.Goals as goal

pub returns : goal.returns
returns c =
    let names = names_of c.args.self.now in
    IfOk-weaker c.are_names_there.result _ _
    (λ answer tells.
    operands_there (function_of c.args.self.now) c.args.block c.args.index (body_shape names c.args.body.now) (map (name_shape names) c.deref.result.now)
    (IsTrue answer) (ap (map (name_shape names)) c.deref.ensures.value ∙ c.in_ok-ids.ensures.shape names) tells)
    c.are_names_there.ensures
