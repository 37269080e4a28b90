use Rattle.std.specs.Prelude.{IsTrue}
use Rattle.std.proofs.lemmas.Result.{IfOk-weaker}
use Rattle.ir_flow.specs.Around.{names_of, function_of}
use Rattle.ir_flow.proofs.Operands.{input_by_local}
use Rattle.ir_flow.proofs.around.Around.is_input_there.Goals as goal

pub returns-in-Local : goal.returns-in-Local
returns-in-Local c =
    IfOk-weaker c.is_local_there.result _ _
    (λ answer tells.
    input_by_local (names_of c.args.self.now) (function_of c.args.self.now) c.args.input.now c.in-Local.id (IsTrue answer) (cc) tells)
    c.is_local_there.ensures
