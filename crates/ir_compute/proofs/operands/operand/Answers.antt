use Rattle.std.proofs.Common.{sym, ◌∙◌}
use Rattle.ir_compute.proofs.OperandsFound.{operand_found}
use Rattle.ir_compute.proofs.operands.operand.Goals as goal

pub returns-in-Some : goal.returns-in-Some
returns-in-Some c =
    let found = c.in-Some.ensures.lookup in
    c.value_of.ensures
    ∙ sym (operand_found c.args.values.now c.args.operands.now c.args.k c.in-Some.operand.now found.3.0 (found.3.1 c.in-Some.operand.now))
