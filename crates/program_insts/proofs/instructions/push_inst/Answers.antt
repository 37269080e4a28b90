use Rattle.std.proofs.Common.{List, sym, subst}
use Rattle.ir_tree.specs.ShapeOf.{ty_shape, body_shape}
use Rattle.ir_tree.specs.declared.module.Body.{Body}
use Rattle.ir_tree.specs.declared.module.PhiIn.{PhiIn}
use Rattle.ir_rules.specs.Instructions.{IsWellTyped}
use Rattle.program_actions.specs.Around.{around_of, names_around}
use Rattle.program_insts.specs.Numbers.{AreInputs}
use Rattle.program_insts.proofs.SoFar.{inputs_fit}
use Rattle.program_insts.proofs.instructions.push_inst.Goals as goal

pub push_phi-requires-clause-proper : goal.push_phi-requires-clause-proper
push_phi-requires-clause-proper c =
    let a = c.args.around.now in
    let t = ty_shape (names_around a) c.in-Phi.ty in
    let proper = subst (λ (b : Body). IsWellTyped (around_of a) (body_shape (names_around a) b)) c.in-Phi.is c.requires.proper in
    subst (λ (row : List PhiIn). AreInputs a t row) (sym c.deref.ensures.value) (inputs_fit a t c.in-Phi.row.items proper.1)
