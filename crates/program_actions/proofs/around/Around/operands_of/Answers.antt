use Rattle.std.proofs.Common.{◌≡◌, List, true, length, sym, subst}
use Rattle.ir_tree.specs.Known.{body_known}
use Rattle.ir_tree.specs.ShapeOf.{body_shape}
use Rattle.ir_tree.specs.declared.module.Body.{Body}
use Rattle.ir_tree.specs.declared.module.TyVal.{TyVal}
use Rattle.ir_tree.proofs.Grows.{and_left, and_right}
use Rattle.ir_rules.specs.Instructions.{IsWellTyped}
use Rattle.program_actions.specs.Around.{around_of, names_around, AllFit}
use Rattle.program_actions.proofs.Parts.{all_fit, steps_fit}
use Rattle.program_actions.proofs.around.Around.operands_of.Goals as goal

pub three-requires-clause-met_names : goal.three-requires-clause-met_names
three-requires-clause-met_names c =
    let known = subst (λ (b : Body). body_known (length (names_around c.args.self.now)) b ≡ true) c.in-Select.is c.requires.names in
    and_right _ _ (and_left _ _ known)

pub three-requires-clause-unmet_names : goal.three-requires-clause-unmet_names
three-requires-clause-unmet_names c =
    let known = subst (λ (b : Body). body_known (length (names_around c.args.self.now)) b ≡ true) c.in-Select.is c.requires.names in
    and_right _ _ known

pub walked-requires-clause-proper : goal.walked-requires-clause-proper
walked-requires-clause-proper c =
    let a = c.args.self.now in
    let proper = subst (λ (b : Body). IsWellTyped (around_of a) (body_shape (names_around a) b)) c.in-Gep.is c.requires.proper in
    subst (λ (row : List TyVal). AllFit a row) (sym c.deref.ensures.value) (steps_fit a c.in-Gep.indices.items proper.2)

pub typed_operands-requires-clause-proper : goal.typed_operands-requires-clause-proper
typed_operands-requires-clause-proper c =
    let a = c.args.self.now in
    let proper = subst (λ (b : Body). IsWellTyped (around_of a) (body_shape (names_around a) b)) c.in-Call.is c.requires.proper in
    subst (λ (row : List TyVal). AllFit a row) (sym c.deref-in-Call.ensures.value) (all_fit a c.in-Call.arguments.items proper.4)
