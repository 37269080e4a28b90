use Rattle.std.proofs.Common.{sym, ap, ◌∙◌}
use Rattle.ir_tree.specs.ShapeOf.{body_shape}
use Rattle.ir_tree.specs.declared.module.Body.{Body}
use Rattle.ir_model.specs.Programs.{Load, Store}
use Rattle.ir_program.specs.Operands.{action_of}
use Rattle.program_actions.specs.Around.{around_of, names_around}
use Rattle.program_actions.proofs.around.Around.action_of.Goals as goal

pub returns-in-Binary : goal.returns-in-Binary
returns-in-Binary c =
    let a = c.args.self.now in
    c.binary.ensures (names_around a) ∙ sym (ap (λ (b : Body). action_of (around_of a) (body_shape (names_around a) b)) c.in-Binary.is)

pub returns-in-Convert : goal.returns-in-Convert
returns-in-Convert c =
    let a = c.args.self.now in
    c.convert.ensures (names_around a) ∙ sym (ap (λ (b : Body). action_of (around_of a) (body_shape (names_around a) b)) c.in-Convert.is)

pub returns-in-Load : goal.returns-in-Load
returns-in-Load c =
    let a = c.args.self.now in
    ap Load (c.access_of.ensures (names_around a)) ∙ sym (ap (λ (b : Body). action_of (around_of a) (body_shape (names_around a) b)) c.in-Load.is)

pub returns-in-Store : goal.returns-in-Store
returns-in-Store c =
    let a = c.args.self.now in
    ap Store (c.access_of-in-Store.ensures (names_around a)) ∙ sym (ap (λ (b : Body). action_of (around_of a) (body_shape (names_around a) b)) c.in-Store.is)
