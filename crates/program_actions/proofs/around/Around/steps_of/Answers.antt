use Rattle.std.proofs.Common.{List, map, sym, ap, subst, ◌∙◌}
use Rattle.ir_tree.specs.ShapeOf.{ty_shape, ty_val_shape}
use Rattle.ir_rules.specs.Constants.{WalksBehind}
use Rattle.program_steps.specs.declared.index.Index.{Index}
use Rattle.program_steps.specs.Steps.{index_shape}
use Rattle.program_actions.specs.Around.{around_of, names_around}
use Rattle.program_actions.proofs.Parts.{numbers_same}
use Rattle.program_actions.proofs.around.Around.steps_of.Goals as goal

pub strides_of-requires-clause-walks : goal.strides_of-requires-clause-walks
strides_of-requires-clause-walks c =
    let a = c.args.self.now in
    let row = map (ty_val_shape (names_around a)) c.args.indices.now in
    let same = ap (λ (z : List Index). map index_shape z) c.deref.ensures.value ∙ c.in_ok-steps.ensures (names_around a) in
    subst (WalksBehind (around_of a).within.types (ty_shape (names_around a) c.args.ty.now)) (sym (numbers_same c.deref.result.now row same)) c.requires.walks
