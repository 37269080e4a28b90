use Rattle.std.proofs.Common.{◌≡◌, ◌<◌, List, length, get_or, sym, ◌∙◌, ap, subst}
use Rattle.ir_tree.specs.ShapeOf.{named_ty_shape}
use Rattle.ir_tree.specs.declared.module.NamedTy.{NamedTy}
use Rattle.program_steps.proofs.Alike.{mapped_at, item_there}
use Rattle.program_steps.proofs.steps.lay_named.Goals as goal

pub lay-requires-clause-sized : goal.lay-requires-clause-sized
lay-requires-clause-sized c =
    let m = c.args.m.now in
    let t : NamedTy = c.named-item.result in
    let within : c.loop-named.named-index < length m.types.items =
    subst (λ (z : List NamedTy). c.loop-named.named-index < length z) c.loop-named.invariant.0 c.loop-named-test.true in
    let here : get_or m.types.items c.loop-named.named-index t ≡ t =
    sym (ap (λ (z : List NamedTy). get_or z c.loop-named.named-index t) c.loop-named.invariant.0) ∙ sym c.named-item.is in
    c.requires.sized c.loop-named.named-index (named_ty_shape m.names t)
    (mapped_at (named_ty_shape m.names) m.types.items c.loop-named.named-index t (item_there m.types.items c.loop-named.named-index t within here))
