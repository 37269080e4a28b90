use Rattle.std.proofs.Common.{◌∷◌, [], ◌++◌, arith, sym, ap, ◌∙◌}
use Rattle.std.proofs.lemmas.List.FromFn.{map-range_with_len_more}
use Rattle.use_chain.specs.Kept.{lone_head}
use Rattle.use_chain.proofs.chain.lone_heads.Goals as goal

pub loop-v-preserved : goal.loop-v-preserved
loop-v-preserved c =
    let v = c.loop-v.v in
    c.in_ok-push.ensures.items ∙ ap (λ xs. xs ++ lone_head v ∷ []) c.loop-v.invariant ∙ sym (map-range_with_len_more lone_head 0 v v (omega arith))
