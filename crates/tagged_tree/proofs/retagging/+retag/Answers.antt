use Rattle.std.proofs.Common.{arith, refl, sym, ◌∙◌, take, ◌≡◌, ◌+◌, ◌++◌, ◌∷◌, [], ap}
use Rattle.std.proofs.lemmas.List.{take_more}
use Rattle.tagged_tree.proofs.Counts.{tag_count-Node, tag_count-at}
use Rattle.tagged_tree.proofs.Rows.{node_shape, same_rows, Retagged-push}
use Rattle.tagged_tree.proofs.retagging.+retag.Goals as goal

pub retag-retag_all-requires : goal.retag-retag_all-requires
retag-retag_all-requires g t c κs within =
    let n = c.in-Node in
    let more = tag_count-Node c.args.tree.now n.op n.id n.children n.old n.is in
    (rw c.deref.ensures.value (omega (arith, more, c.decreases)), within)

pub retag_all-retag-requires : goal.retag_all-retag-requires
retag_all-retag-requires g t c κs within =
    let less = tag_count-at c.args.row.now c.loop-tree.tree-index c.tree-item.result c.loop-tree-test.true in
    (rw c.tree-item.is (omega (arith, less, c.decreases)), within)

pub retag-returns-in_ok-copy-in-Node-clause-erased : goal.retag-returns-in_ok-copy-in-Node-clause-erased
retag-returns-in_ok-copy-in-Node-clause-erased g t c =
    let n = c.in-Node in
    let below = same_rows _ _ c.in_ok-children-in-Node.ensures.erased in
    rw (
      n.is,
      node_shape n.op n.id n.children n.old,
      node_shape c.in_ok-copy-in-Node.field-0 n.id c.in_ok-children-in-Node.children c.tag-tag.result,
      c.in_ok-copy-in-Node.ensures,
      below,
      c.deref.ensures.value,
    ) refl

pub retag_all-loop-tree-preserved : goal.retag_all-loop-tree-preserved
retag_all-loop-tree-preserved g t c =
    let e = c.in_ok-retag.ensures in
    let row = c.args.row.now in
    let i = c.loop-tree.tree-index in
    let more = Retagged-push g.R.Retag.leads c.args.by.now c.loop-tree.by c.retag.new.by (take i row) c.loop-tree.done.items c.tree-item.result c.in_ok-retag.field-0
    c.loop-tree.invariant e.erased e.tags in
    let taken : take (i + 1) row ≡ take i row ++ c.tree-item.result ∷ [] =
    take_more row i c.tree-item.result c.loop-tree-test.true ∙ ap (λ x. take i row ++ x ∷ []) (sym c.tree-item.is) in
    rw (taken, c.in_ok-push.ensures.items) more
