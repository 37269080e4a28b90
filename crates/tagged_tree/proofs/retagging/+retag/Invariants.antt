use Rattle.std.proofs.Common.{◌≡◌, map, take, ◌*◌, ◌+◌}
use Rattle.tagged_tree.specs.Runs.{RunOf}
use Rattle.tagged_tree.specs.TreeShape.{erased, row_tags, tree_row}
use Rattle.tagged_tree.specs.ShapeOf.{tree_shape}
use Rattle.tagged_tree.proofs.Counts.{tag_count, row_count}
use Rattle.tagged_tree.proofs.retagging.+retag.Given as goal

abbrev pub invariant-retag_all-loop-tree : goal.invariant-retag_all-loop-tree
invariant-retag_all-loop-tree g l = (map erased (map tree_shape l.done.items) ≡ map erased (map tree_shape (take l.tree-index l.row)))
    × RunOf g.R.Retag.leads l.fn.by (row_tags (tree_row (map tree_shape (take l.tree-index l.row))))
    (row_tags (tree_row (map tree_shape l.done.items))) l.by

abbrev pub decreases-retag : goal.decreases-retag
decreases-retag g l = 2 * tag_count (tree_shape l.tree.now)

abbrev pub decreases-retag_all : goal.decreases-retag_all
decreases-retag_all g l = 2 * row_count (tree_row (map tree_shape l.row.now)) + 1
