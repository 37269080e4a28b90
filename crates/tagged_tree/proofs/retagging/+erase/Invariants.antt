use Rattle.std.proofs.Common.{◌≡◌, map, take}
use Rattle.tagged_tree.specs.TreeShape.{erased}
use Rattle.tagged_tree.specs.ShapeOf.{tree_shape}
use Rattle.tagged_tree.proofs.retagging.+erase.Given as goal

abbrev pub invariant-erase_all-loop-tree : goal.invariant-erase_all-loop-tree
invariant-erase_all-loop-tree g l = map tree_shape l.plain.items ≡ map erased (map tree_shape (take l.tree-index l.row))
