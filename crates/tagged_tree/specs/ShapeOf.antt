-- The shape of a tree and of its operations.
use Rattle.tagged_tree.specs.TreeShape.{OpShape, binary, icmp, select, convert, freeze, get_element, TreeShape, leaf, literal, address, node, tree_row}
use Rattle.tagged_tree.specs.declared.tree.Op.{Op}
use Rattle.tagged_tree.specs.declared.tree.Op.TheVariants as op
use Rattle.tagged_tree.specs.declared.tree.Tree.{Tree}
use Rattle.tagged_tree.specs.declared.tree.Tree.TheOpen as tree
use Rattle.tagged_tree.specs.declared.tree.Tree.TheFolds.{fold-Tree}

-- an operation's shape
abbrev pub op_shape : Op → OpShape
op_shape (op.Binary operation flags bits) = binary operation flags bits
op_shape (op.Icmp predicate bits) = icmp predicate bits
op_shape (op.Select bits) = select bits
op_shape (op.Convert conversion before after) = convert conversion before after
op_shape (op.Freeze bits) = freeze bits
op_shape (op.Gep inbounds v) = get_element inbounds v.items

-- a tree, by the shapes of its children
abbrev pub tree_step : {T : Type 0} → tree.Tree-F T (TreeShape T) → TreeShape T
tree_step (tree.Leaf id tag) = leaf id.0 tag
tree_step (tree.Lit word tag) = literal word tag
tree_step (tree.Addr id offset tag) = address id.0 offset tag
tree_step (tree.Node o id v tag) = node (op_shape o) id.0 (tree_row v.items) tag

-- a tree's shape
abbrev pub tree_shape : {T : Type 0} → Tree T → TreeShape T
tree_shape {T} = fold-Tree T (TreeShape T) tree_step
