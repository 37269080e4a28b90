-- How many nodes and leaves trees have.
use Rattle.std.proofs.Common.{◌≡◌, ℕ, zero, suc, ◌+◌, ◌<◌, ◌≤◌, List, [], ◌∷◌, map, length, get_or, arith, refl, Vec}
use Rattle.std.specs.declared.alloc.Global.{Global}
use Rattle.ir_tree.specs.declared.module.ValueId.{ValueId}
use Rattle.tagged_tree.specs.TreeShape.{TreeShape, leaf, literal, address, node, TreeShapes, no_trees, trees, tree_row}
use Rattle.tagged_tree.specs.ShapeOf.{tree_shape}
use Rattle.tagged_tree.specs.declared.tree.Op.{Op}
use Rattle.tagged_tree.specs.declared.tree.Tree.{Tree}
use Rattle.tagged_tree.specs.declared.tree.Tree.TheVariants as variants
use Rattle.tagged_tree.proofs.Rows.{node_shape}

unfoldable mutual
  -- the nodes and leaves of a tree
  pub tag_count : {T : Type 0} → TreeShape T → ℕ
  tag_count (leaf value tag) = 1
  tag_count (literal word tag) = 1
  tag_count (address global offset tag) = 1
  tag_count (node operation value children tag) = 1 + row_count children

  -- those of trees in a row
  pub row_count : {T : Type 0} → TreeShapes T → ℕ
  row_count no_trees = 0
  row_count (trees first rest) = tag_count first + row_count rest

-- a node has one more than its children
pub tag_count-Node : {T : Type 0} (t : Tree T) (op : Op) (id : ValueId) (v : Vec (Tree T) Global) (tag : T) → t ≡ variants.Node op id v tag
    → tag_count (tree_shape t) ≡ 1 + row_count (tree_row (map tree_shape v.items))
unfolding tag_count
tag_count-Node t op id v tag is = rw (is, node_shape op id v tag) refl

-- a tree of a list has no more than the list
pub tag_count-at : {T : Type 0} (ts : List (Tree T)) (i : ℕ) (d : Tree T) → i < length ts
    → tag_count (tree_shape (get_or ts i d)) ≤ row_count (tree_row (map tree_shape ts))
unfolding tag_count
tag_count-at [] i d h = absurd (omega arith)
tag_count-at (t ∷ ts) zero d h = omega arith
tag_count-at (t ∷ ts) (suc i) d h = let rest : tag_count (tree_shape (get_or ts i d)) ≤ row_count (tree_row (map tree_shape ts)) = tag_count-at ts i d (omega arith) in omega arith
