-- What a tree with tags is apart from how its memory is kept: its shape.
use Rattle.std.specs.Prelude.{ℕ, Bool, List, [], ◌∷◌, ◌++◌, Option}
use Rattle.ir_tree.specs.declared.module.Bin.{Bin}
use Rattle.ir_tree.specs.declared.module.Flags.{Flags}
use Rattle.ir_tree.specs.declared.module.Pred.{Pred}
use Rattle.ir_tree.specs.declared.module.Conv.{Conv}
use Rattle.tagged_tree.specs.declared.tree.Step.{Step}

-- an operation
pub data OpShape : Type 0 where
  binary : (operation : Bin) (flags : Flags) (bits : ℕ) → OpShape
  icmp : (predicate : Pred) (bits : Option ℕ) → OpShape
  select : (bits : Option ℕ) → OpShape
  convert : (conversion : Conv) (before after : ℕ) → OpShape
  freeze : (bits : Option ℕ) → OpShape
  get_element : (inbounds : Bool) (steps : List Step) → OpShape

mutual
  -- a tree with tags of a type
  pub data TreeShape (T : Type 0) : Type 0 where
    leaf : (value : ℕ) (tag : T) → TreeShape T
    literal : (word : ℕ) (tag : T) → TreeShape T
    address : (global offset : ℕ) (tag : T) → TreeShape T
    node : (operation : OpShape) (value : ℕ) (children : TreeShapes T) (tag : T) → TreeShape T

  -- trees in a row
  pub data TreeShapes (T : Type 0) : Type 0 where
    no_trees : TreeShapes T
    trees : (first : TreeShape T) (rest : TreeShapes T) → TreeShapes T

-- the trees of a list
abbrev pub tree_row : {T : Type 0} → List (TreeShape T) → TreeShapes T
tree_row [] = no_trees
tree_row (t ∷ ts) = trees t (tree_row ts)

abbrev mutual
  -- the tree with every tag `()`
  pub erased : {T : Type 0} → TreeShape T → TreeShape (Unit {0})
  erased (leaf value tag) = leaf value tt
  erased (literal word tag) = literal word tt
  erased (address global offset tag) = address global offset tt
  erased (node operation value children tag) = node operation value (erased_row children) tt

  -- the trees of a row with every tag `()`
  pub erased_row : {T : Type 0} → TreeShapes T → TreeShapes (Unit {0})
  erased_row no_trees = no_trees
  erased_row (trees first rest) = trees (erased first) (erased_row rest)

abbrev mutual
  -- the tags of a tree: that of the root, then those of the children from left to right
  pub tags : {T : Type 0} → TreeShape T → List T
  tags (leaf value tag) = tag ∷ []
  tags (literal word tag) = tag ∷ []
  tags (address global offset tag) = tag ∷ []
  tags (node operation value children tag) = tag ∷ row_tags children

  -- the tags of trees in a row, from left to right
  pub row_tags : {T : Type 0} → TreeShapes T → List T
  row_tags no_trees = []
  row_tags (trees first rest) = tags first ++ row_tags rest
