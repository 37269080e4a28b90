use Rattle.std.proofs.Common.{map, refl}
use Rattle.tagged_tree.specs.ShapeOf.{tree_shape}
use Rattle.tagged_tree.proofs.Rows.{node_shape, erased_row-tree_row}
use Rattle.tagged_tree.proofs.retagging.+erase.Goals as goal

pub erase-returns-in_ok-copy-in-Node : goal.erase-returns-in_ok-copy-in-Node
erase-returns-in_ok-copy-in-Node g t c =
    let n = c.in-Node in
    rw (
      n.is,
      node_shape n.op n.id n.children n.field-3,
      node_shape c.in_ok-copy-in-Node.field-0 n.id c.in_ok-children-in-Node.children tt,
      c.in_ok-copy-in-Node.ensures,
      c.in_ok-children-in-Node.ensures,
      c.deref.ensures.value,
      erased_row-tree_row (map tree_shape n.children.items),
    ) refl
