use Rattle.std.proofs.Common.{map, take}
use Rattle.ir_edges.specs.Tables.{HaveNoted}
use Rattle.ir_edges.proofs.predecessors.note_row.Given as goal

abbrev pub invariant-loop-node : goal.invariant-loop-node
invariant-loop-node l =
    HaveNoted l.from (take l.node-index l.to) (map (λ row. row.items) l.initial.rows.items) (map (λ row. row.items) l.rows.items)
