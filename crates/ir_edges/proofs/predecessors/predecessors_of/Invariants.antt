use Rattle.std.proofs.Common.{map}
use Rattle.ir_edges.proofs.Turned.{TurnedBelow}
use Rattle.ir_edges.proofs.predecessors.predecessors_of.Given as goal

abbrev pub invariant-loop-from : goal.invariant-loop-from
invariant-loop-from l = TurnedBelow (map (λ row. row.items) l.graph) (map (λ row. row.items) l.rows.items) l.from
