use Rattle.std.proofs.Common.{ℕ, List, Vec, Global, map, arith}
use Rattle.ir_edges.proofs.Turned.{noted_more}
use Rattle.ir_edges.proofs.predecessors.note_row.Goals as goal

pub loop-node-preserved : goal.loop-node-preserved
loop-node-preserved c =
    let rows_of = λ (rows : List (Vec ℕ Global)). map (λ (row : Vec ℕ Global). row.items) rows in
    noted_more c.args.from c.args.to.now c.loop-node.node-index _ (rows_of c.args.rows.now.items) (rows_of c.loop-node.rows.items)
    (rows_of c.note_edge.new.rows.items) (omega arith) c.loop-node.invariant c.in_ok-note_edge.ensures
