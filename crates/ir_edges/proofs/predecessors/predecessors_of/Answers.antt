use Rattle.std.proofs.Common.{ℕ, Vec, Global, arith}
use Rattle.ir_edges.proofs.Turned.{turned_next, turned_end}
use Rattle.ir_edges.proofs.predecessors.predecessors_of.Goals as goal

pub loop-from-preserved : goal.loop-from-preserved
loop-from-preserved c =
    turned_next (λ (row : Vec ℕ Global). row.items) c.args.graph.now c.loop-from.rows.items c.note_row.new.rows.items c.loop-from.from
    c.index-graph-from.result c.deref.result.now (omega arith) c.index-graph-from.is c.deref.ensures.value c.loop-from.invariant c.in_ok-note_row.ensures

pub returns : goal.returns
returns c = turned_end (λ (row : Vec ℕ Global). row.items) c.args.graph.now c.loop-from.rows.items c.loop-from.from (omega arith) c.loop-from.invariant
