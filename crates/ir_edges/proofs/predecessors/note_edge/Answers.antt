use Rattle.std.proofs.Common.{ℕ, Vec, Global, arith}
use Rattle.ir_edges.proofs.Turned.{noted_at}
use Rattle.ir_edges.proofs.predecessors.note_edge.Goals as goal

pub returns-in_ok-note : goal.returns-in_ok-note
returns-in_ok-note c =
    noted_at (λ (row : Vec ℕ Global). row.items) c.args.from c.args.to c.args.rows.now.items c.index_mut.result.now c.note.new.row (omega arith)
    c.index_mut.ensures.value c.in_ok-note.ensures
