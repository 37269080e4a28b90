use Rattle.done_flow.proofs.Edges as edges
use Rattle.done_flow.proofs.edges_are_done.Goals as goal

pub returns : goal.returns
returns c = edges.edges
