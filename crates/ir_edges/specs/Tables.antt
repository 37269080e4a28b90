-- Tables of the edges of a graph.
use Rattle.std.specs.Prelude.{◌≡◌, ◌↔◌, ◌⊎◌, ℕ, ◌<◌, List, length, Contains}
use Rattle.graph_paths.specs.Paths.{Leads}

-- rows say for each node of a graph from which nodes an edge leads to it: they are the graph with each edge turned round
pub record ArePredecessors (graph rows : List (List ℕ)) : Type 0 where
  pub long : length rows ≡ length graph
  pub each : (to from : ℕ) → to < length graph → Leads rows to from ↔ Leads graph from to

-- rows have got a node in each row of these numbers
pub record HaveNoted (from : ℕ) (to : List ℕ) (before after : List (List ℕ)) : Type 0 where
  pub long : length after ≡ length before
  pub each : (node x : ℕ) → node < length before → Leads after node x ↔ (Leads before node x ⊎ ((x ≡ from) × Contains to node))
