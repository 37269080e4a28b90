-- What code has around an instruction whose flow is looked at.
use Rattle.std.specs.Prelude.{◌≡◌, ℕ, true, List, [], length, map, Some, slice_get, unwrap_or}
use Rattle.std.specs.List.{IsDistinct}
use Rattle.std.specs.Str.{bytes_eq}
use Rattle.ir_tree.specs.Known.{function_known}
use Rattle.ir_tree.specs.Shape.{PhiInShape, FunctionShape}
use Rattle.ir_tree.specs.ShapeOf.{phi_in_shape, function_shape}
use Rattle.ir_tree.specs.declared.module.PhiIn.{PhiIn}
use Rattle.ir_tree.specs.declared.parsed.Parsed.{Parsed}
use Rattle.ir_names.specs.Tables.{AreNamesIn}
use Rattle.ir_proper.specs.Edges.{successors}
use Rattle.graph_paths.specs.Marks.{graph_of}
use Rattle.graph_paths.specs.Answers.{ArePathsOf}
use Rattle.ir_edges.specs.Tables.{ArePredecessors}
use Rattle.ir_flow.specs.declared.edges.Edges.{Edges}
use Rattle.ir_flow.specs.declared.around.Around.{Around}

-- tables of the edges of a function
pub record AreEdgesOf (f : FunctionShape) (e : Edges) : Type 0 where
  pub forth : graph_of e.successors.items ≡ successors f
  pub back : ArePredecessors (successors f) (graph_of e.predecessors.items)
  pub paths : ArePathsOf (graph_of e.successors.items) e.paths

-- the names of the module around an instruction
abbrev pub names_of : Around → List (List ℕ)
names_of a = a.module.now.names

-- the shape of the function around an instruction
abbrev pub function_of : Around → FunctionShape
function_of a = function_shape (names_of a) a.function.now

-- the shapes of inputs of a phi
abbrev pub inputs_of : Around → List PhiIn → List PhiInShape
inputs_of a inputs = map (phi_in_shape (names_of a)) inputs

-- the predecessors of a block, as the tables have them
abbrev pub predecessors_in : Around → ℕ → List ℕ
predecessors_in a block = unwrap_or (slice_get (graph_of a.edges.now.predecessors.items) block) []

-- all names are known and distinct, and each table is that of the function
pub record IsAround (a : Around) : Type 0 where
  pub distinct : IsDistinct bytes_eq (names_of a)
  pub known : function_known (length (names_of a)) a.function.now ≡ true
  pub names : AreNamesIn (names_of a) a.function.now a.names.now
  pub edges : AreEdgesOf (function_of a) a.edges.now

-- it is what is around the instructions of the function of this number, in a module that was read
pub record IsAroundIn (p : Parsed) (k : ℕ) (a : Around) : Type 0 where
  pub within : a.module.now ≡ p.«module»
  pub function : slice_get p.«module».functions.items k ≡ Some a.function.now
