-- When the flow of a function is proper: its branches, its phis, and the values that each instruction uses.
use Rattle.std.specs.Prelude.{◌≡◌, ℕ, List, Option, Some, None, slice_get, Contains}
use Rattle.ir_tree.specs.Shape.{local, PhiInShape, BodyShape, phi, binary, icmp, select, convert, freeze, alloca, load, store, get_element, call, jump, branch, switch, return_void, return_value, unreachable, InstShape, FunctionShape, ModuleShape}
use Rattle.ir_tree.specs.ShapeOf.{module_shape}
use Rattle.ir_tree.specs.declared.parsed.Parsed.{Parsed}
use Rattle.ir_rules.specs.declared.Site.{Site}
use Rattle.ir_rules.specs.Values.{block_of, inst_at}
use Rattle.ir_rules.specs.Uses.{as_value, body_uses}
use Rattle.ir_rules.specs.Places.{inst_at_place, spot_of}
use Rattle.ir_proper.specs.Edges.{targets, Precedes}
use Rattle.ir_proper.specs.Availability.{site_of, IsThere, IsThereAtEnd}

-- a phi's inputs come from the predecessors of its block: each input names one, each predecessor is named, and two inputs that name the same
-- one are written the same
pub record ComeFromPredecessors (f : FunctionShape) (block : ℕ) (inputs : List PhiInShape) : Type 0 where
  pub each : (k : ℕ) (x : PhiInShape) → slice_get inputs k ≡ Some x → (from : ℕ) × (block_of f x.from ≡ Some from) × Precedes f from block
  pub all : (from : ℕ) → Precedes f from block → (k : ℕ) × (x : PhiInShape) × (slice_get inputs k ≡ Some x) × (block_of f x.from ≡ Some from)
  pub same : (j k from : ℕ) (x y : PhiInShape) → slice_get inputs j ≡ Some x → slice_get inputs k ≡ Some y → block_of f x.from ≡ Some from
      → block_of f y.from ≡ Some from → x.val ≡ y.val

-- each value that a phi takes is there at the end of the block that it comes from
abbrev pub AreThereAtEnds : FunctionShape → List PhiInShape → Type 0
AreThereAtEnds f inputs = (k from : ℕ) (x : PhiInShape) (name : List ℕ) (site : Site) → slice_get inputs k ≡ Some x → x.val ≡ local name
    → site_of f name ≡ Some site → block_of f x.from ≡ Some from → IsThereAtEnd f site from

-- each value that an instruction uses is there
abbrev pub AreThereAt : FunctionShape → ℕ → ℕ → BodyShape → Type 0
AreThereAt f b i body = (name : List ℕ) (site : Site) → Contains (body_uses body) (as_value name) → site_of f name ≡ Some site → IsThere f site b i

-- the inputs of an instruction that is a phi
abbrev pub phi_inputs : BodyShape → Option (List PhiInShape)
phi_inputs (phi ty inputs) = Some inputs
phi_inputs (binary operation flags ty left right) = None
phi_inputs (icmp predicate ty left right) = None
phi_inputs (select condition met unmet) = None
phi_inputs (convert conversion ty val to) = None
phi_inputs (freeze ty val) = None
phi_inputs (alloca ty count) = None
phi_inputs (load ty at) = None
phi_inputs (store value at) = None
phi_inputs (get_element inbounds ty base indices) = None
phi_inputs (call ret callee arguments) = None
phi_inputs (jump to) = None
phi_inputs (branch condition met unmet) = None
phi_inputs (switch value otherwise cases) = None
phi_inputs return_void = None
phi_inputs (return_value value) = None
phi_inputs unreachable = None

-- what the flow asks of the instruction of these numbers, for its operands: of a phi for its inputs, else for each value that it uses
abbrev pub HasOperands : FunctionShape → ℕ → ℕ → BodyShape → Option (List PhiInShape) → Type 0
HasOperands f b i body (Some inputs) = ComeFromPredecessors f b inputs × AreThereAtEnds f inputs
HasOperands f b i body None = AreThereAt f b i body

-- the flow at the instruction of these numbers is proper
pub record HasProperFlow (f : FunctionShape) (b i : ℕ) (x : InstShape) : Type 0 where
  pub not_back : (name : List ℕ) → Contains (targets x.body) name → block_of f name ≡ Some 0 → ⊥
  pub no_first_phi : (inputs : List PhiInShape) → phi_inputs x.body ≡ Some inputs → b ≡ 0 → ⊥
  pub operands : HasOperands f b i x.body (phi_inputs x.body)

-- the flow at each instruction of a module is proper
abbrev pub HasFlow : ModuleShape → Type 0
HasFlow m = (k b i : ℕ) (f : FunctionShape) (x : InstShape) → slice_get m.functions k ≡ Some f → inst_at f b i ≡ Some x → HasProperFlow f b i x

-- a rule of the flow fails at an instruction at this offset
pub record FlowFault (p : Parsed) (at : ℕ) : Type 0 where
  pub number : ℕ
  pub block : ℕ
  pub index : ℕ
  pub function : FunctionShape
  pub inst : InstShape
  pub at_spot : spot_of p.spots (inst_at_place number block index) ≡ Some at
  pub there : slice_get (module_shape p.«module»).functions number ≡ Some function
  pub inside : inst_at function block index ≡ Some inst
  pub wrong : HasProperFlow function block index inst → ⊥
