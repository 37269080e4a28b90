-- The edges between the blocks of a function, and the paths along them.
use Rattle.std.specs.Prelude.{ℕ, ◌-◌, List, [], ◌∷◌, length, map, filter_map, Option, Some, None, slice_get}
use Rattle.ir_tree.specs.Shape.{BodyShape, phi, binary, icmp, select, convert, freeze, alloca, load, store, get_element, call, jump, branch, switch, return_void, return_value, unreachable, InstShape, BlockShape, FunctionShape}
use Rattle.ir_rules.specs.Values.{block_of}
use Rattle.graph_paths.specs.Paths.{Leads}

-- the labels that an instruction leads to, in the order of the text
abbrev pub targets : BodyShape → List (List ℕ)
targets (phi ty inputs) = []
targets (binary operation flags ty left right) = []
targets (icmp predicate ty left right) = []
targets (select condition met unmet) = []
targets (convert conversion ty val to) = []
targets (freeze ty val) = []
targets (alloca ty count) = []
targets (load ty at) = []
targets (store value at) = []
targets (get_element inbounds ty base indices) = []
targets (call ret callee arguments) = []
targets (jump to) = to ∷ []
targets (branch condition met unmet) = met ∷ unmet ∷ []
targets (switch value otherwise cases) = otherwise ∷ map (λ c. c.to) cases
targets return_void = []
targets (return_value value) = []
targets unreachable = []

-- the labels that an instruction leads to, if there is one
abbrev pub all_targets : Option InstShape → List (List ℕ)
all_targets None = []
all_targets (Some x) = targets x.body

-- the last instruction of a block
abbrev pub last_inst : BlockShape → Option InstShape
last_inst b = slice_get b.insts (length b.insts - 1)

-- for each block of a function, by number, the numbers of the blocks that its last instruction leads to
abbrev pub successors : FunctionShape → List (List ℕ)
successors f = map (λ b. filter_map (block_of f) (all_targets (last_inst b))) f.blocks

-- a block leads to another one: it is a predecessor of it
abbrev pub Precedes : FunctionShape → ℕ → ℕ → Type 0
Precedes f from to = Leads (successors f) from to
