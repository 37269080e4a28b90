-- The limits of a module, and what is counted for each.
use Rattle.std.specs.Prelude.{◌≡◌, ℕ, ℤ, ◌+◌, ◌-◌, ◌*◌, ◌<◌, ◌≤◌, max, min, if◌then◌else◌, List, [], ◌∷◌, ◌++◌, length, map, sum_by, flat_map, is_some, Contains, unsigned_abs}
use Rattle.std.specs.List.{AllByRecursion}
use Rattle.ir_tree.specs.Shape.{BodyShape, phi, binary, icmp, select, convert, freeze, alloca, load, store, get_element, call, jump, branch, switch, return_void, return_value, unreachable, InstShape, FunctionShape, GlobalShape, NamedTyShape, ModuleShape}
use Rattle.ir_layout.specs.declared.sizes.Layout.{Layout}
use Rattle.ir_layout.specs.Layout.{next_multiple}
use Rattle.ir_layout.specs.Rules.{HasLayout}
use Rattle.ir_rules.specs.Values.{all_results_from}
use Rattle.ir_proper.specs.FlowRules.{phi_inputs}
use Rattle.ir_proper.specs.declared.Which.{Which}
use Rattle.ir_proper.specs.declared.Which.TheVariants.{Functions, Params, Results, Cases, Frame, Globals, Weight}

-- a sum as it is told: one that would pass 2^64 - 1 is 2^64 - 1
abbrev pub capped : ℕ → ℕ
capped n = min n 18446744073709551615

-- the instructions of a function, block after block
abbrev pub all_insts : FunctionShape → List InstShape
all_insts f = flat_map (λ b. b.insts) f.blocks

-- the operands past the second, of a phi the inputs, of a call the arguments, of a switch the cases; labels and types are no operands
abbrev pub more_operands : BodyShape → ℕ
more_operands (phi ty inputs) = length inputs
more_operands (select condition met unmet) = 1
more_operands (get_element inbounds ty base indices) = length indices - 1
more_operands (call ret callee arguments) = length arguments
more_operands (switch value otherwise cases) = length cases
more_operands (binary operation flags ty left right) = 0
more_operands (icmp predicate ty left right) = 0
more_operands (convert conversion ty val to) = 0
more_operands (freeze ty val) = 0
more_operands (alloca ty count) = 0
more_operands (load ty at) = 0
more_operands (store value at) = 0
more_operands (jump to) = 0
more_operands (branch condition met unmet) = 0
more_operands return_void = 0
more_operands (return_value value) = 0
more_operands unreachable = 0

-- the weight of a function: its text has at most so many words
abbrev pub function_weight : FunctionShape → ℕ
function_weight f =
    64 + 128 * length f.params + 256 * length (all_insts f) + 128 * sum_by (λ x. more_operands x.body) (all_insts f)

-- the weight of a module: its text has at most so many words
abbrev pub weight_of : ModuleShape → ℕ
weight_of m = capped (64 + sum_by function_weight m.functions)

-- how many values the instructions of a function give
abbrev pub result_count : FunctionShape → ℕ
result_count f = length (all_results_from 0 f.blocks)

-- whether an instruction is a phi, as a count
abbrev pub phi_count : BodyShape → ℕ
phi_count body = if is_some (phi_inputs body) then 1 else 0

-- the bytes that an alloca of so many values of a size takes in a frame: at least one value of a byte, and a multiple of 16
abbrev pub alloca_room : ℤ → ℕ → ℕ
alloca_room count size = next_multiple 16 (max 1 (unsigned_abs count * size))

-- the bytes that an instruction takes in a frame: none but an alloca takes any
abbrev pub TakesRoom : List NamedTyShape → BodyShape → ℕ → Type 0
TakesRoom ts (alloca ty count) room = (l : Layout) × HasLayout ts ty l × (room ≡ alloca_room count l.size)
TakesRoom ts (phi ty inputs) room = room ≡ 0
TakesRoom ts (binary operation flags ty left right) room = room ≡ 0
TakesRoom ts (icmp predicate ty left right) room = room ≡ 0
TakesRoom ts (select condition met unmet) room = room ≡ 0
TakesRoom ts (convert conversion ty val to) room = room ≡ 0
TakesRoom ts (freeze ty val) room = room ≡ 0
TakesRoom ts (load ty at) room = room ≡ 0
TakesRoom ts (store value at) room = room ≡ 0
TakesRoom ts (get_element inbounds ty base indices) room = room ≡ 0
TakesRoom ts (call ret callee arguments) room = room ≡ 0
TakesRoom ts (jump to) room = room ≡ 0
TakesRoom ts (branch condition met unmet) room = room ≡ 0
TakesRoom ts (switch value otherwise cases) room = room ≡ 0
TakesRoom ts return_void room = room ≡ 0
TakesRoom ts (return_value value) room = room ≡ 0
TakesRoom ts unreachable room = room ≡ 0

-- the bytes that instructions take together
abbrev pub TakeRoom : List NamedTyShape → List InstShape → ℕ → Type 0
TakeRoom ts [] room = room ≡ 0
TakeRoom ts (x ∷ xs) room = (first rest : ℕ) × TakesRoom ts x.body first × TakeRoom ts xs rest × (room ≡ first + rest)

-- the bytes of a frame without allocas: 64, a word for each parameter, five for each parameter and each result, three for each phi
abbrev pub frame_base : FunctionShape → ℕ
frame_base f =
    64 + 8 * length f.params + 40 * (length f.params + result_count f) + 24 * sum_by (λ x. phi_count x.body) (all_insts f)

-- the bytes of the frame of a function in a module with these named types
abbrev pub HasFrame : List NamedTyShape → FunctionShape → ℕ → Type 0
HasFrame ts f frame = (room : ℕ) × TakeRoom ts (all_insts f) room × (frame ≡ capped (next_multiple 16 (frame_base f + room)))

-- those of several functions
abbrev pub HaveFrames : List NamedTyShape → List FunctionShape → List ℕ → Type 0
HaveFrames ts [] frames = frames ≡ []
HaveFrames ts (f ∷ fs) frames = (first : ℕ) × (rest : List ℕ) × HasFrame ts f first × HaveFrames ts fs rest × (frames ≡ first ∷ rest)

-- the bytes of globals, each rounded up to a multiple of 16
abbrev pub HaveRoom : List NamedTyShape → List GlobalShape → ℕ → Type 0
HaveRoom ts [] room = room ≡ 0
HaveRoom ts (g ∷ gs) room =
    (l : Layout) × (rest : ℕ) × HasLayout ts g.ty l × HaveRoom ts gs rest × (room ≡ next_multiple 16 l.size + rest)

-- the cases of an instruction that is a switch
abbrev pub case_counts : BodyShape → List ℕ
case_counts (switch value otherwise cases) = length cases ∷ []
case_counts (phi ty inputs) = []
case_counts (select condition met unmet) = []
case_counts (get_element inbounds ty base indices) = []
case_counts (call ret callee arguments) = []
case_counts (binary operation flags ty left right) = []
case_counts (icmp predicate ty left right) = []
case_counts (convert conversion ty val to) = []
case_counts (freeze ty val) = []
case_counts (alloca ty count) = []
case_counts (load ty at) = []
case_counts (store value at) = []
case_counts (jump to) = []
case_counts (branch condition met unmet) = []
case_counts return_void = []
case_counts (return_value value) = []
case_counts unreachable = []

-- what a limit counts, in the order of the text: of functions and switches each has its own count
abbrev pub AreCounts : ModuleShape → Which → List ℕ → Type 0
AreCounts m Functions counts = counts ≡ length m.functions ∷ []
AreCounts m Params counts = counts ≡ map (λ f. length f.params) m.functions
AreCounts m Results counts = counts ≡ map (λ f. capped (result_count f)) m.functions
AreCounts m Cases counts = counts ≡ flat_map (λ f. flat_map (λ x. case_counts x.body) (all_insts f)) m.functions
AreCounts m Frame counts = HaveFrames m.types m.functions counts
AreCounts m Globals counts = (room : ℕ) × HaveRoom m.types m.globals room × (counts ≡ capped room ∷ [])
AreCounts m Weight counts = counts ≡ weight_of m ∷ []

-- the most that a limit allows of each count
abbrev pub most_of : Which → ℕ
most_of Functions = 4096
most_of Params = 64
most_of Results = 16384
most_of Cases = 1024
most_of Frame = 1048576
most_of Globals = 67108864
most_of Weight = 262144

-- a limit is kept
abbrev pub IsKept : ModuleShape → Which → Type 0
IsKept m which = (counts : List ℕ) × AreCounts m which counts × ((count : ℕ) → Contains counts count → count ≤ most_of which)

-- a limit is passed, and this is the first count that passes it
abbrev pub IsPassed : ModuleShape → Which → ℕ → Type 0
IsPassed m which found =
    (before after : List ℕ) × AreCounts m which (before ++ (found ∷ after)) × ((count : ℕ) → Contains before count → count ≤ most_of which)
    × (most_of which < found)

-- the limits, in the order in which they are looked at
abbrev pub all_limits : List Which
all_limits = Functions ∷ Params ∷ Results ∷ Cases ∷ Frame ∷ Globals ∷ Weight ∷ []

-- each limit of these is kept
abbrev pub AreKept : ModuleShape → List Which → Type 0
AreKept m limits = AllByRecursion (IsKept m) limits

-- a module is within the limits
abbrev pub IsWithin : ModuleShape → Type 0
IsWithin m = AreKept m all_limits

-- a limit is the first one that is passed, with this count
pub record IsFirstPassed (m : ModuleShape) (which : Which) (found : ℕ) : Type 0 where
  pub before : List Which
  pub after : List Which
  pub here : before ++ (which ∷ after) ≡ all_limits
  pub kept : AreKept m before
  pub passed : IsPassed m which found
