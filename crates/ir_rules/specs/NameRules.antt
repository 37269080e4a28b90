-- When the names of a module are proper: each one that is used stands for something, and none is given twice.
use Rattle.std.specs.Prelude.{◌≡◌, ℕ, ◌+◌, ◌<◌, true, List, [], ◌∷◌, ◌++◌, Option, Some, None, slice_get}
use Rattle.std.specs.Option.{option_map}
use Rattle.std.specs.List.{list_all}
use Rattle.ir_tree.specs.Shape.{InstShape, BlockShape, ParamShape, FunctionShape, GlobalShape, DeclareShape, NamedTyShape, ModuleShape}
use Rattle.ir_rules.specs.Values.{inst_at}
use Rattle.ir_rules.specs.Uses.{ty_uses, body_uses, global_uses, declare_uses, head_uses}
use Rattle.ir_rules.specs.Things.{is_there}
use Rattle.ir_rules.specs.Places.{Place, type_at, global_at, declare_at, function_at, inst_at_place}

-- the names that are used at a place are there, or nothing is at it
abbrev pub AreThere : ModuleShape → Place → Type 0
AreThere m (type_at k) = (t : NamedTyShape) → slice_get m.types k ≡ Some t → list_all (is_there m None) (ty_uses t.ty) ≡ true
AreThere m (global_at k) = (g : GlobalShape) → slice_get m.globals k ≡ Some g → list_all (is_there m None) (global_uses g) ≡ true
AreThere m (declare_at k) = (d : DeclareShape) → slice_get m.declares k ≡ Some d → list_all (is_there m None) (declare_uses d) ≡ true
AreThere m (function_at k) = (f : FunctionShape) → slice_get m.functions k ≡ Some f → list_all (is_there m None) (head_uses f) ≡ true
AreThere m (inst_at_place k b i) = (f : FunctionShape) (x : InstShape) → slice_get m.functions k ≡ Some f → inst_at f b i ≡ Some x
    → list_all (is_there m (Some f)) (body_uses x.body) ≡ true

-- a name that a function gives, and where: in its head, or at an instruction
pub record GivenName : Type 0 where
  pub name : List ℕ
  pub place : Place

-- the name that is given at a place, if one is
abbrev pub given : Option (List ℕ) → Place → List GivenName
given None place = []
given (Some name) place = record { name = name; place = place } ∷ []

-- the names that parameters give
abbrev pub given_by_params : ℕ → List ParamShape → List GivenName
given_by_params k [] = []
given_by_params k (p ∷ ps) = given p.name (function_at k) ++ given_by_params k ps

-- the names that the instructions of a block give, where the first has this number
abbrev pub given_by_insts : ℕ → ℕ → ℕ → List InstShape → List GivenName
given_by_insts k b i [] = []
given_by_insts k b i (x ∷ xs) = given x.result (inst_at_place k b i) ++ given_by_insts k b (i + 1) xs

-- the labels of blocks and the names that their instructions give, where the first block has this number
abbrev pub given_by_blocks : ℕ → ℕ → List BlockShape → List GivenName
given_by_blocks k b [] = []
given_by_blocks k b (x ∷ xs) = (record { name = x.name; place = function_at k } ∷ given_by_insts k b 0 x.insts) ++ given_by_blocks k (b + 1) xs

-- the names that the function of a number gives, in the order of the text: those of parameters, then block by block its label and those of
-- results. A label that is repeated is a fault of the whole function
abbrev pub given_names : ℕ → FunctionShape → List GivenName
given_names k f = given_by_params k f.params ++ given_by_blocks k 0 f.blocks

-- a function gives a name a second time, at this place
pub record IsRepeated (m : ModuleShape) (place : Place) : Type 0 where
  pub number : ℕ
  pub function : FunctionShape
  pub there : slice_get m.functions number ≡ Some function
  pub first : ℕ
  pub second : ℕ
  pub one : GivenName
  pub other : GivenName
  pub before : first < second
  pub is_first : slice_get (given_names number function) first ≡ Some one
  pub is_second : slice_get (given_names number function) second ≡ Some other
  pub same : one.name ≡ other.name
  pub at : other.place ≡ place

-- the name of a named type
abbrev pub type_name_at : ModuleShape → Place → Option (List ℕ)
type_name_at m (type_at k) = option_map (λ t. t.name) (slice_get m.types k)
type_name_at m (global_at k) = None
type_name_at m (declare_at k) = None
type_name_at m (function_at k) = None
type_name_at m (inst_at_place f b i) = None

-- the name of a global or a function
abbrev pub symbol_at : ModuleShape → Place → Option (List ℕ)
symbol_at m (type_at k) = None
symbol_at m (global_at k) = option_map (λ g. g.name) (slice_get m.globals k)
symbol_at m (declare_at k) = option_map (λ d. d.name) (slice_get m.declares k)
symbol_at m (function_at k) = option_map (λ f. f.name) (slice_get m.functions k)
symbol_at m (inst_at_place f b i) = None

-- the declared function at a place
abbrev pub declared_at : ModuleShape → Place → Option DeclareShape
declared_at m (type_at k) = None
declared_at m (global_at k) = None
declared_at m (declare_at k) = slice_get m.declares k
declared_at m (function_at k) = None
declared_at m (inst_at_place f b i) = None

-- two functions are declared with the same types
abbrev pub AreTwins : ModuleShape → Place → Place → Type 0
AreTwins m x y = (d e : DeclareShape) × (declared_at m x ≡ Some d) × (declared_at m y ≡ Some e) × (d.ret ≡ e.ret) × (d.params ≡ e.params)

-- two items have one name
pub data Clash (m : ModuleShape) (x y : Place) : Type 0 where
  two_types : (name : List ℕ) → (x ≡ y → ⊥) → type_name_at m x ≡ Some name → type_name_at m y ≡ Some name → Clash m x y
  two_symbols : (name : List ℕ) → (x ≡ y → ⊥) → symbol_at m x ≡ Some name → symbol_at m y ≡ Some name → (AreTwins m x y → ⊥) → Clash m x y

-- the names of a module are proper
pub record HasNames (m : ModuleShape) : Type 0 where
  pub there : (place : Place) → AreThere m place
  pub once : (place : Place) → IsRepeated m place → ⊥
  pub apart : (x y : Place) → Clash m x y → ⊥
