-- The items of a module that give names, as lists, and which of them clash.
use Rattle.std.specs.Prelude.{◌≡◌, ℕ, ◌+◌, ◌<◌, ◌≤◌, ◌⊎◌, max, List, [], ◌∷◌, ◌++◌, Option, Some, None, slice_get}
use Rattle.ir_tree.specs.ShapeOf.{module_shape}
use Rattle.ir_tree.specs.Shape.{DeclareShape}
use Rattle.ir_tree.specs.declared.names.NameId.{NameId}
use Rattle.ir_tree.specs.declared.module.NamedTy.{NamedTy}
use Rattle.ir_tree.specs.declared.module.GlobalItem.{GlobalItem}
use Rattle.ir_tree.specs.declared.module.Declare.{Declare}
use Rattle.ir_tree.specs.declared.module.Function.{Function}
use Rattle.ir_tree.specs.declared.module.Module.{Module}
use Rattle.ir_tree.specs.declared.parsed.Parsed.{Parsed}
use Rattle.ir_rules.specs.Places.{Place, type_at, global_at, declare_at, function_at}
use Rattle.ir_rules.specs.NameRules.{AreTwins}
use Rattle.ir_repeats.specs.declared.entries.Item.{Item}
use Rattle.ir_repeats.specs.declared.entries.Item.TheVariants as item
use Rattle.ir_repeats.specs.declared.entries.Entry.{Entry}

-- items with their offsets, where the first has this number
abbrev pub entries_from : {X : Type 0} → (X → NameId) → (ℕ → Item) → ℕ → List X → List ℕ → List Entry
entries_from name kind k [] spots = []
entries_from name kind k (x ∷ xs) [] = []
entries_from name kind k (x ∷ xs) (s ∷ spots) = record { name = name x; item = kind k; spot = s } ∷ entries_from name kind (k + 1) xs spots

-- the named types
abbrev pub type_entries : Parsed → List Entry
type_entries p = entries_from (λ (t : NamedTy). t.name) (λ k. item.Type k) 0 p.«module».types.items p.spots.types.items

-- the globals
abbrev pub global_entries : Parsed → List Entry
global_entries p = entries_from (λ (g : GlobalItem). g.name) (λ k. item.Global k) 0 p.«module».globals.items p.spots.globals.items

-- the declared functions
abbrev pub declare_entries : Parsed → List Entry
declare_entries p = entries_from (λ (d : Declare). d.name) (λ k. item.Declare k) 0 p.«module».declares.items p.spots.declares.items

-- the defined functions
abbrev pub function_entries : Parsed → List Entry
function_entries p = entries_from (λ (f : Function). f.name) (λ k. item.Function k) 0 p.«module».functions.items p.spots.functions.items

-- the globals and the functions
abbrev pub symbol_entries : Parsed → List Entry
symbol_entries p = (global_entries p ++ declare_entries p) ++ function_entries p

-- two declared functions have the same types
abbrev pub AreAlike : DeclareShape → DeclareShape → Type 0
AreAlike d e = (d.ret ≡ e.ret) × (d.params ≡ e.params)

-- the place of an item
abbrev pub place_of : Item → Place
place_of (item.Type k) = type_at k
place_of (item.Global k) = global_at k
place_of (item.Declare k) = declare_at k
place_of (item.Function k) = function_at k

-- two different entries have one name, and the later of them is at this offset
pub record EntryClash (m : Module) (entries : List Entry) (at : ℕ) : Type 0 where
  pub i : ℕ
  pub j : ℕ
  pub one : Entry
  pub other : Entry
  pub is_one : slice_get entries i ≡ Some one
  pub is_other : slice_get entries j ≡ Some other
  pub same : one.name.0 ≡ other.name.0
  pub apart : one.item ≡ other.item → ⊥
  pub no_twins : AreTwins (module_shape m) (place_of one.item) (place_of other.item) → ⊥
  pub later : at ≡ max one.spot other.spot

-- the first in the text of the entries below a place with the name of a number, if there is one
abbrev pub IsEarliest : List Entry → ℕ → ℕ → Option ℕ → Type 0
IsEarliest entries below id None = (j : ℕ) (d : Entry) → j < below → slice_get entries j ≡ Some d → d.name.0 ≡ id → ⊥
IsEarliest entries below id (Some i) = (e : Entry) × (slice_get entries i ≡ Some e) × (i < below) × (e.name.0 ≡ id)
    × ((j : ℕ) (d : Entry) → j < below → slice_get entries j ≡ Some d → d.name.0 ≡ id → e.spot ≤ d.spot)

-- for each name, the first in the text of the entries below a place with it
abbrev pub AreEarliest : List Entry → ℕ → List (Option ℕ) → Type 0
AreEarliest entries below firsts = (id : ℕ) (first : Option ℕ) → slice_get firsts id ≡ Some first → IsEarliest entries below id first

-- each entry's name is below a number
abbrev pub AreNamedBelow : ℕ → List Entry → Type 0
AreNamedBelow count entries = (j : ℕ) (e : Entry) → slice_get entries j ≡ Some e → e.name.0 < count

-- two items may have one name: they are one item, or functions declared with the same types
abbrev pub MayShare : Module → Item → Item → Type 0
MayShare m one other = (one ≡ other) ⊎ AreTwins (module_shape m) (place_of one) (place_of other)

-- an entry is one of a list
abbrev pub IsAmong : List Entry → Entry → Type 0
IsAmong entries e = (j : ℕ) × (slice_get entries j ≡ Some e)

-- an entry may share its name with the first one of that name
pub record IsFine (m : Module) (entries : List Entry) (firsts : List (Option ℕ)) (d : Entry) : Type 0 where
  pub i : ℕ
  pub first : Entry
  pub is_first : slice_get firsts d.name.0 ≡ Some (Some i)
  pub at : slice_get entries i ≡ Some first
  pub fine : MayShare m first.item d.item
