-- The edge from one block to another: each phi of the block entered gets its input from there. All inputs are read, into cells, before
-- any phi is set, so phis may be inputs of one another.
use Rattle.std.specs.Prelude.{ℕ, List, [], ◌∷◌, ◌++◌, Option}
use Rattle.rv_inst.specs.declared.instruction.Form.{Form}
use Rattle.rv_flips.specs.Cells.{One}
use Rattle.flip_frames.specs.Views.{Stage, Runs}
use Rattle.flip_frames.specs.Fetching.{Triple}
use Rattle.flip_versions.specs.Operations.{resting, AreSlots}
use Rattle.flip_guards.specs.Fetching.{Operand, in_slots}
use Rattle.flip_copies.specs.Copies.{Copy, copies_words, CanCopy, Compatible, copied, AreSet, IsBesideAll, SameWhere}

-- a phi on an edge: its input from there, the slots of a cell, its own slots, and the number of its value
pub record PhiInput : Type 0 where
  pub input : Operand
  pub cell : Triple
  pub place : Triple
  pub id : ℕ

-- the inputs go to the cells
abbrev pub to_cells : List PhiInput → List Copy
to_cells [] = []
to_cells (x ∷ xs) = record { source = x.input; goal = x.cell; id = x.id } ∷ to_cells xs

-- and from the cells to the phis' own slots
abbrev pub from_cells : List PhiInput → List Copy
from_cells [] = []
from_cells (x ∷ xs) = record { source = in_slots x.cell; goal = x.place; id = x.id } ∷ from_cells xs

-- the words of an edge: all inputs are read before any phi is set
abbrev pub edge_words : List PhiInput → List Form
edge_words xs = copies_words (to_cells xs) ++ copies_words (from_cells xs)

-- each phi's own slots are in reach
abbrev pub PlacesAreSlots : Stage → List PhiInput → Type 0
PlacesAreSlots g [] = Unit {0}
PlacesAreSlots g (x ∷ xs) = AreSlots g x.place × PlacesAreSlots g xs

-- the inputs are the phis' values, each cell is written once, and not before an input there is read; so is each phi
pub record IsEdge (g : Stage) (xs : List PhiInput) (values : ℕ → Option ℕ) : Type 0 where
  pub inputs : CanCopy g (to_cells xs) values
  pub places : PlacesAreSlots g xs
  pub cells : Compatible (to_cells xs)
  pub phis : Compatible (from_cells xs)

-- the stage in the block that is entered
abbrev pub entered : Stage → List PhiInput → (ℕ → Option ℕ) → Stage
entered g xs values = copied (copied g (to_cells xs) values) (from_cells xs) values

-- an edge, with any phis, and inputs in slots near or far, in registers or constant
abbrev pub EdgesRun : Type 0
EdgesRun = (words : List ℕ) (g : Stage) (xs : List PhiInput) (values : ℕ → Option ℕ) → IsEdge g xs values
    → Runs words (edge_words xs) (resting g One) (resting (entered g xs values) One)

-- each phi has its value
abbrev pub PhisAreSet : Type 0
PhisAreSet = (g : Stage) (xs : List PhiInput) (values : ℕ → Option ℕ) → IsEdge g xs values → AreSet (entered g xs values) (from_cells xs) values

-- word k of the data is in no cell and no phi
pub record IsBesideEdge (base : ℕ) (xs : List PhiInput) (k : ℕ) : Type 0 where
  pub cells : IsBesideAll base (to_cells xs) k
  pub phis : IsBesideAll base (from_cells xs) k

-- then it stays
abbrev pub EdgesLeaveTheRest : Type 0
EdgesLeaveTheRest = (g : Stage) (xs : List PhiInput) (values : ℕ → Option ℕ) → SameWhere (IsBesideEdge g.base xs) g (entered g xs values)
