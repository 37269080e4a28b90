-- Edges: two lists of copies.
use Rattle.std.proofs.Common.{◌≡◌, ℕ, ◌/◌, List, [], ◌∷◌, Option, sym, ◌∙◌, subst}
use Rattle.rv_flips.specs.Cells.{One}
use Rattle.flip_frames.specs.Views.{Stage, Runs}
use Rattle.flip_frames.specs.Fetching.{Triple}
use Rattle.flip_frames.proofs.RunLaws.{runs_then}
use Rattle.flip_versions.specs.Operations.{resting, IsSlot, AreSlots}
use Rattle.flip_guards.proofs.FetchLaws.{triples_give}
use Rattle.flip_copies.specs.Copies.{CanCopy, copied, AreSet, IsBesideAll, SameWhere}
use Rattle.flip_copies.specs.Edges.{PhiInput, to_cells, from_cells, edge_words, PlacesAreSlots, IsEdge, entered, IsBesideEdge}
use Rattle.flip_copies.proofs.CopyLaws.{copy_lists_run, goals_are_set, rest_stays}

-- slots that are in reach at one stage are so at another with as many data and its frame at the same place
slots_at : (g h : Stage) (x : Triple) → h.base ≡ g.base → h.size ≡ g.size → AreSlots g x → AreSlots h x
slots_at g h x base size s = record { one = slot x.one s.one; two = slot x.two s.two; three = slot x.three s.three }
  where
    slot : (n : ℕ) → IsSlot g n → IsSlot h n
    slot n s = record { within = rw (base, size) s.within; small = s.small }

-- what was set in the cells can be copied from there
from_cells_can : (g h : Stage) (xs : List PhiInput) (values : ℕ → Option ℕ) → h.base ≡ g.base → h.size ≡ g.size → CanCopy g (to_cells xs) values → PlacesAreSlots g xs → AreSet h (to_cells xs) values → CanCopy h (from_cells xs) values
from_cells_can g h [] values base size can places set = tt
from_cells_can g h (x ∷ xs) values base size can places set =
    (triples_give h x.cell (values x.id) (slots_at g h x.cell base size can.1) set.0, slots_at g h x.place base size places.0, from_cells_can g h xs values base size can.2 places.1 set.1)

pub edges_run : (words : List ℕ) (g : Stage) (xs : List PhiInput) (values : ℕ → Option ℕ) → IsEdge g xs values → Runs words (edge_words xs) (resting g One) (resting (entered g xs values) One)
edges_run words g xs values is =
    let h = copied g (to_cells xs) values in
    let same = rest_stays g (to_cells xs) values in
    runs_then (copy_lists_run words g (to_cells xs) values is.inputs is.cells)
    (copy_lists_run words h (from_cells xs) values (from_cells_can g h xs values same.base same.size is.inputs is.places (goals_are_set g (to_cells xs) values is.cells)) is.phis)

pub phis_are_set : (g : Stage) (xs : List PhiInput) (values : ℕ → Option ℕ) → IsEdge g xs values → AreSet (entered g xs values) (from_cells xs) values
phis_are_set g xs values is = goals_are_set (copied g (to_cells xs) values) (from_cells xs) values is.phis

pub edges_leave : (g : Stage) (xs : List PhiInput) (values : ℕ → Option ℕ) → SameWhere (IsBesideEdge g.base xs) g (entered g xs values)
edges_leave g xs values =
    let h = copied g (to_cells xs) values in
    let one = rest_stays g (to_cells xs) values in
    let two = rest_stays h (from_cells xs) values in
    let P : ℕ → ℕ → Type 0 = λ base k. IsBesideAll base (from_cells xs) k in
    record {
      base = two.base ∙ one.base;
      places = two.places ∙ one.places;
      slots = λ k beside. two.slots k (subst (λ b. P b k) (sym one.base) beside.phis) ∙ one.slots k beside.cells;
      bytes = λ o beside. two.bytes o (subst (λ b. P b (o / 8)) (sym one.base) beside.phis) ∙ one.bytes o beside.cells;
      size = two.size ∙ one.size;
      input = two.input ∙ one.input;
      out = two.out ∙ one.out;
    }
