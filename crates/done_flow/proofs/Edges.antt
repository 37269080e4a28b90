-- The edge from one block to another does what the meaning says of its phis.
use Rattle.std.proofs.Common.{◌≡◌, ◌≢◌, ◌≤◌, ◌<◌, ◌+◌, ◌-◌, ◌*◌, ◌/◌, ◌==◌, ℕ, ℤ, Bool, true, false, List, [], ◌∷◌, ◌++◌, map, length, Option, Some, None, inl, inr, refl, sym, ap, subst, ◌∙◌, arith, append-nil, length-append, slice_index_or}
use Rattle.std.specs.Prelude.{if◌then◌else◌}
use Rattle.std.specs.List.{AllByRecursion}
use Rattle.std.proofs.lemmas.Bool.{ne_eqb}
use Rattle.std.proofs.lemmas.Bool.Decides.{nat_tests}
use Rattle.ir_model.specs.Values.{Value, Poison}
use Rattle.ir_model.specs.Programs.{Operand, Local, Fixed, Phi, Program, function_at, block_in}
use Rattle.ir_model.specs.States.{Activation, State, value_of}
use Rattle.ir_model.specs.Steps.{input_from, at_block}
use Rattle.ir_model.specs.Runs.{IsWithinStack}
use Rattle.rv_inst.specs.declared.instruction.Form.{Form}
use Rattle.rv_inst.specs.declared.instruction.Form.TheVariants.{JAL}
use Rattle.rv_flips.specs.Cells.{Tag, One, Two, Three, Cell, Free, Has, Sure, SaysLess}
use Rattle.rv_flips.specs.Assertion.{KnownByte, AnyByte, ByteSaysLess, with_register}
use Rattle.flip_words.specs.Memory.{without_bytes}
use Rattle.flip_words.specs.Placed.{IsPlaced}
use Rattle.flip_words.proofs.CarryLemmas.{placed_front, placed_back}
use Rattle.flip_words.proofs.LessLemmas.{says_again, written_says}
use Rattle.flip_frames.specs.Views.{Stage, Runs, version}
use Rattle.flip_frames.specs.Fetching.{Triple}
use Rattle.flip_frames.proofs.RunLaws.{runs_then}
use Rattle.flip_versions.specs.Operations.{resting, IsSlot, AreSlots, HoldsVersions, AreDifferent, IsOther, defined}
use Rattle.flip_guards.specs.Sources.{Part, made}
use Rattle.flip_guards.specs.Fetching.{IsGiven}
use Rattle.flip_guards.proofs.FetchLaws.{triples_give}
use Rattle.flip_copies.specs.Copies.{Copy, CanCopy, IsReadInTime, IsUnread, IsClear, LeavesAlone, AllLeaveAlone, Compatible, copied, AreSet, IsBeside, IsBesideAll}
use Rattle.flip_copies.specs.Edges.{PhiInput, to_cells, from_cells, edge_words, PlacesAreSlots, IsEdge, entered, IsBesideEdge}
use Rattle.flip_copies.proofs.CopyLaws.{goals_are_set}
use Rattle.flip_copies.proofs.EdgeLaws.{edges_run, edges_leave}
use Rattle.flip_jumps.specs.Jumps.{target}
use Rattle.flip_jumps.specs.Places.{StageSaysLess, Goes}
use Rattle.flip_jumps.proofs.PlaceLaws.{goes_then, runs_go, jumps_go, stage_forgotten}
use Rattle.kept_states.specs.Layouts.{FrameLayout, Layout, AreInFrame, IsGoodFrame, IsGivenBy, AreGoodCells, IsGoodLayout}
use Rattle.kept_states.specs.Kept.{word_of, KeepsThree, KeepsStack, KeepsState}
use Rattle.kept_states.specs.Laws.{HaveValues, KeepsEntry}
use Rattle.kept_states.proofs.Stacks.{room, values_held, held_three}
use Rattle.kept_states.proofs.Moves.{blocks}
use Rattle.done_operations.specs.Sources.{MakeWords, source_of, IsWithin}
use Rattle.done_operations.proofs.Done.{Sourced, triple_slots, sourced, version_less}
use Rattle.done_flow.specs.Edges.{phi_input, edge_at, ArePhis, Arrives, in_block, EdgesAreDone}

-- ---- what is known of copies may be forgotten
-- the slots after three versions of a result were stored
abbrev after_three : (ℕ → Cell) → ℕ → Triple → Option ℕ → ℕ → Cell
after_three slots base d o =
    with_register (with_register (with_register slots (base + d.one) (version One o)) (base + d.two) (version Two o)) (base + d.three) (version Three o)

slots_say : (more less : ℕ → Cell) (base other : ℕ) (d : Triple) (o r : Option ℕ) → other ≡ base → ((k : ℕ) → SaysLess (more k) (less k))
    → ((w : ℕ) → r ≡ Some w → o ≡ Some w) → (k : ℕ) → SaysLess (after_three more base d o k) (after_three less other d r k)
slots_say more less base other d o r same says right =
    subst (λ (b : ℕ). (k : ℕ) → SaysLess (after_three more base d o k) (after_three less b d r k)) (sym same)
    (written_says (with_register (with_register more (base + d.one) (version One o)) (base + d.two) (version Two o))
    (with_register (with_register less (base + d.one) (version One r)) (base + d.two) (version Two r)) (base + d.three) (version Three o) (version Three r)
    (version_less Three o r right)
    (λ q ne. written_says (with_register more (base + d.one) (version One o)) (with_register less (base + d.one) (version One r)) (base + d.two) (version Two o) (version Two r)
    (version_less Two o r right)
    (λ i other_place. written_says more less (base + d.one) (version One o) (version One r) (version_less One o r right) (λ k third. says k) i) q))

byte_either : (test : Bool) (x y : KnownByte) → ByteSaysLess x y → ByteSaysLess (if test then AnyByte else x) (if test then AnyByte else y)
byte_either true x y says = λ v holds. holds
byte_either false x y says = says

pub byte_says : (more less : ℕ → KnownByte) (k q : ℕ) → ByteSaysLess (more q) (less q) → ByteSaysLess (without_bytes more k q) (without_bytes less k q)
unfolding without_bytes
byte_says more less k q says = byte_either (q / 8 == k) (more q) (less q) says

abbrev bytes_after : (ℕ → KnownByte) → ℕ → Triple → ℕ → KnownByte
bytes_after bytes base d = without_bytes (without_bytes (without_bytes bytes (base + d.one)) (base + d.two)) (base + d.three)

bytes_say : (more less : ℕ → KnownByte) (base other : ℕ) (d : Triple) → other ≡ base → ((q : ℕ) → ByteSaysLess (more q) (less q))
    → (q : ℕ) → ByteSaysLess (bytes_after more base d q) (bytes_after less other d q)
bytes_say more less base other d same says =
    subst (λ (b : ℕ). (q : ℕ) → ByteSaysLess (bytes_after more base d q) (bytes_after less b d q)) (sym same)
    (λ q. byte_says (without_bytes (without_bytes more (base + d.one)) (base + d.two)) (without_bytes (without_bytes less (base + d.one)) (base + d.two)) (base + d.three) q
    (byte_says (without_bytes more (base + d.one)) (without_bytes less (base + d.one)) (base + d.two) q (byte_says more less (base + d.one) q (says q))))

defined_says : (g h : Stage) (d : Triple) (o r : Option ℕ) → StageSaysLess g h → ((w : ℕ) → r ≡ Some w → o ≡ Some w) → StageSaysLess (defined g d o) (defined h d r)
defined_says g h d o r less right =
    record {
      base = less.base;
      places = less.places;
      slots = slots_say g.slots h.slots g.base h.base d o r less.base less.slots right;
      bytes = bytes_say g.bytes h.bytes g.base h.base d less.base less.bytes;
      size = less.size;
      input = less.input;
      out = less.out;
    }

stage_again : (g : Stage) → StageSaysLess g g
stage_again g =
    record {
      base = refl;
      places = λ q. says_again (g.places q);
      slots = λ k. says_again (g.slots k);
      bytes = λ q v holds. holds;
      size = refl;
      input = refl;
      out = refl;
    }

-- values are known at least as well as others
abbrev pub KnowMore : (ℕ → Option ℕ) → (ℕ → Option ℕ) → Type 0
KnowMore values fewer = (id w : ℕ) → fewer id ≡ Some w → values id ≡ Some w

pub copied_says : (g h : Stage) (cs : List Copy) (values fewer : ℕ → Option ℕ) → StageSaysLess g h → KnowMore values fewer → StageSaysLess (copied g cs values) (copied h cs fewer)
copied_says g h [] values fewer less more = less
copied_says g h (c ∷ cs) values fewer less more =
    copied_says (defined g c.goal (values c.id)) (defined h c.goal (fewer c.id)) cs values fewer (defined_says g h c.goal (values c.id) (fewer c.id) less (more c.id)) more

-- ---- the values that phis take
-- what a source gives for an operand: the word of a value, or what a constant's words make
abbrev pub given_of : (ℕ → ℕ) → (Value → List Part) → List Value → Operand → Option ℕ
given_of address parts values (Local id) = word_of address (value_of values (Local id))
given_of address parts values (Fixed v) = made (parts v) None

-- by the number of the phi: what its source gives, and the word of its value
abbrev by_phi : (Phi → Option ℕ) → List Phi → ℕ → Option ℕ
by_phi f [] id = None
by_phi f (x ∷ xs) id = if x.result == id then f x else by_phi f xs id

first_phi : (f : Phi → Option ℕ) (x : Phi) (xs : List Phi) → by_phi f (x ∷ xs) x.result ≡ f x
first_phi f x xs = ap (λ (b : Bool). if b then f x else by_phi f xs x.result) (let e : (x.result == x.result) ≡ true = grind (arith, nat_tests) in e)

later_phi : (f : Phi → Option ℕ) (x : Phi) (xs : List Phi) (id : ℕ) → id ≢ x.result → by_phi f (x ∷ xs) id ≡ by_phi f xs id
later_phi f x xs id other = ap (λ (b : Bool). if b then f x else by_phi f xs id) (ne_eqb x.result id (λ e. other (sym e)))

more_by : (f k : Phi → Option ℕ) (x : Phi) (b : Bool) (w : ℕ) (rest fewer : Option ℕ) → (k x ≡ Some w → f x ≡ Some w) → (fewer ≡ Some w → rest ≡ Some w)
    → (if b then k x else fewer) ≡ Some w → (if b then f x else rest) ≡ Some w
more_by f k x true w rest fewer own later e = own e
more_by f k x false w rest fewer own later e = later e

phi_more : (f k : Phi → Option ℕ) (xs : List Phi) → ((x : Phi) (w : ℕ) → k x ≡ Some w → f x ≡ Some w) → KnowMore (by_phi f xs) (by_phi k xs)
phi_more f k [] more id w is = cc
phi_more f k (x ∷ xs) more id w is =
    more_by f k x (x.result == id) w (by_phi f xs id) (by_phi k xs id) (more x w) (λ e. phi_more f k xs more id w e) is

-- each phi has what the function gives for it, since no two give one value
with_first : (f : Phi → Option ℕ) (x : Phi) (xs ys : List Phi) → AllByRecursion (λ (y : Phi). y.result ≢ x.result) ys
    → AllByRecursion (λ (y : Phi). by_phi f xs y.result ≡ f y) ys → AllByRecursion (λ (y : Phi). by_phi f (x ∷ xs) y.result ≡ f y) ys
with_first f x xs [] apart each = tt
with_first f x xs (y ∷ ys) apart each = (later_phi f x xs y.result apart.0 ∙ each.0, with_first f x xs ys apart.1 each.1)

all_found : (f : Phi → Option ℕ) (values from : ℕ) (xs : List Phi) → ArePhis values from xs → AllByRecursion (λ (x : Phi). by_phi f xs x.result ≡ f x) xs
all_found f values from [] are = tt
all_found f values from (x ∷ xs) are = (first_phi f x xs, with_first f x xs xs are.2 (all_found f values from xs are.3))

-- ---- an edge of a frame
module _ (address : ℕ → ℕ) (parts : Value → List Part) (l : FrameLayout) (n : ℕ) (good : IsGoodFrame l n) (all : List Phi)
    (fine : AreGoodCells l n all) (from : ℕ) where
  -- phis of the block whose cells these are
  abbrev AreOf : List Phi → Type 0
  AreOf phis = AllByRecursion (λ (x : Phi). IsGivenBy all x.result) phis

  abbrev inputs_of : List Phi → List PhiInput
  inputs_of phis = map (phi_input l parts from) phis

  -- an operand is read from none of the slots of a cell
  unread : (d : ℕ) (x : Operand) → IsGivenBy all d → IsWithin n x
      → IsUnread (l.cells d) (source_of l parts x).one × IsUnread (l.cells d) (source_of l parts x).two × IsUnread (l.cells d) (source_of l parts x).three
  unread d (Local j) given there =
      let clear : IsClear (l.cells d) (l.places j) = fine.values_spared d j given there in (
        record { one = clear.one.one; two = clear.one.two; three = clear.one.three },
        record { one = clear.two.one; two = clear.two.two; three = clear.two.three },
        record { one = clear.three.one; two = clear.three.two; three = clear.three.three },
      )
  unread d (Fixed v) given there = (record { one = tt; two = tt; three = tt }, record { one = tt; two = tt; three = tt }, record { one = tt; two = tt; three = tt })

  cells_alone : (d : ℕ) (phis : List Phi) → IsGivenBy all d → AllByRecursion (λ (y : Phi). y.result ≢ d) phis → ArePhis n from phis → AreOf phis
      → AllLeaveAlone (l.cells d) (to_cells (inputs_of phis))
  cells_alone d [] given apart are own = tt
  cells_alone d (x ∷ xs) given apart are own =
      let free = unread d (input_from from x.inputs) given are.1 in (
        record { one = free.0; two = free.1; three = free.2; written = fine.apart d x.result given own.0 (λ e. apart.0 (sym e)) },
        cells_alone d xs given apart.1 are.3 own.1,
      )

  cells_fit : (phis : List Phi) → ArePhis n from phis → AreOf phis → Compatible (to_cells (inputs_of phis))
  cells_fit [] are own = tt
  cells_fit (x ∷ xs) are own =
      let free = unread x.result (input_from from x.inputs) own.0 are.1 in (
        fine.different x.result own.0,
        record { two_one = free.1.one; three_one = free.2.one; three_two = free.2.two },
        cells_alone x.result xs own.0 are.2 are.3 own.1,
        cells_fit xs are.3 own.1,
      )

  -- a cell is none of the slots of a value
  cell_unread : (d j : ℕ) → d < n → IsGivenBy all j → IsClear (l.places d) (l.cells j)
  cell_unread d j lt given =
      let clear : IsClear (l.cells j) (l.places d) = fine.values_spared j d given lt in
      record {
        one = record { one = λ e. clear.one.one (sym e); two = λ e. clear.two.one (sym e); three = λ e. clear.three.one (sym e) };
        two = record { one = λ e. clear.one.two (sym e); two = λ e. clear.two.two (sym e); three = λ e. clear.three.two (sym e) };
        three = record { one = λ e. clear.one.three (sym e); two = λ e. clear.two.three (sym e); three = λ e. clear.three.three (sym e) };
      }

  places_alone : (d : ℕ) (phis : List Phi) → d < n → AllByRecursion (λ (y : Phi). y.result ≢ d) phis → ArePhis n from phis → AreOf phis
      → AllLeaveAlone (l.places d) (from_cells (inputs_of phis))
  places_alone d [] lt apart are own = tt
  places_alone d (x ∷ xs) lt apart are own =
      let clear : IsClear (l.places d) (l.cells x.result) = cell_unread d x.result lt own.0 in (
        record {
          one = record { one = clear.one.one; two = clear.one.two; three = clear.one.three };
          two = record { one = clear.two.one; two = clear.two.two; three = clear.two.three };
          three = record { one = clear.three.one; two = clear.three.two; three = clear.three.three };
          written = good.apart d x.result lt are.0 (λ e. apart.0 (sym e));
        },
        places_alone d xs lt apart.1 are.3 own.1,
      )

  places_fit : (phis : List Phi) → ArePhis n from phis → AreOf phis → Compatible (from_cells (inputs_of phis))
  places_fit [] are own = tt
  places_fit (x ∷ xs) are own =
      let clear : IsClear (l.places x.result) (l.cells x.result) = cell_unread x.result x.result are.0 own.0 in (
        good.different x.result are.0,
        record { two_one = clear.two.one; three_one = clear.three.one; three_two = clear.three.two },
        places_alone x.result xs are.0 are.2 are.3 own.1,
        places_fit xs are.3 own.1,
      )

  -- ---- slots that no copy of the edge writes
  beside : (d : Triple) (base k : ℕ) → IsOther d k → IsBeside base d (base + k)
  beside d base k other = record { one = λ e. other.one (omega arith); two = λ e. other.two (omega arith); three = λ e. other.three (omega arith) }

  cells_spared : (base k : ℕ) (phis : List Phi) → AllByRecursion (λ (x : Phi). IsOther (l.cells x.result) k) phis
      → IsBesideAll base (to_cells (inputs_of phis)) (base + k)
  cells_spared base k [] others = tt
  cells_spared base k (x ∷ xs) others = (beside (l.cells x.result) base k others.0, cells_spared base k xs others.1)

  places_spared : (base k : ℕ) (phis : List Phi) → AllByRecursion (λ (x : Phi). IsOther (l.places x.result) k) phis
      → IsBesideAll base (from_cells (inputs_of phis)) (base + k)
  places_spared base k [] others = tt
  places_spared base k (x ∷ xs) others = (beside (l.places x.result) base k others.0, places_spared base k xs others.1)

  -- what each phi of the edge has
  each_phi : (P : Phi → Type 0) (phis : List Phi) → ArePhis n from phis → ((x : Phi) → x.result < n → P x) → AllByRecursion P phis
  each_phi P [] are each = tt
  each_phi P (x ∷ xs) are each = (each x are.0, each_phi P xs are.3 each)

  -- and what each has of which the cells are
  each_own : (P : Phi → Type 0) (phis : List Phi) → AreOf phis → ((x : Phi) → IsGivenBy all x.result → P x) → AllByRecursion P phis
  each_own P [] own each = tt
  each_own P (x ∷ xs) own each = (each x own.0, each_own P xs own.1 each)

  and_apart : (P Q : Phi → Type 0) (phis : List Phi) → ArePhis n from phis → AllByRecursion Q phis → ((x : Phi) → x.result < n → Q x → P x) → AllByRecursion P phis
  and_apart P Q [] are all each = tt
  and_apart P Q (x ∷ xs) are all each = (each x are.0 all.0, and_apart P Q xs are.3 all.1 each)

  spared : (base k : ℕ) (phis : List Phi) → AllByRecursion (λ (x : Phi). IsOther (l.cells x.result) k) phis
      → AllByRecursion (λ (x : Phi). IsOther (l.places x.result) k) phis → IsBesideEdge base (inputs_of phis) (base + k)
  spared base k phis cells places = record { cells = cells_spared base k phis cells; phis = places_spared base k phis places }

  past : (d : Triple) (k : ℕ) → AreInFrame l.size d → l.size ≤ k → IsOther d k
  past d k inside le = record { one = omega (arith, inside.one); two = omega (arith, inside.two); three = omega (arith, inside.three) }

  -- ---- what the edge needs of a stage
  module _ (g : Stage) (values : List Value) (many : length values ≡ n) (makes : MakeWords address parts)
      (reach : (k : ℕ) → k < l.size → IsSlot g k)
      (held : (id : ℕ) → id < length values → HoldsVersions g (l.places id) (word_of address (slice_index_or values id Poison))) where
    is_given : (x : Operand) → IsWithin n x → IsGiven g (source_of l parts x) (given_of address parts values x)
    is_given (Local id) there =
        triples_give g (l.places id) (word_of address (value_of values (Local id))) (triple_slots g l n id good there reach) (held id (omega arith))
    is_given (Fixed v) there = record { one = refl; two = refl; three = refl }

    cell_slots : (id : ℕ) → IsGivenBy all id → AreSlots g (l.cells id)
    cell_slots id given =
        let inside = fine.inside id given in
        record { one = reach (l.cells id).one inside.one; two = reach (l.cells id).two inside.two; three = reach (l.cells id).three inside.three }

    can : (v : ℕ → Option ℕ) (phis : List Phi) → ArePhis n from phis → AreOf phis
        → AllByRecursion (λ (x : Phi). v x.result ≡ given_of address parts values (input_from from x.inputs)) phis → CanCopy g (to_cells (inputs_of phis)) v
    can v [] are own found = tt
    can v (x ∷ xs) are own found = (
      subst (IsGiven g (source_of l parts (input_from from x.inputs))) (sym found.0) (is_given (input_from from x.inputs) are.1),
      cell_slots x.result own.0,
      can v xs are.3 own.1 found.1,
    )

    in_reach : (phis : List Phi) → ArePhis n from phis → PlacesAreSlots g (inputs_of phis)
    in_reach [] are = tt
    in_reach (x ∷ xs) are = (triple_slots g l n x.result good are.0 reach, in_reach xs are.3)

    is_edge : (v : ℕ → Option ℕ) (phis : List Phi) → ArePhis n from phis → AreOf phis
        → AllByRecursion (λ (x : Phi). v x.result ≡ given_of address parts values (input_from from x.inputs)) phis → IsEdge g (inputs_of phis) v
    is_edge v phis are own found =
        record { inputs = can v phis are own found; places = in_reach phis are; cells = cells_fit phis are own; phis = places_fit phis are own }

  -- ---- what phis have after the edge
  set_three : (h : Stage) (base : ℕ) (v : ℕ → Option ℕ) (f : Phi → Option ℕ) (phis : List Phi) → h.base ≡ base → ArePhis n from phis
      → AreSet h (from_cells (inputs_of phis)) v → AllByRecursion (λ (x : Phi). v x.result ≡ f x) phis
      → AllByRecursion (λ (x : Phi). (x.result < n) × KeepsThree h.slots base (l.places x.result) (f x)) phis
  set_three h base v f [] same are set found = tt
  set_three h base v f (x ∷ xs) same are set found = (
    (
      are.0,
      subst (λ (b : ℕ). KeepsThree h.slots b (l.places x.result) (f x)) same
          (subst (KeepsThree h.slots h.base (l.places x.result)) found.0 (held_three h (l.places x.result) (v x.result) set.0)),
    ),
    set_three h base v f xs same are.3 set.1 found.1,
  )

-- the phis of a block are given by it
given_later : (y : Phi) (ys xs : List Phi) → AllByRecursion (λ (x : Phi). IsGivenBy ys x.result) xs → AllByRecursion (λ (x : Phi). IsGivenBy (y ∷ ys) x.result) xs
given_later y ys [] are = tt
given_later y ys (x ∷ xs) are = (inr are.0, given_later y ys xs are.1)

all_given : (xs : List Phi) → AllByRecursion (λ (x : Phi). IsGivenBy xs x.result) xs
all_given [] = tt
all_given (x ∷ xs) = (inl refl, given_later x xs xs (all_given xs))

-- ---- the edge
pub right_of : (address : ℕ → ℕ) (parts : Value → List Part) (values : List Value) → MakeWords address parts → (x : Operand) (w : ℕ)
    → word_of address (value_of values x) ≡ Some w → given_of address parts values x ≡ Some w
right_of address parts values makes (Local id) w is = is
right_of address parts values makes (Fixed v) w is = makes v w is

pub edges : EdgesAreDone
edges p l address size words parts g s a rest to place offset good makes kept stack have are within placed =
    let lay : FrameLayout = l.frames a.function in
    let n : ℕ = length a.values in
    let phis : List Phi = (block_in p a.function to).phis in
    let many : length a.values ≡ (function_at p a.function).values = have.0 in
    let frame : IsGoodFrame lay (length a.values) = subst (IsGoodFrame lay) (sym many) (good.frames a.function) in
    let fine : AreGoodCells lay (length a.values) (block_in p a.function to).phis =
    subst (λ (m : ℕ). AreGoodCells lay m (block_in p a.function to).phis) (sym many) (good.cells a.function to) in
    let own : AllByRecursion (λ (x : Phi). IsGivenBy (block_in p a.function to).phis x.result) (block_in p a.function to).phis = all_given phis in
    let roomy = room p l address size g s a rest good kept stack within in
    let frames : KeepsStack l address g.slots g.base (a ∷ rest) = subst (KeepsStack l address g.slots g.base) stack kept.stack in
    let xs : List PhiInput = map (phi_input lay parts a.block) phis in
    let f : Phi → Option ℕ = λ x. given_of address parts a.values (input_from a.block x.inputs) in
    let k : Phi → Option ℕ = λ x. word_of address (value_of a.values (input_from a.block x.inputs)) in
    let v : ℕ → Option ℕ = by_phi f phis in
    let w : ℕ → Option ℕ = by_phi k phis in
    let held = λ (id : ℕ) (lt : id < length a.values). values_held l address size g s a rest id kept stack lt in
    let edge : IsEdge g xs (by_phi f phis) =
    is_edge address parts lay n frame phis fine a.block g a.values refl makes roomy.2 held v phis are own (all_found f n a.block phis are) in
    let h : Stage = entered g xs (by_phi k phis) in
    let less : StageSaysLess (entered g xs (by_phi f phis)) (entered g xs (by_phi k phis)) =
    copied_says (copied g (to_cells xs) v) (copied g (to_cells xs) w) (from_cells xs) v w
    (copied_says g g (to_cells xs) v w (stage_again g) (phi_more f k phis (λ x u is. right_of address parts a.values makes (input_from a.block x.inputs) u is)))
    (phi_more f k phis (λ x u is. right_of address parts a.values makes (input_from a.block x.inputs) u is)) in
    let same = edges_leave g xs w in
    let stays : (j : ℕ) → AllByRecursion (λ (x : Phi). IsOther (lay.cells x.result) j) phis → AllByRecursion (λ (x : Phi). IsOther (lay.places x.result) j) phis
    → (entered g xs (by_phi k phis)).slots (g.base + j) ≡ g.slots (g.base + j) =
    λ j cells places. same.slots (g.base + j) (spared address parts lay n frame phis fine a.block g.base j phis cells places) in
    let set : AreSet (entered g xs (by_phi k phis)) (from_cells xs) (by_phi k phis) =
    goals_are_set (copied g (to_cells xs) w) (from_cells xs) w (places_fit address parts lay n frame phis fine a.block phis are own) in
    let entry : KeepsEntry lay address g.slots (entered g xs (by_phi k phis)).slots g.base a phis = record {
      phis_are = set_three address parts lay n frame phis fine a.block (entered g xs (by_phi k phis)) g.base w k phis same.base are set (all_found k n a.block phis are);
      others_are = λ id lt apart.
          let x : Triple = lay.places id in
          let before = frames.0 id lt in
          let cells : (m : ℕ) → ((d : ℕ) → IsGivenBy phis d → IsOther (lay.cells d) m) → AllByRecursion (λ (y : Phi). IsOther (lay.cells y.result) m) phis =
          λ m other. each_own address parts lay n frame phis fine a.block (λ (y : Phi). IsOther (lay.cells y.result) m) phis own (λ y given. other y.result given) in
          let places : (m : ℕ) → ((d : ℕ) → d < n → d ≢ id → IsOther (lay.places d) m) → AllByRecursion (λ (y : Phi). IsOther (lay.places y.result) m) phis =
          λ m other. and_apart address parts lay n frame phis fine a.block (λ (y : Phi). IsOther (lay.places y.result) m) (λ (y : Phi). y.result ≢ id) phis are apart
          (λ y small ne. other y.result small ne) in
          record {
            one = stays x.one (cells x.one (λ d given. (fine.values_spared d id given lt).one)) (places x.one (λ d small ne. (frame.apart d id small lt ne).one)) ∙ before.one;
            two = stays x.two (cells x.two (λ d given. (fine.values_spared d id given lt).two)) (places x.two (λ d small ne. (frame.apart d id small lt ne).two)) ∙ before.two;
            three = stays x.three (cells x.three (λ d given. (fine.values_spared d id given lt).three)) (places x.three (λ d small ne. (frame.apart d id small lt ne).three))
                ∙ before.three;
          };
      link_is = stays lay.link
          (each_own address parts lay n frame phis fine a.block (λ (y : Phi). IsOther (lay.cells y.result) lay.link) phis own (λ y given. fine.link_spared y.result given))
          (each_phi address parts lay n frame phis fine a.block (λ (y : Phi). IsOther (lay.places y.result) lay.link) phis are (λ y small. frame.link_spared y.result small));
      above_are = λ i le.
          let j : ℕ = i - g.base in
          let at : g.base + j ≡ i = omega arith in
          let far : lay.size ≤ j = omega arith in
          subst (λ (m : ℕ). (entered g xs (by_phi k phis)).slots m ≡ g.slots m) at
          (stays j
          (each_own address parts lay n frame phis fine a.block (λ (y : Phi). IsOther (lay.cells y.result) j) phis own
          (λ y given. past address parts lay n frame phis fine a.block (lay.cells y.result) j (fine.inside y.result given) far))
          (each_phi address parts lay n frame phis fine a.block (λ (y : Phi). IsOther (lay.places y.result) j) phis are (λ y small. past address parts lay n frame phis fine a.block (lay.places y.result) j (frame.inside y.result small) far)));
    } in
    let later : KeepsStack l address (entered g xs (by_phi k phis)).slots g.base (at_block p to a ∷ rest) =
    blocks p l address g.slots (entered g xs (by_phi k phis)).slots g.base to a rest frames entry in
    let run : Runs words (edge_words xs) (resting g One) (resting (entered g xs (by_phi k phis)) One) =
    subst (λ (zs : List Form). Runs words zs (resting g One) (resting (entered g xs (by_phi k phis)) One)) (append-nil (edge_words xs))
    (runs_then (edges_run words g xs v edge)
    (stage_forgotten words (entered g xs v) (entered g xs w) One less (λ q u sure. none_sure u (sym (kept.places q) ∙ sym (ap (λ (ps : ℕ → Cell). ps q) same.places) ∙ sure)))) in
    let jump : IsPlaced words (place + 4 * length (edge_words xs)) (JAL 0 offset ∷ []) = placed_back words place (edge_words xs) (JAL 0 offset ∷ []) placed in
    record {
      stage = entered g xs (by_phi k phis);
      kept = record {
        stack = subst (λ (b : ℕ). KeepsStack l address (entered g xs (by_phi k phis)).slots b (at_block p to a ∷ rest)) (sym same.base) later;
        places = λ q. ap (λ (ps : ℕ → Cell). ps q) same.places ∙ kept.places q;
        data_size = same.size ∙ kept.data_size;
        input = same.input ∙ kept.input;
        out = same.out ∙ kept.out;
      };
      goes = subst (λ (count : ℕ). Goes words (resting g One) place count (resting (entered g xs (by_phi k phis)) One) (target (place + 4 * length (edge_words xs)) offset))
          (sym (length-append (edge_words xs) (JAL 0 offset ∷ [])))
          (goes_then (runs_go place (placed_front words place (edge_words xs) (JAL 0 offset ∷ []) placed) run)
          (jumps_go words (resting (entered g xs (by_phi k phis)) One) (place + 4 * length (edge_words xs)) offset jump));
    }
  where
    none_sure : (u : ℕ) → Free ≡ Has Sure u → ⊥
    none_sure u e = cc
