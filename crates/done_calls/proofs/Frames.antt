-- Functions that are there, room for a frame, and what is known of stages in which less is known.
use Rattle.std.proofs.Common.{◌≡◌, ◌≢◌, ◌≤◌, ◌<◌, ◌+◌, ◌*◌, ◌/◌, ◌==◌, ℕ, Bool, true, false, [], length, Some, None, inl, inr, refl, sym, ap, subst, ◌∙◌, arith}
use Rattle.std.specs.Prelude.{nat_lt, if◌then◌else◌, slice_get, slice_index_or}
use Rattle.std.proofs.lemmas.Bool.{cases_lt}
use Rattle.std.proofs.lemmas.Bool.Decides.{nat_tests}
use Rattle.std.proofs.lemmas.List.{get_or_past}
use Rattle.ir_model.specs.Programs.{Instruction, Function, Program, function_at, no_function, empty_block}
use Rattle.ir_model.specs.States.{Activation, State, instruction_at}
use Rattle.ir_model.specs.Runs.{frames}
use Rattle.rv_flips.specs.Cells.{Tag, One, Two, Three, Cell, Free, Has, Sure, SaysLess}
use Rattle.rv_flips.specs.Assertion.{KnownByte, AnyByte, ByteSaysLess, with_register}
use Rattle.rv_flips.proofs.CellLemmas.{with_register-same, with_register-other, says_free}
use Rattle.flip_words.specs.Memory.{without_bytes}
use Rattle.flip_words.proofs.LessLemmas.{says_again, written_says}
use Rattle.flip_frames.specs.Views.{Stage}
use Rattle.flip_frames.specs.Fetching.{Triple}
use Rattle.flip_versions.specs.Operations.{stored, defined}
use Rattle.flip_jumps.specs.Places.{StageSaysLess}
use Rattle.flip_copies.specs.Narrowing.{forgotten}
use Rattle.flip_copies.proofs.NarrowingLaws.{narrowed}
use Rattle.flip_calls.specs.Frames.{based_at}
use Rattle.flip_calls.specs.Calls.{linked_back}
use Rattle.kept_states.specs.Layouts.{Layout, IsGoodLayout}
use Rattle.kept_states.specs.Kept.{KeepsState}
use Rattle.kept_states.proofs.Stacks.{sizes, up_to_top, counted}
use Rattle.done_flow.proofs.Edges.{byte_says}

-- ---- functions of the program
-- an activation that stands at an instruction is one of a function that is there
pub function_there : (p : Program) (a : Activation) (x : Instruction) → instruction_at p a ≡ Some x → a.function < length p.functions
function_there p a x is = elim (cases_lt a.function (length p.functions)) [
  | inl lt ↦ lt
  | inr le ↦
      let none : instruction_at p a ≡ None =
      ap (λ (f : Function). slice_get (slice_index_or f.blocks a.block empty_block).body a.position) (get_or_past p.functions a.function no_function le) in
      absurd (never (sym none ∙ is))
]
  where
    never : None ≡ Some x → ⊥
    never e = cc

-- ---- room
-- the frame of a function more lies in the data below those of a state
pub record FitsBelow (base size n : ℕ) : Type 0 where
  pub small : n < 0x800_0000
  pub below : n ≤ base
  pub within : 8 * base ≤ size
  pub reach : size ≤ 0x4000_0000

pub frame_fits : (p : Program) (l : Layout) (address : ℕ → ℕ) (size : ℕ) (g : Stage) (s : State) (f : ℕ) → IsGoodLayout p l size → KeepsState l address size g s
    → 64 + ((function_at p f).frame + frames p s.stack) ≤ 8388608 → FitsBelow g.base g.size (l.frames f).size
frame_fits p l address size g s f good kept within =
    let top : g.base + sizes l s.stack ≡ l.top = up_to_top l address g.slots g.base s.stack kept.stack in
    let few : 8 * sizes l s.stack ≤ frames p s.stack = counted p l size good s.stack in
    record {
      small = omega (arith, good.counted f);
      below = omega (arith, good.counted f, good.room);
      within = omega (arith, good.within, kept.data_size);
      reach = omega (arith, good.small, kept.data_size);
    }

-- ---- below a word of the data nothing is known
pub below_test : (k base : ℕ) → k < base → nat_lt k base ≡ true
below_test k base lt = grind (arith, nat_tests)

pub above_test : (k base : ℕ) → base ≤ k → nat_lt k base ≡ false
above_test k base le = grind (arith, nat_tests)

abbrev pub cleared : Stage → Stage
cleared g = forgotten (λ k. nat_lt k g.base) g

pub cleared_below : (g : Stage) (k : ℕ) → k < g.base → (cleared g).slots k ≡ Free
cleared_below g k lt = ap (λ (b : Bool). if b then Free else g.slots k) (below_test k g.base lt)

pub cleared_above : (g : Stage) (k : ℕ) → g.base ≤ k → (cleared g).slots k ≡ g.slots k
cleared_above g k le = ap (λ (b : Bool). if b then Free else g.slots k) (above_test k g.base le)

pub cleared_says : (g : Stage) (base : ℕ) → StageSaysLess (based_at g base) (based_at (cleared g) base)
cleared_says g base =
    let less : StageSaysLess g (cleared g) = narrowed (λ k. nat_lt k g.base) g [] (λ k. None) tt in
    record {
      base = refl;
      places = less.places;
      slots = less.slots;
      bytes = less.bytes;
      size = refl;
      input = refl;
      out = refl;
    }

-- ---- a return address is kept in both
pub linked_says : (g h : Stage) (m back : ℕ) → StageSaysLess g h → StageSaysLess (linked_back g m back) (linked_back h m back)
linked_says g h m back less =
    record {
      base = less.base;
      places = less.places;
      slots = subst (λ (b : ℕ). (k : ℕ) → SaysLess (with_register g.slots (g.base + m) (Has Sure back) k) (with_register h.slots (b + m) (Has Sure back) k)) (sym less.base)
          (λ k. written_says g.slots h.slots (g.base + m) (Has Sure back) (Has Sure back) (says_again (Has Sure back)) (λ q ne. less.slots q) k);
      bytes = subst (λ (b : ℕ). (o : ℕ) → ByteSaysLess (without_bytes g.bytes (g.base + m) o) (without_bytes h.bytes (b + m) o)) (sym less.base)
          (λ o. byte_says g.bytes h.bytes (g.base + m) o (less.bytes o));
      size = less.size;
      input = less.input;
      out = less.out;
    }

-- ---- three slots of which nothing is known any more
cell_free : (more less : ℕ → Cell) (d : ℕ) → ((k : ℕ) → SaysLess (more k) (less k)) → (k : ℕ) → SaysLess (more k) (with_register less d Free k)
cell_free more less d says k = by_place (k == d) refl
  where
    by_place : (b : Bool) → (k == d) ≡ b → SaysLess (more k) (with_register less d Free k)
    by_place true e =
        let same : d ≡ k = grind (arith, nat_tests) in
        subst (λ (q : ℕ). SaysLess (more k) (with_register less q Free k)) (sym same)
        (subst (SaysLess (more k)) (sym (with_register-same less k Free)) (says_free (more k)))
    by_place false e =
        let other : k ≢ d = grind (arith, nat_tests) in
        subst (SaysLess (more k)) (sym (with_register-other less d k Free other)) (says k)

byte_any : (test : Bool) (x y : KnownByte) → ByteSaysLess x y → ByteSaysLess x (if test then AnyByte else y)
byte_any true x y says = λ v holds. tt
byte_any false x y says = says

bytes_any : (more less : ℕ → KnownByte) (k : ℕ) → ((o : ℕ) → ByteSaysLess (more o) (less o)) → (o : ℕ) → ByteSaysLess (more o) (without_bytes less k o)
unfolding without_bytes
bytes_any more less k says o = byte_any (o / 8 == k) (more o) (less o) (says o)

stored_free : (g h : Stage) (n : ℕ) (tag : Tag) → StageSaysLess g h → StageSaysLess g (stored h n tag None)
stored_free g h n tag less =
    record {
      base = less.base;
      places = less.places;
      slots = cell_free g.slots h.slots (h.base + n) less.slots;
      bytes = bytes_any g.bytes h.bytes (h.base + n) less.bytes;
      size = less.size;
      input = less.input;
      out = less.out;
    }

pub undefined_says : (g : Stage) (d : Triple) → StageSaysLess g (defined g d None)
undefined_says g d =
    stored_free g (stored (stored g d.one One None) d.two Two None) d.three Three
    (stored_free g (stored g d.one One None) d.two Two (stored_free g g d.one One again))
  where
    again : StageSaysLess g g
    again =
        record {
          base = refl;
          places = λ q. says_again (g.places q);
          slots = λ k. says_again (g.slots k);
          bytes = λ q v holds. holds;
          size = refl;
          input = refl;
          out = refl;
        }
