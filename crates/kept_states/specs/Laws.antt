-- What follows where a stage keeps a state.
use Rattle.std.specs.Prelude.{◌≡◌, ◌≢◌, ◌≤◌, ◌<◌, ◌+◌, ◌*◌, ◌⊎◌, ℕ, List, [], ◌∷◌, length, Option, Some, None, slice_index_or}
use Rattle.std.specs.List.{AllByRecursion}
use Rattle.ir_model.specs.Values.{Value, Poison}
use Rattle.ir_model.specs.Programs.{Program, Phi, function_at, block_in}
use Rattle.ir_model.specs.States.{Activation, State, value_of, after, entered}
use Rattle.ir_model.specs.Steps.{input_from, at_block}
use Rattle.ir_model.specs.Runs.{IsWithinStack}
use Rattle.rv_flips.specs.Cells.{Cell, Has, Sure}
use Rattle.flip_frames.specs.Views.{Stage}
use Rattle.flip_frames.specs.Fetching.{Triple}
use Rattle.flip_versions.specs.Operations.{AreSlots, HoldsVersions, IsSlot, defined}
use Rattle.kept_states.specs.Layouts.{FrameLayout, Layout, IsGoodFrame, IsGoodLayout}
use Rattle.kept_states.specs.Kept.{word_of, KeepsThree, KeepsStack, KeepsState}

-- each activation has as many values as its function
abbrev pub HaveValues : Program → List Activation → Type 0
HaveValues p stack = AllByRecursion (λ (a : Activation). length a.values ≡ (function_at p a.function).values) stack

-- where a state is within the stack, the frame of the innermost activation begins after the data's first two words, and each of its slots is in reach
abbrev pub FramesHaveRoom : Type 0
FramesHaveRoom = (p : Program) (l : Layout) (address : ℕ → ℕ) (size : ℕ) (g : Stage) (s : State) (a : Activation) (rest : List Activation)
    → IsGoodLayout p l size → KeepsState l address size g s → s.stack ≡ a ∷ rest → IsWithinStack p s
    → (2 ≤ g.base) × (8 * g.base ≤ size) × ((n : ℕ) → n < (l.frames a.function).size → IsSlot g n)

-- the slots of a value hold its versions
abbrev pub ValuesAreHeld : Type 0
ValuesAreHeld = (l : Layout) (address : ℕ → ℕ) (size : ℕ) (g : Stage) (s : State) (a : Activation) (rest : List Activation) (id : ℕ)
    → KeepsState l address size g s → s.stack ≡ a ∷ rest → id < length a.values
    → HoldsVersions g ((l.frames a.function).places id) (word_of address (slice_index_or a.values id Poison))

-- after a value of the innermost activation was defined, its slots hold the new one, and all else is kept
abbrev pub ResultsAreKept : Type 0
ResultsAreKept = (p : Program) (l : Layout) (address : ℕ → ℕ) (g : Stage) (a : Activation) (rest : List Activation) (id : ℕ) (v : Value)
    → IsGoodFrame (l.frames a.function) (function_at p a.function).values → HaveValues p (a ∷ rest) → id < length a.values
    → KeepsStack l address g.slots g.base (a ∷ rest)
    → KeepsStack l address (defined g ((l.frames a.function).places id) (word_of address v)).slots g.base (after (Some id) v a ∷ rest)

-- a slot of a frame of so many values that is one of a value's, or the return address's
abbrev pub IsInUse : FrameLayout → ℕ → ℕ → Type 0
IsInUse l values n = ((id : ℕ) × (id < values) × ((n ≡ (l.places id).one) ⊎ (n ≡ (l.places id).two) ⊎ (n ≡ (l.places id).three))) ⊎ (n ≡ l.link)

-- what is known of other slots of the innermost frame, and below it, may change
abbrev pub OtherSlotsAreFree : Type 0
OtherSlotsAreFree = (p : Program) (l : Layout) (address : ℕ → ℕ) (before later : ℕ → Cell) (base : ℕ) (a : Activation) (rest : List Activation)
    → HaveValues p (a ∷ rest) → ((k : ℕ) → base + (l.frames a.function).size ≤ k → later k ≡ before k)
    → ((n : ℕ) → IsInUse (l.frames a.function) (function_at p a.function).values n → later (base + n) ≡ before (base + n))
    → KeepsStack l address before base (a ∷ rest) → KeepsStack l address later base (a ∷ rest)

-- a frame for a function that is called, right below the others: it keeps the arguments, of the other values nothing is known, and it keeps the
-- address of the words after the call
pub record KeepsCall (l : Layout) (address : ℕ → ℕ) (later : ℕ → Cell) (inner f values : ℕ) (arguments : List Value) (a : Activation) : Type 0 where
  pub arguments_are : (id : ℕ) → id < length arguments → KeepsThree later inner ((l.frames f).places id) (word_of address (slice_index_or arguments id Poison))
  pub others_are : (id : ℕ) → length arguments ≤ id → id < values → KeepsThree later inner ((l.frames f).places id) None
  pub link_is : later (inner + (l.frames f).link) ≡ Has Sure (l.back a.function a.block a.position)

-- then the stack is kept with the new activation on it
abbrev pub EntriesAreKept : Type 0
EntriesAreKept = (p : Program) (l : Layout) (address : ℕ → ℕ) (before later : ℕ → Cell) (base inner f : ℕ) (arguments : List Value) (a : Activation)
    (rest : List Activation) → inner + (l.frames f).size ≡ base → length arguments ≤ (function_at p f).values → KeepsStack l address before base (a ∷ rest)
    → ((k : ℕ) → base ≤ k → later k ≡ before k) → KeepsCall l address later inner f (function_at p f).values arguments a
    → KeepsStack l address later inner (entered p f arguments ∷ a ∷ rest)

-- where a function returns, its frame has the address to which, and the activation below is kept in the frame above
abbrev pub CallersAreKept : Type 0
CallersAreKept = (l : Layout) (address : ℕ → ℕ) (slots : ℕ → Cell) (base : ℕ) (a b : Activation) (rest : List Activation)
    → KeepsStack l address slots base (a ∷ b ∷ rest)
    → (slots (base + (l.frames a.function).link) ≡ Has Sure (l.back b.function b.block b.position))
    × KeepsStack l address slots (base + (l.frames a.function).size) (b ∷ rest)

-- what a frame keeps where a block is entered: of each phi what it takes from where the activation stands, and of each other value what it had
pub record KeepsEntry (l : FrameLayout) (address : ℕ → ℕ) (before later : ℕ → Cell) (base : ℕ) (a : Activation) (phis : List Phi) : Type 0 where
  pub phis_are : AllByRecursion (λ (x : Phi). (x.result < length a.values)
      × KeepsThree later base (l.places x.result) (word_of address (value_of a.values (input_from a.block x.inputs)))) phis
  pub others_are : (id : ℕ) → id < length a.values → AllByRecursion (λ (x : Phi). x.result ≢ id) phis
      → KeepsThree later base (l.places id) (word_of address (slice_index_or a.values id Poison))
  pub link_is : later (base + l.link) ≡ before (base + l.link)
  pub above_are : (k : ℕ) → base + l.size ≤ k → later k ≡ before k

-- then the stack is kept with the activation in that block
abbrev pub BlocksAreKept : Type 0
BlocksAreKept = (p : Program) (l : Layout) (address : ℕ → ℕ) (before later : ℕ → Cell) (base to : ℕ) (a : Activation) (rest : List Activation)
    → KeepsStack l address before base (a ∷ rest)
    → KeepsEntry (l.frames a.function) address before later base a (block_in p a.function to).phis
    → KeepsStack l address later base (at_block p to a ∷ rest)
