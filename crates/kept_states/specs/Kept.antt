-- What the machine keeps of a state of a program.
use Rattle.std.specs.Prelude.{◌≡◌, ◌<◌, ◌+◌, ◌%◌, ◌^◌, ⊤, ℕ, List, [], ◌∷◌, length, Option, Some, None, slice_index_or}
use Rattle.ir_model.specs.Values.{Value, Integer, Address, Poison}
use Rattle.ir_model.specs.Pointers.{extended}
use Rattle.ir_model.specs.States.{Activation, State}
use Rattle.rv_flips.specs.Cells.{Cell, Free, Has, Sure, One, Two, Three}
use Rattle.flip_frames.specs.Views.{Stage, version}
use Rattle.flip_frames.specs.Fetching.{Triple}
use Rattle.kept_states.specs.Layouts.{FrameLayout, Layout}

-- the word of a value: an integer extended by its sign, an address by the address of its block; poison has none
abbrev pub word_of : (ℕ → ℕ) → Value → Option ℕ
word_of address (Integer width n) = Some (extended width n)
word_of address (Address q) = Some ((address q.block + q.offset) % 2 ^ 64)
word_of address Poison = None

-- three slots of a frame hold three versions of a value, or nothing is known of them
pub record KeepsThree (slots : ℕ → Cell) (base : ℕ) (x : Triple) (o : Option ℕ) : Type 0 where
  pub one : slots (base + x.one) ≡ version One o
  pub two : slots (base + x.two) ≡ version Two o
  pub three : slots (base + x.three) ≡ version Three o

-- a frame keeps the values of an activation
abbrev pub KeepsValues : (ℕ → ℕ) → FrameLayout → (ℕ → Cell) → ℕ → List Value → Type 0
KeepsValues address l slots base values = (id : ℕ) → id < length values → KeepsThree slots base (l.places id) (word_of address (slice_index_or values id Poison))

-- the frame of a function keeps the address of the words that follow the call at which the activation below waits, if there is one
abbrev pub KeepsLink : Layout → (ℕ → Cell) → ℕ → ℕ → List Activation → Type 0
KeepsLink l slots base f [] = ⊤
KeepsLink l slots base f (b ∷ rest) = slots (base + (l.frames f).link) ≡ Has Sure (l.back b.function b.block b.position)

-- frames keep the activations of a stack, one above the other: that of the innermost begins at the word `base`, that of `main` ends at the top
abbrev pub KeepsStack : Layout → (ℕ → ℕ) → (ℕ → Cell) → ℕ → List Activation → Type 0
KeepsStack l address slots base [] = base ≡ l.top
KeepsStack l address slots base (a ∷ rest) =
    KeepsValues address (l.frames a.function) slots base a.values × KeepsLink l slots base a.function rest
    × KeepsStack l address slots (base + (l.frames a.function).size) rest

-- a stage keeps a state, by the addresses of the blocks of memory: the activations, what is left of the input, and the output. No value is kept in a
-- register from one instruction to the next
pub record KeepsState (l : Layout) (address : ℕ → ℕ) (size : ℕ) (g : Stage) (s : State) : Type 0 where
  pub stack : KeepsStack l address g.slots g.base s.stack
  pub places : (r : ℕ) → g.places r ≡ Free
  pub data_size : g.size ≡ size
  pub input : g.input ≡ s.input
  pub out : g.out ≡ s.out
