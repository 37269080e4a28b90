-- Where a compiled program keeps the values of its activations: in slots of a frame, each value three times. A slot is a word of eight
-- bytes of the data, counted from the frame's begin.
use Rattle.std.specs.Prelude.{◌≡◌, ◌≢◌, ◌<◌, ◌≤◌, ◌+◌, ◌*◌, ◌⊎◌, ℕ, List, [], ◌∷◌, length}
use Rattle.ir_model.specs.Programs.{Phi, Program, function_at, block_in}
use Rattle.flip_frames.specs.Fetching.{Triple}
use Rattle.flip_versions.specs.Operations.{AreDifferent, IsOther}
use Rattle.flip_copies.specs.Copies.{IsClear}

-- the frame of a function: how many slots it has, which of them each value has by its number, which of them are the cells in which the
-- input of a phi waits until all inputs are read, and the one of the return address
pub record FrameLayout : Type 0 where
  pub size : ℕ
  pub places : ℕ → Triple
  pub cells : ℕ → Triple
  pub link : ℕ

-- a program's: the frames of its functions; by function, block and position the address of each instruction's words, and that of the words to
-- which a call there returns; and the word of the data just above the frame of `main`
pub record Layout : Type 0 where
  pub frames : ℕ → FrameLayout
  pub code : (function block position : ℕ) → ℕ
  pub back : (function block position : ℕ) → ℕ
  pub top : ℕ

-- slots lie in a frame of so many
pub record AreInFrame (size : ℕ) (x : Triple) : Type 0 where
  pub one : x.one < size
  pub two : x.two < size
  pub three : x.three < size

-- a frame has slots of their own for each of so many values, and the return address has another one
pub record IsGoodFrame (l : FrameLayout) (values : ℕ) : Type 0 where
  pub inside : (id : ℕ) → id < values → AreInFrame l.size (l.places id)
  pub different : (id : ℕ) → id < values → AreDifferent (l.places id)
  pub apart : (id other : ℕ) → id < values → other < values → id ≢ other → IsClear (l.places id) (l.places other)
  pub link_spared : (id : ℕ) → id < values → IsOther (l.places id) l.link

-- one of the phis gives the value of a number
abbrev pub IsGivenBy : List Phi → ℕ → Type 0
IsGivenBy [] id = ⊥
IsGivenBy (x ∷ xs) id = (x.result ≡ id) ⊎ IsGivenBy xs id

-- a frame has cells of their own for the phis of a block, beside the slots of so many values and the return address; phis of different
-- blocks may share cells
pub record AreGoodCells (l : FrameLayout) (values : ℕ) (phis : List Phi) : Type 0 where
  pub inside : (id : ℕ) → IsGivenBy phis id → AreInFrame l.size (l.cells id)
  pub different : (id : ℕ) → IsGivenBy phis id → AreDifferent (l.cells id)
  pub apart : (id other : ℕ) → IsGivenBy phis id → IsGivenBy phis other → id ≢ other → IsClear (l.cells id) (l.cells other)
  pub values_spared : (id other : ℕ) → IsGivenBy phis id → other < values → IsClear (l.cells id) (l.places other)
  pub link_spared : (id : ℕ) → IsGivenBy phis id → IsOther (l.cells id) l.link

-- a layout is good for a program: its frames are, and their cells for the phis of each block; that of each function of the program has
-- a slot for the return address in it; they are no larger than what an activation is counted as; and the stack of 8,388,608 bytes lies in the data
-- above their first two words
pub record IsGoodLayout (p : Program) (l : Layout) (size : ℕ) : Type 0 where
  pub frames : (f : ℕ) → IsGoodFrame (l.frames f) (function_at p f).values
  pub cells : (f block : ℕ) → AreGoodCells (l.frames f) (function_at p f).values (block_in p f block).phis
  pub links : (f : ℕ) → f < length p.functions → (l.frames f).link < (l.frames f).size
  pub counted : (f : ℕ) → 8 * (l.frames f).size ≤ (function_at p f).frame
  pub room : 16 + 8388608 ≤ 8 * l.top
  pub within : 8 * l.top ≤ size
  pub small : size ≤ 0x4000_0000
