-- What is known between sequences: a frame at the stack pointer, of which three copies are kept, and values of one version in scratch
-- registers.
use Rattle.std.specs.Prelude.{◌≡◌, ℕ, ◌+◌, ◌*◌, ◌≤◌, ◌==◌, ◌||◌, Bool, List, [], ◌++◌, Option, Some, None, length, if◌then◌else◌}
use Rattle.rv_inst.specs.declared.instruction.Form.{Form}
use Rattle.rv_flips.specs.Cells.{Tag, Sure, One, Two, Three, Code, Leaf, Cell, Free, Has}
use Rattle.rv_flips.specs.Assertion.{KnownByte, Assertion}
use Rattle.flip_words.specs.Placed.{WindowPoints, Excepted, Carries}
use Rattle.flip_words.specs.Words.{slot_address}

-- the state of memory and of the registers that no sequence takes for scratch: the frame begins at word `base` of the data
pub record Stage : Type 0 where
  pub base : ℕ
  pub places : ℕ → Cell
  pub slots : ℕ → Cell
  pub bytes : ℕ → KnownByte
  pub size : ℕ
  pub input : List ℕ
  pub out : List ℕ

-- the scratch registers: x5 to x7 and x28 to x31
abbrev pub is_scratch : ℕ → Bool
is_scratch r = r == 5 || (r == 6 || (r == 7 || (r == 28 || (r == 29 || (r == 30 || r == 31)))))

-- a version of a value, of which nothing is known where the value isn't
abbrev pub version : Tag → Option ℕ → Cell
version tag None = Free
version tag (Some v) = Has tag v

-- what each register holds: x0 is 0, x2 to x4 are the copies of the stack pointer, scratch registers hold versions with one tag, and of
-- the others the stage says it
unfoldable pub view_cell : Stage → Tag → (ℕ → Option ℕ) → ℕ → Cell
view_cell stage tag file q =
    if q == 0 then Has Sure 0
    else if q == 2 then Has One (slot_address stage.base)
    else if q == 3 then Has Two (slot_address stage.base)
    else if q == 4 then Has Three (slot_address stage.base)
    else if is_scratch q then version tag (file q)
    else stage.places q

-- a stage, and the values in scratch registers, of which each is kept with the tag; None where nothing is known
pub record View : Type 0 where
  pub stage : Stage
  pub tag : Tag
  pub file : ℕ → Option ℕ

-- what the view says at the address p
abbrev pub at_address : View → ℕ → Assertion
at_address v p = record {
  pc = p;
  regs = view_cell v.stage v.tag v.file;
  slots = v.stage.slots;
  bytes = v.stage.bytes;
  size = v.stage.size;
  input = v.stage.input;
  out = v.stage.out;
}

-- the tag is that of a version: of a copy, or of the plain version of a pair
abbrev pub IsVersion : Tag → Type 0
IsVersion Sure = ⊥
IsVersion Code = ⊥
IsVersion (Leaf first more) = ⊥
IsVersion _ = Unit {0}

-- no register but x0 is kept for sure, so that no point need be left out; and the data are such that no address in them wraps around
pub record IsView (v : View) : Type 0 where
  pub tag : IsVersion v.tag
  pub places : (q w : ℕ) → v.stage.places q ≡ Has Sure w → ⊥
  pub size : v.stage.size ≤ 0x4000_0000
  pub base : 8 * v.stage.base ≤ 0x4000_0000

-- wherever the code stands in the text, it carries one view to the other, outside the window points
pub record Runs (words : List ℕ) (code : List Form) (v w : View) : Type 0 where
  pub carries : IsView v → (p : ℕ) → Carries words (Excepted WindowPoints words) code (at_address v p) (at_address w (p + 4 * length code))
  pub kept : IsView v → IsView w

-- one sequence and then another is one sequence
abbrev pub RunsJoin : Type 0
RunsJoin = (words : List ℕ) (xs ys : List Form) (u v w : View) → Runs words xs u v → Runs words ys v w → Runs words (xs ++ ys) u w

-- the values with another one in register r
unfoldable pub with_value : (ℕ → Option ℕ) → ℕ → Option ℕ → ℕ → Option ℕ
with_value file r o q = if q == r then o else file q

-- no value is known
abbrev pub no_values : ℕ → Option ℕ
no_values q = None

-- the view with this value in register r
abbrev pub with_scratch : View → ℕ → Option ℕ → View
with_scratch v r o = record v { file = with_value v.file r o }

-- the turn of the next version: what is known of scratch registers is forgotten, and values are kept with another tag from here
abbrev pub next_version : View → Tag → View
next_version v tag = record v { tag = tag; file = no_values }

abbrev pub VersionsTurn : Type 0
VersionsTurn = (words : List ℕ) (v : View) (tag : Tag) → IsVersion tag → Runs words [] v (next_version v tag)
