-- A call, as words: the frame of the function is set up right below the caller's, with the arguments and the return address in it.
use Rattle.std.specs.Prelude.{◌≡◌, ◌≤◌, ◌<◌, ◌+◌, ◌*◌, ℕ, suc, ℤ, List, [], ◌∷◌, length, Option, Some}
use Rattle.std.specs.List.{AllByRecursion}
use Rattle.ir_model.specs.Values.{Value}
use Rattle.ir_model.specs.Programs.{Operand, Call, Program, function_at}
use Rattle.ir_model.specs.States.{Activation, State, Continues, instruction_at}
use Rattle.ir_model.specs.Steps.{step}
use Rattle.ir_model.specs.Runs.{IsWithinStack}
use Rattle.rv_inst.specs.declared.instruction.Form.{Form}
use Rattle.flip_words.specs.Placed.{IsPlaced}
use Rattle.flip_frames.specs.Views.{Stage}
use Rattle.flip_frames.specs.Fetching.{Triple}
use Rattle.flip_jumps.specs.Jumps.{target}
use Rattle.flip_guards.specs.Sources.{Part}
use Rattle.flip_copies.specs.Copies.{Copy}
use Rattle.flip_calls.specs.Calls.{call_words, jump_of, back_of, entry_words}
use Rattle.kept_states.specs.Layouts.{FrameLayout, Layout, IsGoodLayout}
use Rattle.kept_states.specs.Kept.{KeepsState}
use Rattle.kept_states.specs.Laws.{HaveValues}
use Rattle.done_operations.specs.Sources.{MakeWords, source_of, IsWithin}
use Rattle.done_flow.specs.Edges.{Arrives}

-- slots of a frame, as a frame of n slots right below it counts them
abbrev pub from_below : ℕ → Triple → Triple
from_below n x = record { one = n + x.one; two = n + x.two; three = n + x.three }

-- the layout of a frame with its values' slots counted so
abbrev pub seen_from_below : ℕ → FrameLayout → FrameLayout
seen_from_below n l = record l { places = λ id. from_below n (l.places id) }

-- arguments are copied to the first values of a function, one by one from value k on
abbrev pub copies_to : FrameLayout → FrameLayout → (Value → List Part) → ℕ → List Operand → List Copy
copies_to callee caller parts k [] = []
copies_to callee caller parts k (x ∷ xs) =
    record { source = source_of caller parts x; goal = callee.places k; id = k } ∷ copies_to callee caller parts (suc k) xs

-- the arguments of a call, by the frames of the caller and of the function called
abbrev pub argument_copies : FrameLayout → FrameLayout → (Value → List Part) → List Operand → List Copy
argument_copies caller callee parts xs = copies_to callee (seen_from_below callee.size caller) parts 0 xs

-- the words of a call: the frame goes down by that of the function called, the arguments are copied, and a jump goes to the function
abbrev pub call_at : FrameLayout → FrameLayout → (Value → List Part) → List Operand → ℤ → List Form
call_at caller callee parts xs offset = call_words callee.size (argument_copies caller callee parts xs) offset

-- where the jump of a call leads whose words stand at an address
abbrev pub called_at : FrameLayout → FrameLayout → (Value → List Part) → List Operand → ℤ → ℕ → ℕ
called_at caller callee parts xs offset from = target (jump_of from callee.size (argument_copies caller callee parts xs)) offset

-- a state in which a call of a function of the program comes next: the arguments are there, and are no more than the function has values
pub record AtCall (p : Program) (s : State) (f : ℕ) (result : Option ℕ) (xs : List Operand) (a : Activation) (rest : List Activation)
    : Type 0 where
  pub stack : s.stack ≡ a ∷ rest
  pub next : instruction_at p a ≡ Some (record { result = result; action = Call f; operands = xs })
  pub function_there : f < length p.functions
  pub there : AllByRecursion (IsWithin (length a.values)) xs
  pub few : length xs ≤ (function_at p f).values
  pub values : HaveValues p (a ∷ rest)

-- the words of a call and those of the entry of the function come to the word after the entry, and keep there the state in which the
-- function has been entered, where the layout has the word after the call's jump as the address of the return
abbrev pub CallsAreDone : Type 0
CallsAreDone = (p : Program) (l : Layout) (address : ℕ → ℕ) (size : ℕ) (words : List ℕ) (parts : Value → List Part) (g : Stage)
    (s t : State) (f : ℕ) (result : Option ℕ) (xs : List Operand) (a : Activation) (rest : List Activation) (from : ℕ) (offset : ℤ)
    → IsGoodLayout p l size → MakeWords address parts → KeepsState l address size g s
    → AtCall p s f result xs a rest → step p s ≡ Continues t → IsWithinStack p t
    → IsPlaced words from (call_at (l.frames a.function) (l.frames f) parts xs offset)
    → IsPlaced words (called_at (l.frames a.function) (l.frames f) parts xs offset from) (entry_words (l.frames f).link)
    → back_of from (l.frames f).size (argument_copies (l.frames a.function) (l.frames f) parts xs) ≡ l.back a.function a.block a.position
    → Arrives l address size words g t from
    (length (call_at (l.frames a.function) (l.frames f) parts xs offset) + length (entry_words (l.frames f).link))
    (called_at (l.frames a.function) (l.frames f) parts xs offset from + 4 * length (entry_words (l.frames f).link))
