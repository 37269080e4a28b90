-- A return to an activation that waits, as words: those of the function that returns, and those after the call in its caller.
use Rattle.std.specs.Prelude.{◌≡◌, ◌<◌, ◌+◌, ◌*◌, ◌%◌, ⊤, ℕ, List, [], ◌∷◌, ◌++◌, length, Option, Some, None}
use Rattle.ir_model.specs.Values.{Value, Poison}
use Rattle.ir_model.specs.Memory.{all_ended}
use Rattle.ir_model.specs.Programs.{Operand, Instruction, Call, Return, ReturnVoid, Program, function_at}
use Rattle.ir_model.specs.States.{Activation, State, Continues, value_of, instruction_at}
use Rattle.ir_model.specs.Steps.{step}
use Rattle.ir_model.specs.Runs.{IsWithinStack}
use Rattle.rv_inst.specs.declared.instruction.Form.{Form}
use Rattle.rv_flips.specs.Cells.{One}
use Rattle.flip_words.specs.Placed.{IsPlaced}
use Rattle.flip_frames.specs.Views.{Stage}
use Rattle.flip_frames.specs.Fetching.{Triple}
use Rattle.flip_versions.specs.Operations.{resting, AreDifferent, IsOther}
use Rattle.flip_jumps.specs.Places.{Goes}
use Rattle.flip_guards.specs.Sources.{Part}
use Rattle.flip_guards.specs.Fetching.{in_slots}
use Rattle.flip_copies.specs.Copies.{Copy, IsClear, copies_words}
use Rattle.flip_calls.specs.Frames.{based_at}
use Rattle.flip_calls.specs.Calls.{return_words, after_words}
use Rattle.kept_states.specs.Layouts.{FrameLayout, Layout, AreInFrame, IsGoodLayout}
use Rattle.kept_states.specs.Kept.{word_of, KeepsThree, KeepsState}
use Rattle.kept_states.specs.Laws.{HaveValues}
use Rattle.done_operations.specs.Sources.{MakeWords, source_of, IsWithin}
use Rattle.done_operations.specs.Operations.{Reaches}
use Rattle.done_flow.specs.Edges.{Arrives}
use Rattle.done_calls.specs.Calls.{seen_from_below}

-- slots of the frame of a function in which its result waits for the caller: of their own, beside so many values and the return address
pub record IsGoodResult (l : FrameLayout) (values : ℕ) (r : Triple) : Type 0 where
  pub inside : AreInFrame l.size r
  pub different : AreDifferent r
  pub apart : (id : ℕ) → id < values → IsClear r (l.places id)
  pub link_spared : IsOther r l.link

-- each function of a program has such slots
abbrev pub AreGoodResults : Program → Layout → (ℕ → Triple) → Type 0
AreGoodResults p l results = (f : ℕ) → f < length p.functions → IsGoodResult (l.frames f) (function_at p f).values (results f)

-- ---- in the function that returns
-- a value that is returned, if there is one, is copied to where the result waits
abbrev pub result_copies : FrameLayout → (Value → List Part) → Triple → Option Operand → List Copy
result_copies l parts r None = []
result_copies l parts r (Some x) = record { source = source_of l parts x; goal = r; id = 0 } ∷ []

-- the words of a return: then the return address is loaded, and jumped to
abbrev pub return_at : FrameLayout → (Value → List Part) → Triple → Option Operand → List Form
return_at l parts r given = copies_words (result_copies l parts r given) ++ return_words l.link

-- the value that the caller is given
abbrev pub returned : List Value → Option Operand → Value
returned values None = Poison
returned values (Some x) = value_of values x

-- the instruction
abbrev pub return_of : Option Operand → Instruction
return_of None = record { result = None; action = ReturnVoid; operands = [] }
return_of (Some x) = record { result = None; action = Return; operands = x ∷ [] }

-- the operand of a return, if it has one, is there
abbrev pub IsWithinIfGiven : ℕ → Option Operand → Type 0
IsWithinIfGiven values None = ⊤
IsWithinIfGiven values (Some x) = IsWithin values x

-- a state in which an activation returns next to one that waits for it
pub record AtReturn (p : Program) (s : State) (given : Option Operand) (a b : Activation) (rest : List Activation) : Type 0 where
  pub stack : s.stack ≡ a ∷ b ∷ rest
  pub next : instruction_at p a ≡ Some (return_of given)
  pub there : IsWithinIfGiven (length a.values) given
  pub values : HaveValues p (a ∷ b ∷ rest)

-- the state with the caller where it waited: the blocks of memory of the activation that has returned are dead
abbrev pub left_by : Activation → Activation → List Activation → State → State
left_by a b rest s = record s { stack = b ∷ rest; memory = all_ended a.owned s.memory }

-- a stage keeps a state to which a function has returned a value: its frame is still the innermost one, and has the value where it waits
pub record KeepsResult (l : Layout) (address : ℕ → ℕ) (size : ℕ) (results : ℕ → Triple) (g : Stage) (s : State) (f : ℕ)
    (v : Value) : Type 0 where
  pub value : KeepsThree g.slots g.base (results f) (word_of address v)
  pub caller : KeepsState l address size (based_at g (g.base + (l.frames f).size)) s

-- the machine goes to the words after a call, where it keeps the result
pub record GivesBack (l : Layout) (address : ℕ → ℕ) (size : ℕ) (words : List ℕ) (results : ℕ → Triple) (g : Stage) (s : State)
    (f : ℕ) (v : Value) (from count to : ℕ) : Type 0 where
  pub stage : Stage
  pub kept : KeepsResult l address size results stage s f v
  pub goes : Goes words (resting g One) from count (resting stage One) to

-- the words of a return do that, where the address of the words after the call is even
abbrev pub FunctionsReturn : Type 0
FunctionsReturn = (p : Program) (l : Layout) (address : ℕ → ℕ) (size : ℕ) (words : List ℕ) (parts : Value → List Part)
    (results : ℕ → Triple) (g : Stage) (s : State) (given : Option Operand) (a b : Activation) (rest : List Activation) (from : ℕ)
    → IsGoodLayout p l size → AreGoodResults p l results → MakeWords address parts → KeepsState l address size g s
    → AtReturn p s given a b rest → IsWithinStack p s → l.back b.function b.block b.position % 2 ≡ 0
    → IsPlaced words from (return_at (l.frames a.function) parts (results a.function) given)
    → GivesBack l address size words results g (left_by a b rest s) a.function (returned a.values given) from
    (length (return_at (l.frames a.function) parts (results a.function) given)) (l.back b.function b.block b.position)

-- ---- in its caller
-- the result, if it is used, is copied to the slots of the value that the call gives
abbrev pub taken_copies : FrameLayout → Triple → Option ℕ → List Copy
taken_copies caller r None = []
taken_copies caller r (Some id) = record { source = in_slots r; goal = caller.places id; id = 0 } ∷ []

-- the words after a call: the result is taken, and then the frame goes up by that of the function called
abbrev pub after_at : FrameLayout → FrameLayout → Triple → Option ℕ → List Form
after_at caller callee r result = after_words (taken_copies (seen_from_below callee.size caller) r result) callee.size

-- the value that a call gives, if it gives one, is one of so many
abbrev pub IsResultOf : ℕ → Option ℕ → Type 0
IsResultOf values None = ⊤
IsResultOf values (Some id) = id < values

-- an activation waits at a call of a function, for a result or for none
pub record WaitsFor (p : Program) (b : Activation) (f : ℕ) (result : Option ℕ) (xs : List Operand) : Type 0 where
  pub next : instruction_at p b ≡ Some (record { result = result; action = Call f; operands = xs })
  pub there : IsResultOf (length b.values) result

-- the words after a call do the rest of the step of the return
abbrev pub ResultsAreDone : Type 0
ResultsAreDone = (p : Program) (l : Layout) (address : ℕ → ℕ) (size : ℕ) (words : List ℕ) (results : ℕ → Triple) (g : Stage)
    (s t : State) (given : Option Operand) (result : Option ℕ) (xs : List Operand) (a b : Activation) (rest : List Activation) (from : ℕ)
    → IsGoodLayout p l size → AreGoodResults p l results → AtReturn p s given a b rest → WaitsFor p b a.function result xs
    → KeepsResult l address size results g (left_by a b rest s) a.function (returned a.values given)
    → IsWithinStack p s → step p s ≡ Continues t
    → IsPlaced words from (after_at (l.frames b.function) (l.frames a.function) (results a.function) result)
    → Reaches l address size words g t from (length (after_at (l.frames b.function) (l.frames a.function) (results a.function) result))

-- ---- both
-- the words of a return and those after the call do the step of the return
abbrev pub ReturnsAreDone : Type 0
ReturnsAreDone = (p : Program) (l : Layout) (address : ℕ → ℕ) (size : ℕ) (words : List ℕ) (parts : Value → List Part)
    (results : ℕ → Triple) (g : Stage) (s t : State) (given : Option Operand) (result : Option ℕ) (xs : List Operand) (a b : Activation)
    (rest : List Activation) (from : ℕ) → IsGoodLayout p l size → AreGoodResults p l results → MakeWords address parts
    → KeepsState l address size g s → AtReturn p s given a b rest → WaitsFor p b a.function result xs
    → IsWithinStack p s → step p s ≡ Continues t → IsPlaced words from (return_at (l.frames a.function) parts (results a.function) given)
    → IsPlaced words (l.back b.function b.block b.position)
    (after_at (l.frames b.function) (l.frames a.function) (results a.function) result)
    → Arrives l address size words g t from
    (length (return_at (l.frames a.function) parts (results a.function) given)
    + length (after_at (l.frames b.function) (l.frames a.function) (results a.function) result))
    (l.back b.function b.block b.position + 4 * length (after_at (l.frames b.function) (l.frames a.function) (results a.function) result))
