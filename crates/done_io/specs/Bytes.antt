-- Instructions that put out a byte or read one, and the end of a program, as words: what they do to what the machine keeps of a state.
use Rattle.std.specs.Prelude.{◌≡◌, ◌<◌, ◌+◌, ◌*◌, ℕ, pos, List, [], ◌∷◌, ◌++◌, length, Some, None}
use Rattle.ir_model.specs.Values.{Value}
use Rattle.ir_model.specs.Programs.{Operand, PutChar, GetChar, Return, Action, Program}
use Rattle.ir_model.specs.States.{Activation, State, Continues, Ends, value_of, instruction_at}
use Rattle.ir_model.specs.Steps.{step}
use Rattle.ir_model.specs.Runs.{IsWithinStack}
use Rattle.ir_typed_runs.specs.Kinds.{OfWidth, IsOfKind}
use Rattle.rv_inst.specs.declared.instruction.Form.{Form}
use Rattle.rv_inst.specs.declared.instruction.Form.TheVariants.{ANDI}
use Rattle.rv_flips.specs.Cells.{One}
use Rattle.rv_flips.specs.Assertion.{AreBytes}
use Rattle.rv_flips.specs.Moves.{Finishes}
use Rattle.flip_words.specs.Placed.{WindowPoints, Excepted, IsPlaced}
use Rattle.flip_frames.specs.Views.{Stage, at_address}
use Rattle.flip_versions.specs.Operations.{resting}
use Rattle.flip_guards.specs.Sources.{Part}
use Rattle.flip_operations.specs.Operations.{one_operand}
use Rattle.flip_io.specs.Output.{put_words}
use Rattle.flip_io.specs.Input.{get_words}
use Rattle.flip_io.specs.Ending.{end_words}
use Rattle.kept_states.specs.Layouts.{FrameLayout, Layout, IsGoodLayout}
use Rattle.kept_states.specs.Kept.{KeepsState}
use Rattle.kept_states.specs.Laws.{HaveValues}
use Rattle.done_operations.specs.Sources.{MakeWords, source_of, IsWithin}
use Rattle.done_operations.specs.Operations.{Reaches}

-- a state in which an instruction with this action, result and operands comes next
pub record AtAction (p : Program) (s : State) (action : Action) (operands : List Operand) (a : Activation) (rest : List Activation) (id : ℕ) : Type 0 where
  pub stack : s.stack ≡ a ∷ rest
  pub next : instruction_at p a ≡ Some (record { result = Some id; action = action; operands = operands })
  pub result_there : id < length a.values
  pub values : HaveValues p (a ∷ rest)

-- the words of `putchar`: the byte is put out, and what is given back is made of the three versions of the operand
abbrev pub put_at : FrameLayout → (Value → List Part) → Operand → ℕ → List Form
put_at l parts x id = put_words (source_of l parts x) ++ one_operand (ANDI 5 5 (pos 255) ∷ []) (source_of l parts x) (l.places id)

-- they do its step
abbrev pub OutputsAreDone : Type 0
OutputsAreDone = (p : Program) (l : Layout) (address : ℕ → ℕ) (size : ℕ) (words : List ℕ) (parts : Value → List Part) (g : Stage) (s t : State)
    (a : Activation) (rest : List Activation) (x : Operand) (id from : ℕ) → IsGoodLayout p l size → MakeWords address parts → KeepsState l address size g s
    → AtAction p s PutChar (x ∷ []) a rest id → IsWithin (length a.values) x → IsOfKind (length s.memory) (OfWidth 32) (value_of a.values x)
    → IsWithinStack p s → step p s ≡ Continues t → IsPlaced words from (put_at (l.frames a.function) parts x id)
    → Reaches l address size words g t from (length (put_at (l.frames a.function) parts x id))

-- and those of `getchar` do its step
abbrev pub InputsAreDone : Type 0
InputsAreDone = (p : Program) (l : Layout) (address : ℕ → ℕ) (size : ℕ) (words : List ℕ) (g : Stage) (s t : State)
    (a : Activation) (rest : List Activation) (id from : ℕ) → IsGoodLayout p l size → KeepsState l address size g s
    → AtAction p s GetChar [] a rest id → AreBytes s.input → IsWithinStack p s → step p s ≡ Continues t
    → IsPlaced words from (get_words ((l.frames a.function).places id))
    → Reaches l address size words g t from (length (get_words ((l.frames a.function).places id)))

-- a state in which `main` returns a value next
pub record AtEnd (p : Program) (s : State) (a : Activation) (x : Operand) : Type 0 where
  pub stack : s.stack ≡ a ∷ []
  pub next : instruction_at p a ≡ Some (record { result = None; action = Return; operands = x ∷ [] })
  pub there : IsWithin (length a.values) x
  pub kind : IsOfKind (length s.memory) (OfWidth 32) (value_of a.values x)
  pub values : HaveValues p (a ∷ [])

-- the words of the end finish with the output so far and with the status of the meaning, whatever flip comes
abbrev pub EndsAreDone : Type 0
EndsAreDone = (p : Program) (l : Layout) (address : ℕ → ℕ) (size : ℕ) (words : List ℕ) (parts : Value → List Part) (g : Stage) (s : State) (status : ℕ)
    (a : Activation) (x : Operand) (from : ℕ) → IsGoodLayout p l size → MakeWords address parts → KeepsState l address size g s → AtEnd p s a x
    → IsWithinStack p s → step p s ≡ Ends status → IsPlaced words from (end_words (source_of (l.frames a.function) parts x))
    → Finishes words (Excepted WindowPoints words) (at_address (resting g One) from) (length (end_words (source_of (l.frames a.function) parts x))) s.out status
