-- Instructions that compute, as words: what they do to what the machine keeps of a state.
use Rattle.std.specs.Prelude.{◌≡◌, ◌<◌, ◌+◌, ◌*◌, ℕ, List, [], ◌∷◌, length, Some}
use Rattle.ir_tree.specs.declared.module.Bin.{Bin}
use Rattle.ir_tree.specs.declared.module.Flags.{Flags}
use Rattle.ir_tree.specs.declared.module.Pred.{Pred}
use Rattle.ir_tree.specs.declared.module.Conv.{Conv}
use Rattle.ir_model.specs.Values.{Value}
use Rattle.ir_model.specs.Operations.{Operation, Binary, Compare, Convert, Freeze}
use Rattle.ir_model.specs.Programs.{Operand, Compute, Program}
use Rattle.ir_model.specs.States.{Activation, State, Continues, value_of, instruction_at}
use Rattle.ir_model.specs.Steps.{step}
use Rattle.ir_model.specs.Runs.{IsWithinStack}
use Rattle.ir_typed_runs.specs.Kinds.{OfWidth, HasWidth, IsOfKind, Converts}
use Rattle.rv_inst.specs.declared.instruction.Form.{Form}
use Rattle.rv_flips.specs.Cells.{One}
use Rattle.flip_words.specs.Placed.{IsPlaced}
use Rattle.flip_frames.specs.Views.{Stage}
use Rattle.flip_versions.specs.Operations.{resting}
use Rattle.flip_jumps.specs.Places.{Goes}
use Rattle.flip_guards.specs.Sources.{Part}
use Rattle.flip_operations.specs.Operations.{two_operands, one_operand}
use Rattle.op_words.specs.Words.{binary_words, compare_words, convert_words}
use Rattle.kept_states.specs.Layouts.{FrameLayout, Layout, IsGoodLayout}
use Rattle.kept_states.specs.Kept.{KeepsState}
use Rattle.kept_states.specs.Laws.{HaveValues}
use Rattle.done_operations.specs.Sources.{MakeWords, source_of, IsWithin}

-- a state in which a binary operation comes next, and what is known of it: the innermost activation and those below, the operands and the number
-- of the result, which are there, and that operands are of the operation's width
pub record AtBinary (p : Program) (s : State) (operation : Operation) (width : ℕ) (a : Activation) (rest : List Activation) (x y : Operand) (id : ℕ) : Type 0 where
  pub stack : s.stack ≡ a ∷ rest
  pub next : instruction_at p a ≡ Some (record { result = Some id; action = Compute operation; operands = x ∷ y ∷ [] })
  pub wide : HasWidth (OfWidth width)
  pub first : IsOfKind (length s.memory) (OfWidth width) (value_of a.values x)
  pub second : IsOfKind (length s.memory) (OfWidth width) (value_of a.values y)
  pub first_there : IsWithin (length a.values) x
  pub second_there : IsWithin (length a.values) y
  pub result_there : id < length a.values
  pub values : HaveValues p (a ∷ rest)

-- the machine goes from the words of an instruction to the word after them, with at most so many instructions, and keeps the next state there
pub record Reaches (l : Layout) (address : ℕ → ℕ) (size : ℕ) (words : List ℕ) (g : Stage) (t : State) (from count : ℕ) : Type 0 where
  pub stage : Stage
  pub kept : KeepsState l address size stage t
  pub goes : Goes words (resting g One) from count (resting stage One) (from + 4 * count)

-- the words of an operation on two operands, by where these are and where its result goes
abbrev pub two_at : FrameLayout → (Value → List Part) → List Form → Operand → Operand → ℕ → List Form
two_at l parts code x y id = two_operands code (source_of l parts x) (source_of l parts y) (l.places id)

-- the words of a binary operation, wherever they stand, do its step: the next state is kept after them
abbrev pub BinariesAreDone : Type 0
BinariesAreDone = (p : Program) (l : Layout) (address : ℕ → ℕ) (size : ℕ) (words : List ℕ) (parts : Value → List Part) (g : Stage) (s t : State)
    (operation : Bin) (flags : Flags) (width : ℕ) (a : Activation) (rest : List Activation) (x y : Operand) (id from : ℕ)
    → IsGoodLayout p l size → MakeWords address parts → KeepsState l address size g s
    → AtBinary p s (Binary operation flags width) width a rest x y id → IsWithinStack p s → step p s ≡ Continues t
    → IsPlaced words from (two_at (l.frames a.function) parts (binary_words operation width) x y id)
    → Reaches l address size words g t from (length (two_at (l.frames a.function) parts (binary_words operation width) x y id))

-- and so do those of a comparison of integers
abbrev pub ComparisonsAreDone : Type 0
ComparisonsAreDone = (p : Program) (l : Layout) (address : ℕ → ℕ) (size : ℕ) (words : List ℕ) (parts : Value → List Part) (g : Stage) (s t : State)
    (predicate : Pred) (width : ℕ) (a : Activation) (rest : List Activation) (x y : Operand) (id from : ℕ)
    → IsGoodLayout p l size → MakeWords address parts → KeepsState l address size g s
    → AtBinary p s (Compare predicate) width a rest x y id → IsWithinStack p s → step p s ≡ Continues t
    → IsPlaced words from (two_at (l.frames a.function) parts (compare_words predicate) x y id)
    → Reaches l address size words g t from (length (two_at (l.frames a.function) parts (compare_words predicate) x y id))

-- a state in which an operation on one operand comes next
pub record AtUnary (p : Program) (s : State) (operation : Operation) (a : Activation) (rest : List Activation) (x : Operand) (id : ℕ) : Type 0 where
  pub stack : s.stack ≡ a ∷ rest
  pub next : instruction_at p a ≡ Some (record { result = Some id; action = Compute operation; operands = x ∷ [] })
  pub there : IsWithin (length a.values) x
  pub result_there : id < length a.values
  pub values : HaveValues p (a ∷ rest)

abbrev pub one_at : FrameLayout → (Value → List Part) → List Form → Operand → ℕ → List Form
one_at l parts code x id = one_operand code (source_of l parts x) (l.places id)

-- the words of a conversion do its step
abbrev pub ConversionsAreDone : Type 0
ConversionsAreDone = (p : Program) (l : Layout) (address : ℕ → ℕ) (size : ℕ) (words : List ℕ) (parts : Value → List Part) (g : Stage) (s t : State)
    (conversion : Conv) (width to : ℕ) (a : Activation) (rest : List Activation) (x : Operand) (id from : ℕ)
    → IsGoodLayout p l size → MakeWords address parts → KeepsState l address size g s
    → AtUnary p s (Convert conversion width to) a rest x id → HasWidth (OfWidth width) → HasWidth (OfWidth to) → Converts conversion width to
    → IsOfKind (length s.memory) (OfWidth width) (value_of a.values x) → IsWithinStack p s → step p s ≡ Continues t
    → IsPlaced words from (one_at (l.frames a.function) parts (convert_words conversion width to) x id)
    → Reaches l address size words g t from (length (one_at (l.frames a.function) parts (convert_words conversion width to) x id))

-- and a copy does that of `freeze`, of integers and of addresses
abbrev pub FreezesAreDone : Type 0
FreezesAreDone = (p : Program) (l : Layout) (address : ℕ → ℕ) (size : ℕ) (words : List ℕ) (parts : Value → List Part) (g : Stage) (s t : State)
    (a : Activation) (rest : List Activation) (x : Operand) (id from : ℕ) → IsGoodLayout p l size → MakeWords address parts → KeepsState l address size g s
    → AtUnary p s Freeze a rest x id → IsWithinStack p s → step p s ≡ Continues t → IsPlaced words from (one_at (l.frames a.function) parts [] x id)
    → Reaches l address size words g t from (length (one_at (l.frames a.function) parts [] x id))
