-- `select`, as words: the choice by masks, of operands in slots or constant. The value that isn't chosen may be poison.
use Rattle.std.specs.Prelude.{◌≡◌, ◌<◌, ℕ, List, [], ◌∷◌, ◌++◌, length, Some}
use Rattle.ir_model.specs.Values.{Value}
use Rattle.ir_model.specs.Operations.{Select}
use Rattle.ir_model.specs.Programs.{Operand, Compute, Program}
use Rattle.ir_model.specs.States.{Activation, State, Continues, value_of, instruction_at}
use Rattle.ir_model.specs.Steps.{step}
use Rattle.ir_model.specs.Runs.{IsWithinStack}
use Rattle.ir_typed_runs.specs.Kinds.{OfWidth, IsOfKind}
use Rattle.rv_inst.specs.declared.instruction.Form.{Form}
use Rattle.flip_words.specs.Placed.{IsPlaced}
use Rattle.flip_frames.specs.Views.{Stage}
use Rattle.flip_frames.specs.Fetching.{Triple}
use Rattle.flip_frames.specs.Slots.{any_store}
use Rattle.flip_guards.specs.Sources.{Part, Source, bring}
use Rattle.flip_guards.specs.Fetching as fetching
use Rattle.flip_select.specs.Select.{select_code}
use Rattle.kept_states.specs.Layouts.{FrameLayout, Layout, IsGoodLayout}
use Rattle.kept_states.specs.Kept.{KeepsState}
use Rattle.kept_states.specs.Laws.{HaveValues}
use Rattle.done_operations.specs.Sources.{MakeWords, source_of, IsWithin}
use Rattle.done_operations.specs.Operations.{Reaches}

-- one version: the condition comes into x5 and the values into x6 and x7, and what is chosen goes to a slot
abbrev pub version_of_choice : Source → Source → Source → ℕ → List Form
version_of_choice m x y d = bring 5 m ++ (bring 6 x ++ (bring 7 y ++ (select_code ++ any_store 5 d)))

-- all three versions
abbrev pub choice_words : fetching.Operand → fetching.Operand → fetching.Operand → Triple → List Form
choice_words m x y d =
    version_of_choice m.one x.one y.one d.one
    ++ (version_of_choice m.two x.two y.two d.two ++ version_of_choice m.three x.three y.three d.three)

-- the words of a choice in a frame
abbrev pub choice_at : FrameLayout → (Value → List Part) → Operand → Operand → Operand → ℕ → List Form
choice_at l parts c x y id = choice_words (source_of l parts c) (source_of l parts x) (source_of l parts y) (l.places id)

-- a state in which a choice between two values comes next: the condition is of one bit, and all that is named is there
pub record AtChoice (p : Program) (s : State) (a : Activation) (rest : List Activation) (c x y : Operand) (id : ℕ) : Type 0 where
  pub stack : s.stack ≡ a ∷ rest
  pub next : instruction_at p a ≡ Some (record { result = Some id; action = Compute Select; operands = c ∷ x ∷ y ∷ [] })
  pub kind : IsOfKind (length s.memory) (OfWidth 1) (value_of a.values c)
  pub condition_there : IsWithin (length a.values) c
  pub first_there : IsWithin (length a.values) x
  pub second_there : IsWithin (length a.values) y
  pub result_there : id < length a.values
  pub values : HaveValues p (a ∷ rest)

-- the words of a choice, of integers or of addresses, do its step
abbrev pub SelectsAreDone : Type 0
SelectsAreDone = (p : Program) (l : Layout) (address : ℕ → ℕ) (size : ℕ) (words : List ℕ) (parts : Value → List Part) (g : Stage)
    (s t : State) (a : Activation) (rest : List Activation) (c x y : Operand) (id from : ℕ) → IsGoodLayout p l size
    → MakeWords address parts → KeepsState l address size g s → AtChoice p s a rest c x y id → IsWithinStack p s → step p s ≡ Continues t
    → IsPlaced words from (choice_at (l.frames a.function) parts c x y id)
    → Reaches l address size words g t from (length (choice_at (l.frames a.function) parts c x y id))
