-- Terminators that lead to a block of their function, as words: the machine goes to where the words of the edge to that block stand.
use Rattle.std.specs.Prelude.{◌≡◌, ◌<◌, ◌+◌, ◌*◌, ◌^◌, ℕ, ℤ, pos, List, [], ◌∷◌, length, Some, None}
use Rattle.ir_model.specs.Values.{Value}
use Rattle.ir_model.specs.Programs.{Operand, Action, Jump, Branch, Switch, Program}
use Rattle.ir_model.specs.Programs as model
use Rattle.ir_model.specs.Pointers.{extended}
use Rattle.ir_model.specs.States.{Activation, State, Continues, value_of, instruction_at}
use Rattle.ir_model.specs.Steps.{step}
use Rattle.ir_model.specs.Runs.{IsWithinStack}
use Rattle.ir_typed_runs.specs.Kinds.{OfWidth, HasWidth, IsOfKind}
use Rattle.rv_inst.specs.declared.instruction.Form.TheVariants.{JAL}
use Rattle.rv_flips.specs.Cells.{One}
use Rattle.flip_words.specs.Placed.{IsPlaced}
use Rattle.flip_frames.specs.Views.{Stage}
use Rattle.flip_versions.specs.Operations.{resting}
use Rattle.flip_jumps.specs.Jumps.{target}
use Rattle.flip_jumps.specs.Places.{Goes}
use Rattle.flip_guards.specs.Sources.{Part}
use Rattle.flip_guards.specs.Fetching as fetching
use Rattle.flip_branches.specs.Branches.{test_words, branch_words}
use Rattle.flip_branches.specs.Switches.{Case, Takes, case_test, case_words, switch_words, AreCases}
use Rattle.kept_states.specs.Layouts.{Layout, IsGoodLayout}
use Rattle.kept_states.specs.Kept.{KeepsState}
use Rattle.kept_states.specs.Laws.{HaveValues}
use Rattle.done_operations.specs.Sources.{MakeWords, source_of, IsWithin}
use Rattle.done_flow.specs.Edges.{in_block}

-- the step leads into a block, and the machine goes, with all that it keeps, to the address that the function has for that block
pub record Turns (p : Program) (words : List ℕ) (g : Stage) (s t : State) (a : Activation) (rest : List Activation) (edge : ℕ → ℕ) (from count : ℕ) : Type 0 where
  pub block : ℕ
  pub state : t ≡ in_block p block a rest s
  pub goes : Goes words (resting g One) from count (resting g One) (edge block)

-- a state in which a terminator comes next
pub record AtTerminator (p : Program) (s : State) (action : Action) (operands : List Operand) (a : Activation) (rest : List Activation) : Type 0 where
  pub stack : s.stack ≡ a ∷ rest
  pub next : instruction_at p a ≡ Some (record { result = None; action = action; operands = operands })
  pub values : HaveValues p (a ∷ rest)

-- a jump is one word, which leads to the edge's
abbrev pub JumpsAreDone : Type 0
JumpsAreDone = (p : Program) (words : List ℕ) (g : Stage) (s t : State) (a : Activation) (rest : List Activation) (to from : ℕ) (offset : ℤ)
    (edge : ℕ → ℕ) → AtTerminator p s (Jump to) [] a rest → step p s ≡ Continues t → IsPlaced words from (JAL 0 offset ∷ []) → target from offset ≡ edge to
    → Turns p words g s t a rest edge from 1

-- where the two jumps of a branch lead
pub record LeadTo (x : fetching.Operand) (zero other : ℤ) (from met unmet : ℕ) (edge : ℕ → ℕ) : Type 0 where
  pub not_met : target (from + 4 * length (test_words x (pos 8))) zero ≡ edge unmet
  pub is_met : target (from + 4 * length (test_words x (pos 8)) + 4) other ≡ edge met

-- the words of a branch lead to the edge of the block that its condition chooses
abbrev pub BranchesAreDone : Type 0
BranchesAreDone = (p : Program) (l : Layout) (address : ℕ → ℕ) (size : ℕ) (words : List ℕ) (parts : Value → List Part) (g : Stage) (s t : State)
    (a : Activation) (rest : List Activation) (x : Operand) (met unmet from : ℕ) (zero other : ℤ) (edge : ℕ → ℕ) → IsGoodLayout p l size
    → MakeWords address parts → KeepsState l address size g s → AtTerminator p s (Branch met unmet) (x ∷ []) a rest → IsWithin (length a.values) x
    → IsOfKind (length s.memory) (OfWidth 1) (value_of a.values x) → IsWithinStack p s → step p s ≡ Continues t
    → IsPlaced words from (branch_words (source_of (l.frames a.function) parts x) zero other)
    → LeadTo (source_of (l.frames a.function) parts x) zero other from met unmet edge
    → Turns p words g s t a rest edge from (length (branch_words (source_of (l.frames a.function) parts x) zero other))

-- the cases in words are those of the switch, on a value of a width, and each jump leads to the edge of its block
abbrev pub CasesLead : ℕ → fetching.Operand → List Case → ℤ → List model.Case → ℕ → (ℕ → ℕ) → ℕ → Type 0
CasesLead width x [] last [] otherwise edge from = target from last ≡ edge otherwise
CasesLead width x [] last (c ∷ cs) otherwise edge from = ⊥
CasesLead width x (k ∷ ks) last [] otherwise edge from = ⊥
CasesLead width x (k ∷ ks) last (c ∷ cs) otherwise edge from =
    (k.number ≡ extended width c.number) × (c.number < 2 ^ width) × (target (from + 4 * length (case_test x k.taking)) k.hit ≡ edge c.to)
    × CasesLead width x ks last cs otherwise edge (from + 4 * length (case_words x k))

-- the words of a switch lead to the edge of the block of the first case with its value's number
abbrev pub SwitchesAreDone : Type 0
SwitchesAreDone = (p : Program) (l : Layout) (address : ℕ → ℕ) (size : ℕ) (words : List ℕ) (parts : Value → List Part) (g : Stage) (s t : State)
    (a : Activation) (rest : List Activation) (x : Operand) (width otherwise from : ℕ) (cases : List model.Case) (ks : List Case) (last : ℤ) (edge : ℕ → ℕ)
    → IsGoodLayout p l size → MakeWords address parts → KeepsState l address size g s → AtTerminator p s (Switch otherwise cases) (x ∷ []) a rest
    → IsWithin (length a.values) x → HasWidth (OfWidth width) → IsOfKind (length s.memory) (OfWidth width) (value_of a.values x) → IsWithinStack p s
    → step p s ≡ Continues t → AreCases ks → IsPlaced words from (switch_words (source_of (l.frames a.function) parts x) ks last)
    → CasesLead width (source_of (l.frames a.function) parts x) ks last cases otherwise edge from
    → Turns p words g s t a rest edge from (length (switch_words (source_of (l.frames a.function) parts x) ks last))
