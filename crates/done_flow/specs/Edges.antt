-- From one block to another, as words: the phis of the block that is entered take their values, all at once.
use Rattle.std.specs.Prelude.{◌≡◌, ◌≢◌, ◌<◌, ◌+◌, ◌*◌, ⊤, ℕ, ℤ, List, [], ◌∷◌, ◌++◌, map, length, Some}
use Rattle.std.specs.List.{AllByRecursion}
use Rattle.ir_model.specs.Values.{Value}
use Rattle.ir_model.specs.Programs.{Operand, Phi, Program, block_in}
use Rattle.ir_model.specs.States.{Activation, State}
use Rattle.ir_model.specs.Steps.{input_from, at_block}
use Rattle.ir_model.specs.Runs.{IsWithinStack}
use Rattle.rv_inst.specs.declared.instruction.Form.{Form}
use Rattle.rv_inst.specs.declared.instruction.Form.TheVariants.{JAL}
use Rattle.rv_flips.specs.Cells.{One}
use Rattle.flip_words.specs.Placed.{IsPlaced}
use Rattle.flip_frames.specs.Views.{Stage}
use Rattle.flip_versions.specs.Operations.{resting}
use Rattle.flip_jumps.specs.Jumps.{target}
use Rattle.flip_jumps.specs.Places.{Goes}
use Rattle.flip_guards.specs.Sources.{Part}
use Rattle.flip_copies.specs.Edges.{PhiInput, edge_words}
use Rattle.kept_states.specs.Layouts.{FrameLayout, Layout, IsGoodLayout}
use Rattle.kept_states.specs.Kept.{KeepsState}
use Rattle.kept_states.specs.Laws.{HaveValues}
use Rattle.done_operations.specs.Sources.{MakeWords, source_of, IsWithin}

-- where a phi takes its value from and where it goes, if its block is entered from a block
abbrev pub phi_input : FrameLayout → (Value → List Part) → ℕ → Phi → PhiInput
phi_input l parts from x = record {
  input = source_of l parts (input_from from x.inputs);
  cell = l.cells x.result;
  place = l.places x.result;
  id = x.result;
}

-- the words of an edge, with a jump to the block at their end
abbrev pub edge_at : FrameLayout → (Value → List Part) → ℕ → List Phi → ℤ → List Form
edge_at l parts from phis offset = edge_words (map (phi_input l parts from) phis) ++ JAL 0 offset ∷ []

-- phis give different values, of so many, and what each takes from a block is there
abbrev pub ArePhis : ℕ → ℕ → List Phi → Type 0
ArePhis values from [] = ⊤
ArePhis values from (x ∷ xs) =
    (x.result < values) × IsWithin values (input_from from x.inputs) × AllByRecursion (λ (y : Phi). y.result ≢ x.result) xs × ArePhis values from xs

-- the machine goes from one place to another with at most so many instructions, and keeps the state there
pub record Arrives (l : Layout) (address : ℕ → ℕ) (size : ℕ) (words : List ℕ) (g : Stage) (t : State) (from count to : ℕ) : Type 0 where
  pub stage : Stage
  pub kept : KeepsState l address size stage t
  pub goes : Goes words (resting g One) from count (resting stage One) to

-- the state in which a block has been entered
abbrev pub in_block : Program → ℕ → Activation → List Activation → State → State
in_block p to a rest s = record s { stack = at_block p to a ∷ rest }

-- where the jump of an edge that stands at an address leads
abbrev pub edge_target : FrameLayout → (Value → List Part) → ℕ → List Phi → ℤ → ℕ → ℕ
edge_target l parts from phis offset place = target (place + 4 * length (edge_words (map (phi_input l parts from) phis))) offset

-- the words of an edge go from where a state is kept to the place of its jump, and keep there the state in which the block has been entered
abbrev pub EdgesAreDone : Type 0
EdgesAreDone = (p : Program) (l : Layout) (address : ℕ → ℕ) (size : ℕ) (words : List ℕ) (parts : Value → List Part) (g : Stage) (s : State)
    (a : Activation) (rest : List Activation) (to place : ℕ) (offset : ℤ) → IsGoodLayout p l size → MakeWords address parts → KeepsState l address size g s
    → s.stack ≡ a ∷ rest → HaveValues p (a ∷ rest) → ArePhis (length a.values) a.block (block_in p a.function to).phis → IsWithinStack p s
    → IsPlaced words place (edge_at (l.frames a.function) parts a.block (block_in p a.function to).phis offset)
    → Arrives l address size words g (in_block p to a rest s) place
    (length (edge_at (l.frames a.function) parts a.block (block_in p a.function to).phis offset))
    (edge_target (l.frames a.function) parts a.block (block_in p a.function to).phis offset place)
