-- States in which each value is of its kind.
use Rattle.std.specs.Prelude.{◌≡◌, ◌≤◌, ⊤, ℕ, List, [], ◌∷◌, length, map, Some}
use Rattle.std.specs.Option.{option_map}
use Rattle.std.specs.List.{AllByRecursion, AllZip}
use Rattle.ir_model.specs.Values.{MemoryBlock}
use Rattle.ir_model.specs.Programs.{Call, Instruction, Phi, Program}
use Rattle.ir_model.specs.States.{Activation, State, value_of, instruction_at}
use Rattle.ir_model.specs.Steps.{input_from}
use Rattle.ir_typed_runs.specs.Invariants.{AreBytes}
use Rattle.ir_typed_runs.specs.Kinds.{Kind, HasWidth, IsOfKind, IsCell}
use Rattle.ir_typed_runs.specs.TypedPrograms.{FunctionKinds, kinds_in, first_blocks, HasKind, Fits}

-- each value of an activation is of its kind, or poison
abbrev pub HasTypedValues : List FunctionKinds → ℕ → Activation → Type 0
HasTypedValues kinds blocks a = AllZip (IsOfKind blocks) (kinds_in kinds a.function).values a.values

-- what a function is called by: the innermost activation below stands at a call of it, and below `main` there is none
abbrev pub IsCalledBy : Program → ℕ → List Activation → Type 0
IsCalledBy p f [] = f ≡ p.main
IsCalledBy p f (a ∷ rest) = option_map (λ (x : Instruction). x.action) (instruction_at p a) ≡ Some (Call f)

-- activations are typed, and each but the last is called by the one below it
abbrev pub AreTyped : Program → List FunctionKinds → ℕ → List Activation → Type 0
AreTyped p kinds blocks [] = ⊤
AreTyped p kinds blocks (a ∷ rest) = HasTypedValues kinds blocks a × IsCalledBy p a.function rest × AreTyped p kinds blocks rest

-- each byte of a block may be in memory
abbrev pub HasTypedCells : ℕ → MemoryBlock → Type 0
HasTypedCells blocks b = AllByRecursion (IsCell blocks) b.cells

-- a state is typed: the values of its activations, the bytes of its memory, in which the first blocks are still, and its input and output
pub record IsTypedState (p : Program) (kinds : List FunctionKinds) (s : State) : Type 0 where
  pub stack : AreTyped p kinds (length s.memory) s.stack
  pub memory : AllByRecursion (HasTypedCells (length s.memory)) s.memory
  pub first : first_blocks p ≤ length s.memory
  pub input : AreBytes s.input
  pub out : AreBytes s.out

-- the operands of an instruction are of kinds with which its action fits
pub record HasFittingOperands (p : Program) (kinds : List FunctionKinds) (blocks : ℕ) (a : Activation) (x : Instruction) : Type 0 where
  pub taken : List Kind
  pub widths : AllByRecursion HasWidth taken
  pub fits : Fits p kinds a.function x.action taken x.result
  pub operands : AllZip (IsOfKind blocks) taken (map (value_of a.values) x.operands)

-- what a phi takes from where an activation stands is of the kind of its value
pub record HasFittingInputs (kinds : List FunctionKinds) (blocks : ℕ) (a : Activation) (x : Phi) : Type 0 where
  pub kind : Kind
  pub result : HasKind (kinds_in kinds a.function).values x.result kind
  pub input : IsOfKind blocks kind (value_of a.values (input_from a.block x.inputs))
