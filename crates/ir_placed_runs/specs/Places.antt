-- Programs in which all that is named is there, and the places where activations stand (Language Reference, "Functions" and
-- "Terminator Instructions").
use Rattle.std.specs.Prelude.{◌≡◌, ◌<◌, ⊤, ℕ, suc, Bool, true, false, List, [], ◌∷◌, length, Some}
use Rattle.std.specs.List.{AllByRecursion}
use Rattle.ir_model.specs.Programs.{Case, Action, Instruction, Block, Program, function_at, block_in}
use Rattle.ir_model.specs.Programs.{Compute, Alloca, Load, Store, Call, PutChar, GetChar, Jump, Branch, Switch, ReturnVoid, Return, Unreachable}
use Rattle.ir_model.specs.States.{Activation, State, instruction_at}

-- the actions of terminators
abbrev pub is_terminator : Action → Bool
is_terminator (Compute operation) = false
is_terminator (Alloca size) = false
is_terminator (Load access) = false
is_terminator (Store access) = false
is_terminator (Call g) = false
is_terminator PutChar = false
is_terminator GetChar = false
is_terminator (Jump to) = true
is_terminator (Branch met unmet) = true
is_terminator (Switch otherwise cases) = true
is_terminator ReturnVoid = true
is_terminator Return = true
is_terminator Unreachable = true

-- the body of a block ends in a terminator and has no other
abbrev pub IsBody : List Instruction → Type 0
IsBody [] = ⊥
IsBody (x ∷ []) = is_terminator x.action ≡ true
IsBody (x ∷ y ∷ ys) = (is_terminator x.action ≡ false) × IsBody (y ∷ ys)

-- what an action names is there, of so many functions and of so many blocks of its function
abbrev pub Names : ℕ → ℕ → Action → Type 0
Names functions blocks (Compute operation) = ⊤
Names functions blocks (Alloca size) = ⊤
Names functions blocks (Load access) = ⊤
Names functions blocks (Store access) = ⊤
Names functions blocks (Call g) = g < functions
Names functions blocks PutChar = ⊤
Names functions blocks GetChar = ⊤
Names functions blocks (Jump to) = to < blocks
Names functions blocks (Branch met unmet) = (met < blocks) × (unmet < blocks)
Names functions blocks (Switch otherwise cases) = (otherwise < blocks) × AllByRecursion (λ (x : Case). x.to < blocks) cases
Names functions blocks ReturnVoid = ⊤
Names functions blocks Return = ⊤
Names functions blocks Unreachable = ⊤

-- a block of a function is whole: it has a body, and what that names is there
pub record IsWholeBlock (p : Program) (f : ℕ) (b : Block) : Type 0 where
  pub body : IsBody b.body
  pub named : AllByRecursion (λ (x : Instruction). Names (length p.functions) (length (function_at p f).blocks) x.action) b.body

-- a program is whole: `main` is there, each function has a block, and all blocks are whole
pub record IsWhole (p : Program) : Type 0 where
  pub main : p.main < length p.functions
  pub entries : (f : ℕ) → f < length p.functions → 0 < length (function_at p f).blocks
  pub blocks : (f : ℕ) → AllByRecursion (IsWholeBlock p f) (function_at p f).blocks

-- the instructions of the block in which an activation stands
abbrev pub body_around : Program → Activation → List Instruction
body_around p a = (block_in p a.function a.block).body

-- an activation that waits stands before an instruction
abbrev pub Waits : Program → Activation → Type 0
Waits p a = suc a.position < length (body_around p a)

-- activations stand at their places: there is an innermost one, at an instruction, and the others wait
abbrev pub ArePlaced : Program → List Activation → Type 0
ArePlaced p [] = ⊥
ArePlaced p (a ∷ rest) = (a.position < length (body_around p a)) × AllByRecursion (Waits p) rest

-- those of a state do
abbrev pub HasPlaces : Program → State → Type 0
HasPlaces p s = ArePlaced p s.stack

-- a state has an instruction that is next
pub record HasNext (p : Program) (s : State) : Type 0 where
  pub innermost : Activation
  pub below : List Activation
  pub stack : s.stack ≡ innermost ∷ below
  pub instruction : Instruction
  pub is_next : instruction_at p innermost ≡ Some instruction
