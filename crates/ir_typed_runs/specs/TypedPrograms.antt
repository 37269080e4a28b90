-- Programs whose instructions have what they need of the kinds of their operands.
use Rattle.std.specs.Prelude.{◌≡◌, ◌<◌, ⊤, ℕ, suc, ◌^◌, List, [], ◌∷◌, length, take, Option, Some, None, slice_get, slice_index_or}
use Rattle.std.specs.List.{AllByRecursion, AllZip}
use Rattle.ir_model.specs.Programs.{Operand, Local, Fixed, Action, Instruction, Input, Phi, Block, Program, function_at}
use Rattle.ir_model.specs.Programs.{Compute, Alloca, Load, Store, Call, PutChar, GetChar, Jump, Branch, Switch, ReturnVoid, Return, Unreachable}
use Rattle.ir_typed_runs.specs.Kinds.{Kind, OfWidth, OfPointer, HasWidth, IsOfKind, IsCell, kind_of, HasKinds}

-- the kinds of a function: those of its values by number, and that of what it returns, if it returns something
pub record FunctionKinds : Type 0 where
  pub values : List Kind
  pub result : Option Kind

-- what stands for those of a function that isn't there
abbrev pub no_kinds : FunctionKinds
no_kinds = record { values = []; result = None }

-- those of the function of a number
abbrev pub kinds_in : List FunctionKinds → ℕ → FunctionKinds
kinds_in kinds f = slice_index_or kinds f no_kinds

-- how many blocks of memory there are at the start: that of null, and one for each global
abbrev pub first_blocks : Program → ℕ
first_blocks p = suc (length p.globals)

-- the value of a number has a kind
abbrev pub HasKind : List Kind → ℕ → Kind → Type 0
HasKind values id kind = slice_get values id ≡ Some kind

-- the value that an instruction gives, if it gives one, has a kind
abbrev pub GivesKind : List Kind → Option ℕ → Kind → Type 0
GivesKind values None kind = ⊤
GivesKind values (Some id) kind = HasKind values id kind

-- a call gives what its function returns, and nothing where that returns nothing
abbrev pub GivesReturned : List Kind → Option ℕ → Option Kind → Type 0
GivesReturned values result None = result ≡ None
GivesReturned values result (Some kind) = GivesKind values result kind

-- an operand is of a kind; a constant is so at the start already
abbrev pub IsOperand : Program → List Kind → Kind → Operand → Type 0
IsOperand p values kind (Local id) = HasKind values id kind
IsOperand p values kind (Fixed v) = IsOfKind (first_blocks p) kind v

-- an action of a function has what it needs: the kinds of its operands, and that of its value; a line an action
abbrev pub Fits : Program → List FunctionKinds → ℕ → Action → List Kind → Option ℕ → Type 0
Fits p kinds f (Compute operation) ks result = (kind : Kind) × HasKinds operation ks kind × GivesKind (kinds_in kinds f).values result kind
Fits p kinds f (Alloca size) ks result = (ks ≡ []) × GivesKind (kinds_in kinds f).values result OfPointer
Fits p kinds f (Load access) ks result = (ks ≡ OfPointer ∷ []) × GivesKind (kinds_in kinds f).values result (kind_of access)
Fits p kinds f (Store access) ks result = (ks ≡ kind_of access ∷ OfPointer ∷ []) × (result ≡ None)
Fits p kinds f (Call g) ks result =
    (ks ≡ take (function_at p g).params (kinds_in kinds g).values) × GivesReturned (kinds_in kinds f).values result (kinds_in kinds g).result
Fits p kinds f PutChar ks result = (ks ≡ OfWidth 32 ∷ []) × GivesKind (kinds_in kinds f).values result (OfWidth 32)
Fits p kinds f GetChar ks result = (ks ≡ []) × GivesKind (kinds_in kinds f).values result (OfWidth 32)
Fits p kinds f (Jump to) ks result = ks ≡ []
Fits p kinds f (Branch met unmet) ks result = ks ≡ OfWidth 1 ∷ []
Fits p kinds f (Switch otherwise cases) ks result = (width : ℕ) × (ks ≡ OfWidth width ∷ []) × AllByRecursion (λ x. x.number < 2 ^ width) cases
Fits p kinds f ReturnVoid ks result = (ks ≡ []) × ((kinds_in kinds f).result ≡ None)
Fits p kinds f Return ks result = (kind : Kind) × (ks ≡ kind ∷ []) × ((kinds_in kinds f).result ≡ Some kind)
Fits p kinds f Unreachable ks result = ks ≡ []

-- an instruction of a function is typed: its operands are of kinds with which its action fits
pub record IsTypedInstruction (p : Program) (kinds : List FunctionKinds) (f : ℕ) (x : Instruction) : Type 0 where
  pub taken : List Kind
  pub widths : AllByRecursion HasWidth taken
  pub operands : AllZip (IsOperand p (kinds_in kinds f).values) taken x.operands
  pub fits : Fits p kinds f x.action taken x.result

-- a phi is typed: what it takes is of the kind of its value
pub record IsTypedPhi (p : Program) (values : List Kind) (x : Phi) : Type 0 where
  pub kind : Kind
  pub result : HasKind values x.result kind
  pub inputs : AllByRecursion (λ (input : Input). IsOperand p values kind input.operand) x.inputs

-- a block of a function is typed
pub record IsTypedBlock (p : Program) (kinds : List FunctionKinds) (f : ℕ) (b : Block) : Type 0 where
  pub phis : AllByRecursion (IsTypedPhi p (kinds_in kinds f).values) b.phis
  pub body : AllByRecursion (IsTypedInstruction p kinds f) b.body

-- a program is typed, with the kinds of its functions: each has a kind for each value, and typed blocks; the bytes of globals may be
-- in memory; and `main` returns an integer of 32 bits
pub record IsTyped (p : Program) (kinds : List FunctionKinds) : Type 0 where
  pub values : (f : ℕ) → length (kinds_in kinds f).values ≡ (function_at p f).values
  pub widths : (f : ℕ) → AllByRecursion HasWidth (kinds_in kinds f).values
  pub blocks : (f : ℕ) → AllByRecursion (IsTypedBlock p kinds f) (function_at p f).blocks
  pub globals : AllByRecursion (AllByRecursion (IsCell (first_blocks p))) p.globals
  pub main : (kinds_in kinds p.main).result ≡ Some (OfWidth 32)
