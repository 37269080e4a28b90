-- Programs: what a module stands for once its names are numbers, its types are widths and sizes, and its constants are values.
use Rattle.std.specs.Prelude.{ℕ, List, [], Option, slice_index_or}
use Rattle.ir_model.specs.declared.Access.{Access}
use Rattle.ir_model.specs.Values.{Value, Cell}
use Rattle.ir_model.specs.Operations.{Operation}

-- an operand: the value of a number, or a constant. The address of a global is a constant: global g is block g + 1
pub data Operand : Type 0 where
  Local : (id : ℕ) → Operand
  Fixed : (value : Value) → Operand

-- a case of a switch: the number and the block that it leads to
pub record Case : Type 0 where
  pub number : ℕ
  pub to : ℕ

-- what an instruction does with its operands. Blocks and functions stand by number; a size is in bytes
pub data Action : Type 0 where
  Compute : (operation : Operation) → Action
  Alloca : (size : ℕ) → Action
  Load : (access : Access) → Action
  Store : (access : Access) → Action
  Call : (function : ℕ) → Action
  PutChar : Action
  GetChar : Action
  Jump : (to : ℕ) → Action
  Branch : (met unmet : ℕ) → Action
  Switch : (otherwise : ℕ) (cases : List Case) → Action
  ReturnVoid : Action
  Return : Action
  Unreachable : Action

-- an instruction that is no phi: the number of the value that it gives, if it gives one, what it does, and with what. The operands of a
-- store are the value and then the address
pub record Instruction : Type 0 where
  pub result : Option ℕ
  pub action : Action
  pub operands : List Operand

-- what a phi takes where its block is entered from a block
pub record Input : Type 0 where
  pub from : ℕ
  pub operand : Operand

-- a phi: the number of its value, and what it takes
pub record Phi : Type 0 where
  pub result : ℕ
  pub inputs : List Input

-- a block: its phis, and the other instructions by position
pub record Block : Type 0 where
  pub phis : List Phi
  pub body : List Instruction

-- a function: how many parameters it has, how many values with them, how many bytes of stack one activation of it is counted as, and its
-- blocks, the entry first. Its parameters are the first values
pub record Function : Type 0 where
  pub params : ℕ
  pub values : ℕ
  pub frame : ℕ
  pub blocks : List Block

-- a program: the bytes that each global has at the start, the functions, and which of them is `main`
pub record Program : Type 0 where
  pub globals : List (List Cell)
  pub functions : List Function
  pub main : ℕ

-- the function of a number, and what stands for one that isn't there
abbrev pub no_function : Function
no_function = record { params = 0; values = 0; frame = 0; blocks = [] }

abbrev pub function_at : Program → ℕ → Function
function_at p f = slice_index_or p.functions f no_function

-- the block of a number in it
abbrev pub empty_block : Block
empty_block = record { phis = []; body = [] }

abbrev pub block_in : Program → ℕ → ℕ → Block
block_in p f b = slice_index_or (function_at p f).blocks b empty_block
