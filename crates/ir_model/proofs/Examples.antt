-- Words for small programs, which the prover runs to show what the definitions say.
use Rattle.std.specs.Prelude.{ℕ, true, false, List, [], ◌∷◌, Some, None}
use Rattle.ir_tree.specs.declared.module.Flags.{Flags}
use Rattle.ir_model.specs.Values.{Integer}
use Rattle.ir_model.specs.Programs.{Operand, Fixed, Action, Instruction, Block, Function, Program}
use Rattle.ir_model.specs.States.{begun}
use Rattle.ir_model.specs.Runs.{Outcome, run}

-- no promise about the result
abbrev pub plain : Flags
plain = record { nuw = false; nsw = false; exact = false }

-- no signed wrap
abbrev pub no_signed_wrap : Flags
no_signed_wrap = record plain { nsw = true }

-- a constant integer
abbrev pub number : ℕ → ℕ → Operand
number width n = Fixed (Integer width n)

-- an instruction that gives the value of a number, and one that gives none
abbrev pub gives : ℕ → Action → List Operand → Instruction
gives id action operands = record { result = Some id; action = action; operands = operands }

abbrev pub does : Action → List Operand → Instruction
does action operands = record { result = None; action = action; operands = operands }

-- a block without phis
abbrev pub block : List Instruction → Block
block body = record { phis = []; body = body }

-- a function of some parameters and values, with these blocks
abbrev pub function : ℕ → ℕ → List Block → Function
function params values blocks = record { params = params; values = values; frame = 160; blocks = blocks }

-- a program of these functions, of which the first is `main`
abbrev pub program : List Function → Program
program functions = record { globals = []; functions = functions; main = 0 }

-- a program of `main` alone, in one block
abbrev pub straight : ℕ → List Instruction → Program
straight values body = program (function 0 values (block body ∷ []) ∷ [])

-- what a program comes to on an input in so many steps
abbrev pub runs : ℕ → Program → List ℕ → Outcome
runs steps p input = run steps p (begun p input)
