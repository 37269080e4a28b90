-- The program that a module stands for.
use Rattle.std.specs.Prelude.{ℕ, ◌+◌, if◌then◌else◌, List, [], ◌∷◌, ◌++◌, map, length, Option, Some, unwrap_or, codes}
use Rattle.ir_tree.specs.Shape.{TyShape, BodyShape, phi, PhiInShape, InstShape, BlockShape, FunctionShape, ModuleShape}
use Rattle.ir_rules.specs.Values.{values}
use Rattle.ir_rules.specs.Things.{function_of}
use Rattle.ir_rules.specs.Instructions.{Around}
use Rattle.ir_model.specs.Programs.{Instruction, Input, Phi, Block, Function, Program}
use Rattle.ir_model.specs.Runs.{MeaningEnds}
use Rattle.ir_program.specs.Constants.{global_cells}
use Rattle.ir_program.specs.Operands.{operand_of, operands_of, action_of, result_number, block_number}
use Rattle.ir_forms.specs.Instructions.{is_phi}
use Rattle.ir_program.specs.Frames.{frame_of}

-- what a phi of a type takes
abbrev pub input_of : Around → TyShape → PhiInShape → Input
input_of a t x = record { from = block_number a x.from; operand = operand_of a t x.val }

-- a phi that gives the value of a number; an instruction that is none gives none
abbrev pub phi_of : Around → Option ℕ → BodyShape → List Phi
phi_of a (Some id) (phi t inputs) = record { result = id; inputs = map (input_of a t) inputs } ∷ []
phi_of a result body = []

-- the phis among the instructions of a block, of these numbers of the block and of the first in it
abbrev pub phis_from : Around → ℕ → ℕ → List InstShape → List Phi
phis_from a b i [] = []
phis_from a b i (x ∷ xs) = phi_of a (result_number a b i x) x.body ++ phis_from a b (i + 1) xs

-- an instruction that is no phi
abbrev pub instruction_of : Around → ℕ → ℕ → InstShape → Instruction
instruction_of a b i x = record { result = result_number a b i x; action = action_of a x.body; operands = operands_of a x.body }

-- the others among the instructions of a block
abbrev pub body_from : Around → ℕ → ℕ → List InstShape → List Instruction
body_from a b i [] = []
body_from a b i (x ∷ xs) = if is_phi x.body then body_from a b (i + 1) xs else instruction_of a b i x ∷ body_from a b (i + 1) xs

-- the blocks of a function, of which the first has this number
abbrev pub blocks_from : Around → ℕ → List BlockShape → List Block
blocks_from a b [] = []
blocks_from a b (x ∷ xs) = record { phis = phis_from a b 0 x.insts; body = body_from a b 0 x.insts } ∷ blocks_from a (b + 1) xs

-- a function of a module
abbrev pub program_function : ModuleShape → FunctionShape → Function
program_function m f = record {
  params = length f.params;
  values = length (values f);
  frame = frame_of m.types f;
  blocks = blocks_from (record { within = m; function = f }) 0 f.blocks;
}

-- the program that a module stands for: functions, blocks, values and globals have the numbers of their order in the text
unfoldable pub program_of : ModuleShape → Program
program_of m = record {
  globals = map (global_cells m) m.globals;
  functions = map (program_function m) m.functions;
  main = unwrap_or (function_of m (codes "main")) 0;
}

-- a module ends on an input of bytes after just so many steps, with this output and status
abbrev pub ModuleEnds : ModuleShape → List ℕ → ℕ → List ℕ → ℕ → Type 0
ModuleEnds m input steps out status = MeaningEnds (program_of m) input steps out status
