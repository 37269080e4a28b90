-- Which program, by the definitions of programs, a program in code stands for. Nothing is left out but how the bytes of globals are cut into
-- pieces.
use Rattle.std.specs.Prelude.{List, map, replicate, flat_map}
use Rattle.mem_cells.specs.Shapes.{pointer_shape, value_shape}
use Rattle.ir_model.specs.declared.Access.TheVariants.{Ptr}
use Rattle.ir_model.specs.Values.{Cell, Unknown, Byte, Address}
use Rattle.ir_model.specs.Memory.{cells_of}
use Rattle.ir_model.specs.Pointers as pointers
use Rattle.ir_model.specs.Operations as operations
use Rattle.ir_model.specs.Programs as programs
use Rattle.program_tables.specs.declared.operations.Stride.{Stride}
use Rattle.program_tables.specs.declared.operations.Stride.TheVariants.{Scaled, Field}
use Rattle.program_tables.specs.declared.operations.Operation.{Operation}
use Rattle.program_tables.specs.declared.operations.Operation.TheVariants.{Binary, Compare, Select, Convert, Freeze, Walk}
use Rattle.program_tables.specs.declared.program.Operand.{Operand}
use Rattle.program_tables.specs.declared.program.Operand.TheVariants.{Local, Fixed}
use Rattle.program_tables.specs.declared.program.Case.{Case}
use Rattle.program_tables.specs.declared.program.Action.{Action}
use Rattle.program_tables.specs.declared.program.Action.TheVariants as action
use Rattle.program_tables.specs.declared.program.Instruction.{Instruction}
use Rattle.program_tables.specs.declared.program.Input.{Input}
use Rattle.program_tables.specs.declared.program.Phi.{Phi}
use Rattle.program_tables.specs.declared.program.Block.{Block}
use Rattle.program_tables.specs.declared.program.Function.{Function}
use Rattle.program_tables.specs.declared.program.Piece.{Piece}
use Rattle.program_tables.specs.declared.program.Piece.TheVariants as piece
use Rattle.program_tables.specs.declared.program.Program.{Program}

abbrev pub stride_shape : Stride → pointers.Stride
stride_shape (Scaled width size) = pointers.Scaled width size
stride_shape (Field offset) = pointers.Field offset

abbrev pub operation_shape : Operation → operations.Operation
operation_shape (Binary operation flags width) = operations.Binary operation flags width
operation_shape (Compare predicate) = operations.Compare predicate
operation_shape Select = operations.Select
operation_shape (Convert conversion from to) = operations.Convert conversion from to
operation_shape Freeze = operations.Freeze
operation_shape (Walk inbounds strides) = operations.Walk inbounds (map stride_shape strides.items)

abbrev pub operand_shape : Operand → programs.Operand
operand_shape (Local id) = programs.Local id
operand_shape (Fixed v) = programs.Fixed (value_shape v)

abbrev pub case_shape : Case → programs.Case
case_shape c = record { number = c.number; to = c.to }

abbrev pub action_shape : Action → programs.Action
action_shape (action.Compute operation) = programs.Compute (operation_shape operation)
action_shape (action.Alloca size) = programs.Alloca size
action_shape (action.Load access) = programs.Load access
action_shape (action.Store access) = programs.Store access
action_shape (action.Call function) = programs.Call function
action_shape action.PutChar = programs.PutChar
action_shape action.GetChar = programs.GetChar
action_shape (action.Jump to) = programs.Jump to
action_shape (action.Branch met unmet) = programs.Branch met unmet
action_shape (action.Switch otherwise cases) = programs.Switch otherwise (map case_shape cases.items)
action_shape action.ReturnVoid = programs.ReturnVoid
action_shape action.Return = programs.Return
action_shape action.Unreachable = programs.Unreachable

abbrev pub instruction_shape : Instruction → programs.Instruction
instruction_shape x = record {
  result = x.result;
  action = action_shape x.action;
  operands = map operand_shape x.operands.items;
}

abbrev pub input_shape : Input → programs.Input
input_shape x = record { from = x.from; operand = operand_shape x.operand }

abbrev pub phi_shape : Phi → programs.Phi
phi_shape x = record { result = x.result; inputs = map input_shape x.inputs.items }

abbrev pub block_shape : Block → programs.Block
block_shape x = record { phis = map phi_shape x.phis.items; body = map instruction_shape x.body.items }

abbrev pub function_shape : Function → programs.Function
function_shape f = record {
  params = f.params;
  values = f.values;
  frame = f.frame;
  blocks = map block_shape f.blocks.items;
}

-- the bytes of a piece
abbrev pub piece_cells : Piece → List Cell
piece_cells (piece.Poison count) = replicate count Unknown
piece_cells (piece.Zeros count) = replicate count (Byte 0)
piece_cells (piece.Bytes bytes) = map Byte bytes.items
piece_cells (piece.Word p) = cells_of Ptr (Address (pointer_shape p))

-- the bytes of pieces, one after the other
abbrev pub pieces_cells : List Piece → List Cell
pieces_cells pieces = flat_map piece_cells pieces

abbrev pub program_shape : Program → programs.Program
program_shape p = record {
  globals = map (λ g. pieces_cells g.pieces.items) p.globals.items;
  functions = map function_shape p.functions.items;
  main = p.main;
}
