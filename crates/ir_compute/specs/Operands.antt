-- The values of operands, and what an operation answers.
use Rattle.std.specs.Prelude.{List, map, Result, Ok, Err}
use Rattle.ir_model.specs.declared.Why.{Why}
use Rattle.ir_model.specs.Values as model
use Rattle.ir_model.specs.States.{value_of}
use Rattle.mem_cells.specs.declared.values.Value.{Value}
use Rattle.mem_cells.specs.Shapes.{value_shape}
use Rattle.program_tables.specs.declared.program.Operand.{Operand}
use Rattle.program_tables.specs.Shapes.{operand_shape}

-- the values of operands, by the values of an activation
abbrev pub operand_values : List Value → List Operand → List model.Value
operand_values values operands = map (value_of (map value_shape values)) (map operand_shape operands)

-- the answer
abbrev pub answer_shape : Result Value Why → model.Answer
answer_shape (Ok v) = model.Gives (value_shape v)
answer_shape (Err cause) = model.Fails cause
