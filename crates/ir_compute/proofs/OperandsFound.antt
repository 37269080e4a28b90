-- Operands by their numbers.
use Rattle.std.proofs.Common.{◌≡◌, ◌<◌, ℕ, List, map, length, get_or, arith, ap, sym, ◌∙◌}
use Rattle.std.proofs.lemmas.List.{get_or-map, length-map}
use Rattle.ir_model.specs.Values as model
use Rattle.ir_model.specs.States.{value_of}
use Rattle.ir_model.specs.Operations.{operand}
use Rattle.mem_cells.specs.declared.values.Value.{Value}
use Rattle.mem_cells.specs.declared.values.Value.TheVariants.{Integer, Address, Poison}
use Rattle.mem_cells.specs.Shapes.{value_shape}
use Rattle.program_tables.specs.declared.program.Operand.{Operand}
use Rattle.program_tables.specs.Shapes.{operand_shape}
use Rattle.ir_compute.specs.Operands.{operand_values}

-- the value of the operand of a number
pub operand_found : (values : List Value) (operands : List Operand) (k : ℕ) (x : Operand) → k < length operands → x ≡ get_or operands k x
    → operand k (operand_values values operands) ≡ value_of (map value_shape values) (operand_shape x)
operand_found values operands k x lt is =
    let long = length-map operands operand_shape in
    get_or-map (value_of (map value_shape values)) (map operand_shape operands) k (operand_shape x) model.Poison (omega (arith, long))
    ∙ ap (value_of (map value_shape values)) (get_or-map operand_shape operands k x (operand_shape x) lt ∙ ap operand_shape (sym is))

-- a value that stands for a number is that number
pub number_of : (v : Value) (w n : ℕ) → model.Integer w n ≡ value_shape v → v ≡ Integer w n
number_of (Integer u m) w n is = cc
number_of (Address p) w n is = cc
number_of Poison w n is = cc
