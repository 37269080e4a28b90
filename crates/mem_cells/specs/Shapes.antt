-- What addresses, values and answers of the code stand for.
use Rattle.std.specs.Prelude.{Result, Ok, Err}
use Rattle.ir_model.specs.declared.Why.{Why}
use Rattle.ir_model.specs.declared.Why.TheVariants as why
use Rattle.ir_model.specs.Values as model
use Rattle.mem_cells.specs.declared.values.Pointer.{Pointer}
use Rattle.mem_cells.specs.declared.values.Value.{Value}
use Rattle.mem_cells.specs.declared.values.Value.TheVariants.{Integer, Address, Poison}
use Rattle.mem_cells.specs.declared.values.Fault.{Fault}
use Rattle.mem_cells.specs.declared.values.Fault.TheVariants.{OutOfBounds, Dead}

-- an address
abbrev pub pointer_shape : Pointer → model.Pointer
pointer_shape p = record { block = p.block; offset = p.offset }

-- a value
abbrev pub value_shape : Value → model.Value
value_shape (Integer width number) = model.Integer width number
value_shape (Address p) = model.Address (pointer_shape p)
value_shape Poison = model.Poison

-- why a program has no meaning after a refusal
abbrev pub why_of : Fault → Why
why_of OutOfBounds = why.OutOfBounds
why_of Dead = why.Dead

-- what a load answers
abbrev pub answer_of : Result Value Fault → model.Answer
answer_of (Ok v) = model.Gives (value_shape v)
answer_of (Err fault) = model.Fails (why_of fault)
