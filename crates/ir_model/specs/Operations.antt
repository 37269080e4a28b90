-- The operations that compute a value from values and change nothing else (Language Reference, "Instruction Reference").
-- Poison goes through every operation (Language Reference, "Poison Values") but `select`, `freeze` and a division.
use Rattle.std.specs.Prelude.{ℕ, ◌==◌, Bool, if◌then◌else◌, List, drop, slice_index_or}
use Rattle.ir_tree.specs.declared.module.Bin.{Bin}
use Rattle.ir_tree.specs.declared.module.Flags.{Flags}
use Rattle.ir_tree.specs.declared.module.Pred.{Pred}
use Rattle.ir_tree.specs.declared.module.Conv.{Conv}
use Rattle.ir_model.specs.declared.Why.TheVariants as why
use Rattle.ir_model.specs.Values.{Value, Integer, Address, Poison, MemoryBlock, Answer, Gives, Fails}
use Rattle.ir_model.specs.Integers.{binary, holds, truth, converted}
use Rattle.ir_model.specs.Pointers.{Stride, compared, walked}

-- an operation, apart from its operands, with the widths of the integers that it makes
pub data Operation : Type 0 where
  Binary : (operation : Bin) (flags : Flags) (width : ℕ) → Operation
  Compare : (predicate : Pred) → Operation
  Select : Operation
  Convert : (conversion : Conv) (from to : ℕ) → Operation
  Freeze : Operation
  Walk : (inbounds : Bool) (strides : List Stride) → Operation

-- the operand of a number
abbrev pub operand : ℕ → List Value → Value
operand k vs = slice_index_or vs k Poison

-- a comparison of two integers or of two addresses; where one operand is poison the answer is poison, whatever the other is
abbrev pub compare : Pred → List MemoryBlock → Value → Value → Answer
compare predicate memory (Integer w a) (Integer u b) = Gives (truth (holds predicate w a b))
compare predicate memory (Address x) (Address y) = compared predicate memory x y
compare predicate memory x y = Gives Poison

-- the first value where a condition holds, else the second; the one that isn't chosen may be poison
abbrev pub chosen : Value → Value → Value → Value
chosen (Integer width n) x y = if n == 0 then y else x
chosen (Address q) x y = Poison
chosen Poison x y = Poison

-- a number of one width as one of another
abbrev pub resized : Conv → ℕ → ℕ → Value → Value
resized conversion from to (Integer width n) = Integer to (converted conversion from to n)
resized conversion from to (Address q) = Poison
resized conversion from to Poison = Poison

-- a value that is not poison, frozen. The Language Reference lets `freeze` of poison be any value; that it has no meaning is this
-- profile's choice
abbrev pub frozen : Value → Answer
frozen (Integer width n) = Gives (Integer width n)
frozen (Address q) = Gives (Address q)
frozen Poison = Fails why.Poison

-- what an operation answers for its operands, a line an operation
unfoldable pub compute : Operation → List MemoryBlock → List Value → Answer
compute (Binary operation flags width) memory vs = binary operation flags width (operand 0 vs) (operand 1 vs)
compute (Compare predicate) memory vs = compare predicate memory (operand 0 vs) (operand 1 vs)
compute Select memory vs = Gives (chosen (operand 0 vs) (operand 1 vs) (operand 2 vs))
compute (Convert conversion from to) memory vs = Gives (resized conversion from to (operand 0 vs))
compute Freeze memory vs = frozen (operand 0 vs)
compute (Walk inbounds strides) memory vs = Gives (walked inbounds strides memory (operand 0 vs) (drop 1 vs))
