-- What one instruction does to the state of a program (Language Reference, "Instruction Reference").
use Rattle.std.specs.Prelude.{ℕ, ◌-◌, ◌%◌, ◌^◌, ◌==◌, if◌then◌else◌, List, [], ◌∷◌, ◌++◌, map, length, Option, Some, None, slice_set}
use Rattle.std.specs.Option.{option_and_then}
use Rattle.ir_model.specs.declared.Why.{Why}
use Rattle.ir_model.specs.declared.Why.TheVariants as why
use Rattle.ir_model.specs.declared.Access.{Access}
use Rattle.ir_model.specs.Values.{Value, Integer, Address, Poison, MemoryBlock, Answer, Gives, Fails}
use Rattle.ir_model.specs.Memory.{made, all_ended, access_fault, load_at, stored}
use Rattle.ir_model.specs.Operations.{compute, operand}
use Rattle.ir_model.specs.Programs.{Operand, Fixed, Case, Action, Instruction, Input, Phi, Program, block_in}
use Rattle.ir_model.specs.Programs.{Compute, Alloca, Load, Store, Call, PutChar, GetChar, Jump, Branch, Switch, ReturnVoid, Return, Unreachable}
use Rattle.ir_model.specs.States.{Activation, State, StepResult, Ends, Undefined, value_of, instruction_at, after, goes_on, entered}

-- after an instruction that gave an answer
abbrev pub answered : Answer → Option ℕ → Activation → List Activation → State → StepResult
answered (Gives v) result a rest s = goes_on (after result v a) rest s
answered (Fails cause) result a rest s = Undefined cause

-- after a room of so many bytes was made, which is the activation's until it returns ("alloca")
abbrev pub roomed : ℕ → Option ℕ → Activation → List Activation → State → StepResult
roomed size result a rest s =
    let number : ℕ = length s.memory in
    let v : Value = Address (record { block = number; offset = 0 }) in
    goes_on (record (after result v a) { owned = number ∷ a.owned }) rest (record s { memory = made size s.memory })

-- what a load from a value answers ("load")
abbrev pub loaded : Access → Value → List MemoryBlock → Answer
loaded access (Integer width n) memory = Fails why.Poison
loaded access (Address q) memory = load_at access q memory
loaded access Poison memory = Fails why.Poison

-- after a store to an address, if it has no fault
abbrev pub written : Option Why → List MemoryBlock → Activation → List Activation → State → StepResult
written None memory a rest s = goes_on (after None Poison a) rest (record s { memory = memory })
written (Some cause) memory a rest s = Undefined cause

-- after a store of a value to a value ("store")
abbrev pub stores : Access → Value → Value → Activation → List Activation → State → StepResult
stores access v (Integer width n) a rest s = Undefined why.Poison
stores access v (Address q) a rest s = written (access_fault access q s.memory) (stored access v q s.memory) a rest s
stores access v Poison a rest s = Undefined why.Poison

-- after a byte was put, the lowest of a number; it is given back. This function and the next are this profile's only way out and in
abbrev pub puts : Value → Option ℕ → Activation → List Activation → State → StepResult
puts (Integer width n) result a rest s = goes_on (after result (Integer 32 (n % 256)) a) rest (record s { out = s.out ++ n % 256 ∷ [] })
puts (Address q) result a rest s = Undefined why.Poison
puts Poison result a rest s = Undefined why.Poison

-- after a byte was read; at the end of the input it is -1
abbrev pub gets : List ℕ → Option ℕ → Activation → List Activation → State → StepResult
gets [] result a rest s = goes_on (after result (Integer 32 (2 ^ 32 - 1)) a) rest s
gets (c ∷ cs) result a rest s = goes_on (after result (Integer 32 c) a) rest (record s { input = cs })

-- what a phi takes from a block: by the first input that names it
abbrev pub input_from : ℕ → List Input → Operand
input_from from [] = Fixed Poison
input_from from (x ∷ xs) = if x.from == from then x.operand else input_from from xs

-- the values after phis took theirs, each by the values before: all are read before any is set ("phi")
abbrev pub taken : ℕ → List Value → List Phi → List Value
taken from before [] = before
taken from before (x ∷ xs) = slice_set (taken from before xs) x.result (value_of before (input_from from x.inputs))

-- a block as it is entered from where an activation stands
abbrev pub at_block : Program → ℕ → Activation → Activation
at_block p to a = record a { block = to; position = 0; values = taken a.block a.values (block_in p a.function to).phis }

-- after a branch to a block, or to none where it hangs on poison ("br", "switch")
abbrev pub branches : Program → Option ℕ → Activation → List Activation → State → StepResult
branches p None a rest s = Undefined why.Poison
branches p (Some to) a rest s = goes_on (at_block p to a) rest s

-- where a branch leads
abbrev pub branch_target : ℕ → ℕ → Value → Option ℕ
branch_target met unmet (Integer width n) = Some (if n == 0 then unmet else met)
branch_target met unmet (Address q) = None
branch_target met unmet Poison = None

-- where the cases of a switch lead from a number, or another block where none has it
abbrev pub case_of : ℕ → ℕ → List Case → ℕ
case_of n otherwise [] = otherwise
case_of n otherwise (x ∷ xs) = if x.number == n then x.to else case_of n otherwise xs

-- where a switch leads
abbrev pub switch_target : ℕ → List Case → Value → Option ℕ
switch_target otherwise cases (Integer width n) = Some (case_of n otherwise cases)
switch_target otherwise cases (Address q) = None
switch_target otherwise cases Poison = None

-- the end of the program, where `main` returns a value; its status is the lowest byte (this profile's choice)
abbrev pub finishes : Value → StepResult
finishes (Integer width n) = Ends (n % 256)
finishes (Address q) = Undefined why.Poison
finishes Poison = Undefined why.Poison

-- the number of the value that the call gives at which an activation waits
abbrev pub awaited : Program → Activation → Option ℕ
awaited p a = option_and_then (λ x. x.result) (instruction_at p a)

-- after a function returned a value: its blocks are dead, and the activation that waited for it goes on ("ret"); without one the
-- program ends
abbrev pub returns : Program → Value → Activation → List Activation → State → StepResult
returns p v a [] s = finishes v
returns p v a (b ∷ rest) s = goes_on (after (awaited p b) v b) rest (record s { memory = all_ended a.owned s.memory })

-- what an instruction does with the values of its operands, a line an instruction
unfoldable pub act : Program → Action → Option ℕ → List Value → Activation → List Activation → State → StepResult
act p (Compute operation) result vs a rest s = answered (compute operation s.memory vs) result a rest s
act p (Alloca size) result vs a rest s = roomed size result a rest s
act p (Load access) result vs a rest s = answered (loaded access (operand 0 vs) s.memory) result a rest s
act p (Store access) result vs a rest s = stores access (operand 0 vs) (operand 1 vs) a rest s
act p (Call f) result vs a rest s = goes_on (entered p f vs) (a ∷ rest) s
act p PutChar result vs a rest s = puts (operand 0 vs) result a rest s
act p GetChar result vs a rest s = gets s.input result a rest s
act p (Jump to) result vs a rest s = branches p (Some to) a rest s
act p (Branch met unmet) result vs a rest s = branches p (branch_target met unmet (operand 0 vs)) a rest s
act p (Switch otherwise cases) result vs a rest s = branches p (switch_target otherwise cases (operand 0 vs)) a rest s
act p ReturnVoid result vs a rest s = returns p Poison a rest s
act p Return result vs a rest s = returns p (operand 0 vs) a rest s
act p Unreachable result vs a rest s = Undefined why.Unreachable

-- what the instruction does at which the innermost activation stands; without an instruction there is no meaning
abbrev pub did : Program → Option Instruction → Activation → List Activation → State → StepResult
did p None a rest s = Undefined why.Unreachable
did p (Some x) a rest s = act p x.action x.result (map (value_of a.values) x.operands) a rest s

-- what the innermost activation does; without one there is no meaning
abbrev pub stepped : Program → List Activation → State → StepResult
stepped p [] s = Undefined why.Unreachable
stepped p (a ∷ rest) s = did p (instruction_at p a) a rest s

-- one step of a program
unfoldable pub step : Program → State → StepResult
step p s = stepped p s.stack s
