-- Operands and instructions of a function, with numbers in the place of names.
use Rattle.std.specs.Prelude.{ℕ, ◌*◌, ◌==◌, ◌&&◌, Bool, false, if◌then◌else◌, List, [], ◌∷◌, map, Option, Some, None, unwrap_or, unsigned_abs, codes}
use Rattle.std.specs.List.{position_from}
use Rattle.std.specs.Str.{bytes_eq}
use Rattle.ir_tree.specs.Shape.{TyShape, ValShape, local, fixed, global, TyValShape, CaseShape, BodyShape, phi, binary, icmp, select, convert, freeze, alloca, load, store, get_element, call, jump, branch, switch, return_void, return_value, unreachable, InstShape}
use Rattle.ir_rules.specs.declared.Site.{Site}
use Rattle.ir_rules.specs.declared.Site.TheVariants.{Param, Inst}
use Rattle.ir_rules.specs.declared.Callee.{Callee}
use Rattle.ir_rules.specs.declared.Callee.TheVariants.{Defined, Declared}
use Rattle.ir_rules.specs.Values.{gives_value, values, value_of, block_of}
use Rattle.ir_rules.specs.Things.{callee_of}
use Rattle.ir_rules.specs.Instructions.{Around, val_number}
use Rattle.ir_model.specs.Values.{Poison}
use Rattle.ir_model.specs.Integers.{bits_of}
use Rattle.ir_model.specs.Pointers.{Stride}
use Rattle.ir_model.specs.Operations.{Binary, Compare, Select, Convert, Freeze, Walk}
use Rattle.ir_model.specs.Programs.{Operand, Local, Fixed, Case, Action, Compute, Alloca, Load, Store, Call, PutChar, GetChar, Jump, Branch, Switch, ReturnVoid, Return, Unreachable}
use Rattle.ir_program.specs.Sizes.{ty_size}
use Rattle.ir_program.specs.Strides.{width_of, Index, strides_of, scaled_only}
use Rattle.ir_program.specs.Constants.{const_value, access_of}

-- the value of a number, or poison where a name stands for none
abbrev pub local_or_poison : Option ℕ → Operand
local_or_poison None = Fixed Poison
local_or_poison (Some id) = Local id

-- an operand of a type
abbrev pub operand_of : Around → TyShape → ValShape → Operand
operand_of a t (local name) = local_or_poison (value_of a.function name)
operand_of a t (fixed c) = Fixed (const_value a.within t c)

-- an operand with its type
abbrev pub typed_operand : Around → TyValShape → Operand
typed_operand a x = operand_of a x.ty x.val

-- the number of the block that a name stands for
abbrev pub block_number : Around → List ℕ → ℕ
block_number a name = unwrap_or (block_of a.function name) 0

-- an operand as an index
abbrev pub operand_index : TyValShape → Index
operand_index x = record { width = width_of x.ty; number = val_number x.val }

-- the steps of a `getelementptr`
abbrev pub steps_of : Around → TyShape → List TyValShape → List Stride
steps_of a t indices = strides_of a.within.types t (map operand_index indices)

-- a case of a switch on a value of so many bits
abbrev pub program_case : Around → ℕ → CaseShape → Case
program_case a width c = record { number = bits_of width c.value; to = block_number a c.to }

-- a call of a name that isn't defined: of `putchar`, or else of `getchar`
abbrev pub outside_call : List ℕ → Action
outside_call name = if bytes_eq name (codes "putchar") then PutChar else GetChar

-- a call of what a name stands for
abbrev pub call_of : List ℕ → Option Callee → Action
call_of name None = Unreachable
call_of name (Some (Defined f)) = Call f
call_of name (Some (Declared k)) = outside_call name

-- a call of an operand, which is a name in every proper module
abbrev pub called : Around → ValShape → Action
called a (local name) = Unreachable
called a (fixed (global name)) = call_of name (callee_of a.within name)
called a (fixed c) = Unreachable

-- what an instruction does, a line for each. A phi is none of the instructions by position
abbrev pub action_of : Around → BodyShape → Action
action_of a (phi t inputs) = Unreachable
action_of a (binary operation flags t left right) = Compute (Binary operation flags (width_of t))
action_of a (icmp predicate t left right) = Compute (Compare predicate)
action_of a (select condition met unmet) = Compute Select
action_of a (convert conversion t val to) = Compute (Convert conversion (width_of t) (width_of to))
action_of a (freeze t val) = Compute Freeze
action_of a (alloca t count) = Alloca (unsigned_abs count * ty_size a.within.types t)
action_of a (load t at) = Load (access_of t)
action_of a (store value at) = Store (access_of value.ty)
action_of a (get_element inbounds t base indices) = Compute (Walk inbounds (steps_of a t indices))
action_of a (call ret callee arguments) = called a callee
action_of a (jump to) = Jump (block_number a to)
action_of a (branch condition met unmet) = Branch (block_number a met) (block_number a unmet)
action_of a (switch value otherwise cases) = Switch (block_number a otherwise) (map (program_case a (width_of value.ty)) cases)
action_of a return_void = ReturnVoid
action_of a (return_value value) = Return
action_of a unreachable = Unreachable

-- its operands, a line for each
abbrev pub operands_of : Around → BodyShape → List Operand
operands_of a (phi t inputs) = []
operands_of a (binary operation flags t left right) = operand_of a t left ∷ operand_of a t right ∷ []
operands_of a (icmp predicate t left right) = operand_of a t left ∷ operand_of a t right ∷ []
operands_of a (select condition met unmet) = typed_operand a condition ∷ typed_operand a met ∷ typed_operand a unmet ∷ []
operands_of a (convert conversion t val to) = operand_of a t val ∷ []
operands_of a (freeze t val) = operand_of a t val ∷ []
operands_of a (alloca t count) = []
operands_of a (load t at) = typed_operand a at ∷ []
operands_of a (store value at) = typed_operand a value ∷ typed_operand a at ∷ []
operands_of a (get_element inbounds t base indices) = typed_operand a base ∷ scaled_only (steps_of a t indices) (map (typed_operand a) indices)
operands_of a (call ret callee arguments) = map (typed_operand a) arguments
operands_of a (jump to) = []
operands_of a (branch condition met unmet) = typed_operand a condition ∷ []
operands_of a (switch value otherwise cases) = typed_operand a value ∷ []
operands_of a return_void = []
operands_of a (return_value value) = typed_operand a value ∷ []
operands_of a unreachable = []

-- whether a value is given by the instruction of these numbers of a block and in it
abbrev pub is_given_at : ℕ → ℕ → Site → Bool
is_given_at b i (Param k) = false
is_given_at b i (Inst c j) = c == b && j == i

-- the number of the value that the instruction there gives, if it gives one
abbrev pub result_number : Around → ℕ → ℕ → InstShape → Option ℕ
result_number a b i x = if gives_value x then position_from (λ v. is_given_at b i v.site) 0 (values a.function) else None
