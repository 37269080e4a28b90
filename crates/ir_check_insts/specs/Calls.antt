-- The parts of what a call needs.
use Rattle.std.specs.Prelude.{◌≡◌, ℕ, List, map, Option, None, Some}
use Rattle.ir_tree.specs.Shape.{TyShape, ConstShape, number, boolean, null, undef, poison, zero_value, text, elements, fields, global, address, ValShape, local, fixed}
use Rattle.ir_tree.specs.ShapeOf.{ty_shape, param_shape}
use Rattle.ir_tree.specs.declared.module.Function.{Function}
use Rattle.ir_tree.specs.declared.module.Declare.{Declare}
use Rattle.ir_rules.specs.declared.Callee.{Callee}
use Rattle.ir_rules.specs.Things.{callee_of, signature_of, Signature}
use Rattle.ir_rules.specs.Instructions.{Around as AroundShape, Calls}

-- which function a constant calls, if it is a name that may be called
abbrev pub called_by : AroundShape → ConstShape → Option Callee
called_by a (number value) = None
called_by a (boolean value) = None
called_by a null = None
called_by a undef = None
called_by a poison = None
called_by a zero_value = None
called_by a (text bytes) = None
called_by a (elements vs) = None
called_by a (fields vs packed) = None
called_by a (global name) = callee_of a.within name
called_by a (address inbounds t base indices) = None

-- which function an operand calls, if it is a name that may be called
abbrev pub callee_in : AroundShape → ValShape → Option Callee
callee_in a (local name) = None
callee_in a (fixed c) = called_by a c

-- the types of a defined function
abbrev pub defined_signature : List (List ℕ) → Function → Signature
defined_signature names f = record { ret = ty_shape names f.ret; params = map (λ p. p.ty) (map (param_shape names) f.params.items) }

-- the types of a declared function
abbrev pub declared_signature : List (List ℕ) → Declare → Signature
declared_signature names d = record { ret = ty_shape names d.ret; params = map (ty_shape names) d.params.items }

-- these are the types of what a function returns and of its arguments
abbrev pub IsCalledBy : Signature → TyShape → List TyShape → Type 0
IsCalledBy s ret arguments = (ret ≡ s.ret) × (arguments ≡ s.params)

-- the function that is called has these types
abbrev pub HasTypes : AroundShape → Callee → TyShape → List TyShape → Type 0
HasTypes a callee ret arguments = (s : Signature) × (signature_of a.within callee ≡ Some s) × IsCalledBy s ret arguments

-- an operand calls a function that has these types
abbrev pub CallsWith : AroundShape → ValShape → TyShape → List TyShape → Type 0
CallsWith a v ret arguments = (s : Signature) × Calls a v s × IsCalledBy s ret arguments
