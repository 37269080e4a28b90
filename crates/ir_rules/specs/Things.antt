-- What the names of a module stand for.
use Rattle.std.specs.Prelude.{ℕ, Bool, false, ◌||◌, if◌then◌else◌, List, map, Option, Some, None, is_some, slice_get, codes}
use Rattle.std.specs.Option.{option_map}
use Rattle.std.specs.List.{position_from}
use Rattle.std.specs.Str.{bytes_eq}
use Rattle.ir_tree.specs.Shape.{TyShape, FunctionShape, ModuleShape}
use Rattle.ir_layout.specs.Rules.{named_ty}
use Rattle.ir_rules.specs.declared.Callee.{Callee}
use Rattle.ir_rules.specs.declared.Callee.TheVariants.{Defined, Declared}
use Rattle.ir_rules.specs.Values.{value_of, block_of}
use Rattle.ir_rules.specs.Uses.{Use, as_type, as_global, as_callee, as_value, as_block}

-- which global a name stands for: the first one with it
abbrev pub global_of : ModuleShape → List ℕ → Option ℕ
global_of m name = position_from (λ g. bytes_eq g.name name) 0 m.globals

-- which defined function a name stands for: the first one with it
abbrev pub function_of : ModuleShape → List ℕ → Option ℕ
function_of m name = position_from (λ f. bytes_eq f.name name) 0 m.functions

-- which declared function a name stands for: the first one with it
abbrev pub declare_of : ModuleShape → List ℕ → Option ℕ
declare_of m name = position_from (λ d. bytes_eq d.name name) 0 m.declares

-- the name of one of the two functions that a module may call without defining it
abbrev pub is_outside_name : List ℕ → Bool
is_outside_name name = bytes_eq name (codes "putchar") || bytes_eq name (codes "getchar")

-- the declared function that a name may call: that of one of the two names
abbrev pub outside_of : ModuleShape → List ℕ → Option Callee
outside_of m name = if is_outside_name name then option_map (λ k. Declared k) (declare_of m name) else None

-- a defined function that a name stands for, else another one that it may call
abbrev pub defined_or : Option ℕ → Option Callee → Option Callee
defined_or None other = other
defined_or (Some k) other = Some (Defined k)

-- which function a name may call: a defined one but `main`, or `putchar` or `getchar` where it is declared
abbrev pub callee_of : ModuleShape → List ℕ → Option Callee
callee_of m name = if bytes_eq name (codes "main") then None else defined_or (function_of m name) (outside_of m name)

-- the types of a function: of what it returns, and of its parameters
pub record Signature : Type 0 where
  pub ret : TyShape
  pub params : List TyShape

-- the types of a function that may be called
abbrev pub signature_of : ModuleShape → Callee → Option Signature
signature_of m (Defined k) = option_map (λ f. record { ret = f.ret; params = map (λ p. p.ty) f.params }) (slice_get m.functions k)
signature_of m (Declared k) = option_map (λ d. record { ret = d.ret; params = d.params }) (slice_get m.declares k)

-- a name that is used in a function, or outside of all of them, stands for something
abbrev pub is_there : ModuleShape → Option FunctionShape → Use → Bool
is_there m f (as_type name) = is_some (named_ty m.types name)
is_there m f (as_global name) = is_some (global_of m name)
is_there m f (as_callee name) = is_some (callee_of m name)
is_there m None (as_value name) = false
is_there m (Some f) (as_value name) = is_some (value_of f name)
is_there m None (as_block name) = false
is_there m (Some f) (as_block name) = is_some (block_of f name)
