-- When a module is proper.
use Rattle.std.specs.Prelude.{◌≡◌, ℕ, [], Some, slice_get, codes}
use Rattle.ir_tree.specs.Shape.{integer, FunctionShape, ModuleShape}
use Rattle.ir_rules.specs.NameRules.{HasNames}
use Rattle.ir_rules.specs.TypeRules.{HasTypes}
use Rattle.ir_proper.specs.FlowRules.{HasFlow}

-- a function is where a program begins: `main`, without parameters, which returns an `i32`
pub record IsMain (f : FunctionShape) : Type 0 where
  pub called_main : f.name ≡ codes "main"
  pub no_params : f.params ≡ []
  pub gives_status : f.ret ≡ integer 32

-- a module defines `main`
abbrev pub HasMain : ModuleShape → Type 0
HasMain m = (k : ℕ) × (f : FunctionShape) × (slice_get m.functions k ≡ Some f) × IsMain f

-- the names, the types and the flow of a module are proper, and it defines `main`
pub record IsProper (m : ModuleShape) : Type 0 where
  pub names : HasNames m
  pub types : HasTypes m
  pub flow : HasFlow m
  pub main : HasMain m
