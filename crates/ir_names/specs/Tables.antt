-- What the tables of names of a module and of a function have.
use Rattle.std.specs.Prelude.{◌≡◌, ℕ, List, map, Option, None, is_some, slice_get, unwrap_or}
use Rattle.std.specs.Option.{option_map}
use Rattle.std.specs.Ordering.{nat_cmp}
use Rattle.std.specs.BTreeMap.{is_at}
use Rattle.std.specs.Map.{lookup}
use Rattle.std.specs.List.{IsDistinct}
use Rattle.std.specs.Str.{bytes_eq}
use Rattle.ir_tree.specs.NameTable.{text_of, IsKnown}
use Rattle.ir_tree.specs.ShapeOf.{module_shape, function_shape}
use Rattle.ir_tree.specs.declared.module.Function.{Function}
use Rattle.ir_tree.specs.declared.module.Module.{Module}
use Rattle.ir_layout.specs.Rules.{named_ty}
use Rattle.ir_rules.specs.declared.Callee.{Callee}
use Rattle.ir_rules.specs.declared.Callee.TheVariants.{Declared}
use Rattle.ir_rules.specs.declared.Site.{Site}
use Rattle.ir_rules.specs.Values.{values, value_of, block_of}
use Rattle.ir_rules.specs.Things.{global_of, callee_of, defined_or}

-- for each name of a module, by number, which item of each kind is the first one with it
pub record ModuleTable : Type 0 where
  pub types : List (Option ℕ)
  pub globals : List (Option ℕ)
  pub defined : List (Option ℕ)
  pub declared : List (Option ℕ)

-- what a list has for the name of a number
abbrev pub entry : List (Option ℕ) → ℕ → Option ℕ
entry firsts id = unwrap_or (slice_get firsts id) None

-- which function the name of a number may call
abbrev pub callee_entry : ModuleTable → ℕ → Option Callee
callee_entry t id = defined_or (entry t.defined id) (option_map (λ k. Declared k) (entry t.declared id))

-- a table says what the names of a module stand for outside of its functions
pub record AreNamesOf (m : Module) (t : ModuleTable) : Type 0 where
  pub distinct : IsDistinct bytes_eq m.names
  pub types : (id : ℕ) → IsKnown m.names id → is_some (entry t.types id) ≡ is_some (named_ty (module_shape m).types (text_of m.names id))
  pub globals : (id : ℕ) → IsKnown m.names id → entry t.globals id ≡ global_of (module_shape m) (text_of m.names id)
  pub callees : (id : ℕ) → IsKnown m.names id → callee_entry t id ≡ callee_of (module_shape m) (text_of m.names id)

-- the values of a function, and for the numbers of names which value and which block is the first one with it, as pairs of both numbers
pub record FunctionTable : Type 0 where
  pub sites : List Site
  pub values : List (ℕ × ℕ)
  pub blocks : List (ℕ × ℕ)

-- what a map, as its pairs, has for a number
abbrev pub found : List (ℕ × ℕ) → ℕ → Option ℕ
found pairs number = lookup (is_at (nat_cmp number)) pairs

-- a table says what the values of a function are, and what names stand for in it
pub record AreNamesIn (names : List (List ℕ)) (f : Function) (t : FunctionTable) : Type 0 where
  pub sites : t.sites ≡ map (λ v. v.site) (values (function_shape names f))
  pub values : (id : ℕ) → IsKnown names id → found t.values id ≡ value_of (function_shape names f) (text_of names id)
  pub blocks : (id : ℕ) → IsKnown names id → found t.blocks id ≡ block_of (function_shape names f) (text_of names id)
