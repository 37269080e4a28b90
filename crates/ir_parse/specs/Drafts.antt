-- Items as the code reads them, and a module while its items are read, under a table of names.
use Rattle.std.specs.Prelude.{ℕ, Bool, ◌&&◌, List, [], ◌∷◌, ◌++◌, map}
use Rattle.std.specs.List.{list_all}
use Rattle.ir_tree.specs.Shape.{ModuleShape}
use Rattle.ir_tree.specs.ShapeOf.{named_ty_shape, global_shape, declare_shape, function_shape}
use Rattle.ir_tree.specs.Known.{named_ty_known, global_known, declare_known, function_known}
use Rattle.ir_grammar_modules.specs.Items.{ItemShape, type_item, global_item, declare_item, function_item}
use Rattle.ir_parse.specs.declared.items.Item.{Item}
use Rattle.ir_parse.specs.declared.items.Item.TheVariants.{Named, Variable, Declared, Defined}
use Rattle.ir_parse.specs.declared.draft.Draft.{Draft}

abbrev pub item_shape : List (List ℕ) → Item → ItemShape
item_shape names (Named x) = type_item (named_ty_shape names x)
item_shape names (Variable x) = global_item (global_shape names x)
item_shape names (Declared x) = declare_item (declare_shape names x)
item_shape names (Defined x) = function_item (function_shape names x.function)

abbrev pub item_known : ℕ → Item → Bool
item_known count (Named x) = named_ty_known count x
item_known count (Variable x) = global_known count x
item_known count (Declared x) = declare_known count x
item_known count (Defined x) = function_known count x.function

-- where the lines of a function begin; another item has none
abbrev pub item_lines : Item → List (List ℕ)
item_lines (Defined x) = map (λ v. v.items) x.spots.items
item_lines _ = []

abbrev pub draft_shape : List (List ℕ) → Draft → ModuleShape
draft_shape names d = record {
  types = map (named_ty_shape names) d.types.items;
  globals = map (global_shape names) d.globals.items;
  declares = map (declare_shape names) d.declares.items;
  functions = map (function_shape names) d.functions.items;
}

abbrev pub draft_known : ℕ → Draft → Bool
draft_known count d =
    list_all (named_ty_known count) d.types.items && list_all (global_known count) d.globals.items
    && list_all (declare_known count) d.declares.items && list_all (function_known count) d.functions.items

-- a module with one item more, after those of its kind
abbrev pub with_last : ItemShape → ModuleShape → ModuleShape
with_last (type_item v) m = record { types = m.types ++ v ∷ []; globals = m.globals; declares = m.declares; functions = m.functions }
with_last (global_item v) m = record { types = m.types; globals = m.globals ++ v ∷ []; declares = m.declares; functions = m.functions }
with_last (declare_item v) m = record { types = m.types; globals = m.globals; declares = m.declares ++ v ∷ []; functions = m.functions }
with_last (function_item v) m = record { types = m.types; globals = m.globals; declares = m.declares; functions = m.functions ++ v ∷ [] }
