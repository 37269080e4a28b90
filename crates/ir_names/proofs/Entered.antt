-- The tables of a module and of a function say what names stand for.
use Rattle.std.proofs.Common.{◌≡◌, ℕ, zero, suc, ◌<◌, get_or, ◌++◌, Bool, true, false, List, [], ◌∷◌, length, map, Option, Some, None, refl, sym, ◌∙◌, ap, subst, slice_get, codes, arith}
use Rattle.std.specs.Prelude.{not, is_some, if◌then◌else◌}
use Rattle.std.specs.Option.{option_map}
use Rattle.std.specs.List.{list_all, position_from, IsDistinct}
use Rattle.std.specs.Str.{bytes_eq}
use Rattle.std.proofs.lemmas.Slice.Eq.{bytes_eq-Decides}
use Rattle.ir_tree.specs.NameTable.{text_of, IsKnown}
use Rattle.ir_tree.specs.ShapeOf.{named_ty_shape, global_shape, declare_shape, function_shape, module_shape, block_shape, name_shape}
use Rattle.ir_tree.specs.Known.{named_ty_known, global_known, declare_known, function_known, module_known, block_known, result_known}
use Rattle.ir_tree.specs.declared.names.NameId.{NameId}
use Rattle.ir_tree.specs.declared.module.Declare.{Declare}
use Rattle.ir_tree.specs.declared.module.Function.{Function}
use Rattle.ir_tree.specs.declared.module.GlobalItem.{GlobalItem}
use Rattle.ir_tree.specs.declared.module.NamedTy.{NamedTy}
use Rattle.ir_tree.specs.declared.module.Block.{Block}
use Rattle.ir_tree.specs.declared.module.Module.{Module}
use Rattle.ir_tree.proofs.Grows.{and_left, and_right}
use Rattle.ir_rules.specs.declared.Callee.TheVariants.{Declared}
use Rattle.ir_rules.specs.Things.{is_outside_name, declare_of, callee_of, function_of, global_of, defined_or}
use Rattle.ir_names.specs.Numbers.{has_number, first_with, defined_id, declared_id}
use Rattle.ir_rules.specs.declared.Site.{Site}
use Rattle.ir_rules.specs.Values.{values, has_name}
use Rattle.ir_names.specs.declared.values.Value.{Value}
use Rattle.ir_names.specs.Results.{value_shape, value_known}
use Rattle.ir_names.specs.Tables.{ModuleTable, callee_entry, AreNamesOf, FunctionTable, found, AreNamesIn}
use Rattle.ir_names.proofs.NumberedNames.{same_text, same_place, type_found, HasFirsts, entry_first, chosen_place}

-- the items of a module are known
pub types_known : (m : Module) → module_known m ≡ true → list_all (named_ty_known (length m.names)) m.types.items ≡ true
types_known m known = and_left _ _ (and_left _ _ (and_left _ _ known))

pub globals_known : (m : Module) → module_known m ≡ true → list_all (global_known (length m.names)) m.globals.items ≡ true
globals_known m known = and_right _ _ (and_left _ _ (and_left _ _ known))

pub declares_known : (m : Module) → module_known m ≡ true → list_all (declare_known (length m.names)) m.declares.items ≡ true
declares_known m known = and_right _ _ (and_left _ _ known)

pub functions_known : (m : Module) → module_known m ≡ true → list_all (function_known (length m.names)) m.functions.items ≡ true
functions_known m known = and_right _ _ known

-- `main` is no name of the two
main_inside : (name : List ℕ) → bytes_eq name (codes "main") ≡ true → is_outside_name name ≡ false
main_inside name is =
    subst (λ (z : List ℕ). is_outside_name z ≡ false) (sym ((bytes_eq-Decides name (codes "main")).0 is)) refl

-- what is called, by the tests of a name
called : (main outside : Bool) (defined declared : Option ℕ) → (main ≡ true → outside ≡ false)
    → defined_or (if not main then defined else None) (option_map (λ k. Declared k) (if outside then declared else None))
    ≡ (if main then None else defined_or defined (if outside then option_map (λ k. Declared k) declared else None))
called true true defined declared inside = let wrong : true ≡ false = inside refl in cc
called true false defined declared inside = refl
called false true defined declared inside = refl
called false false defined declared inside = refl

-- what the tables of a module are made of
pub record IsMadeOf (m : Module) (t : ModuleTable) : Type 0 where
  pub types : HasFirsts (length m.names) (map (λ x. Some x.name) m.types.items) t.types
  pub globals : HasFirsts (length m.names) (map (λ x. Some x.name) m.globals.items) t.globals
  pub defined : HasFirsts (length m.names) (map (defined_id m.names) m.functions.items) t.defined
  pub declared : HasFirsts (length m.names) (map (declared_id m.names) m.declares.items) t.declared

-- a table of the first items, as it was made
pub made_of : {X : Type 0} (f : X → Option NameId) (n count : ℕ) (read ids : List (Option NameId)) (xs ys : List X) (firsts : List (Option ℕ))
    → HasFirsts count read firsts → count ≡ n → read ≡ ids → ids ≡ map f xs → xs ≡ ys → HasFirsts n (map f ys) firsts
made_of f n count read ids xs ys firsts has long is made same number h =
    subst (λ (z : List (Option NameId)). slice_get firsts number ≡ Some (first_with z number)) (is ∙ made ∙ ap (map f) same) (has number (omega (arith, h, long)))

-- the numbers that were read are those of the items
pub first_read : {X : Type 0} (f : X → Option NameId) (read ids : List (Option NameId)) (xs ys : List X) (firsts : ℕ → Option ℕ)
    → ((number : ℕ) → firsts number ≡ first_with read number) → read ≡ ids → ids ≡ map f xs → xs ≡ ys → (number : ℕ) → firsts number ≡ first_with (map f ys) number
first_read f read ids xs ys firsts are is made same number =
    are number ∙ ap (λ (z : List (Option NameId)). first_with z number) (is ∙ made ∙ ap (map f) same)

module _ (m : Module) (known : module_known m ≡ true) (distinct : IsDistinct bytes_eq m.names) where
  first_type : (id : ℕ) → IsKnown m.names id
      → first_with (map (λ x. Some x.name) m.types.items) id ≡ position_from (λ t. bytes_eq t.name (text_of m.names id)) 0 (module_shape m).types
  first_type id also =
      same_place (λ (x : NamedTy). Some x.name) (named_ty_shape m.names) (λ t. bytes_eq t.name (text_of m.names id)) (named_ty_known (length m.names)) id
      (λ (x : NamedTy) k. same_text m.names distinct x.name.0 id (and_left _ _ k) also) 0 m.types.items (types_known m known)

  first_global : (id : ℕ) → IsKnown m.names id
      → first_with (map (λ x. Some x.name) m.globals.items) id ≡ global_of (module_shape m) (text_of m.names id)
  first_global id also =
      same_place (λ (x : GlobalItem). Some x.name) (global_shape m.names) (λ g. bytes_eq g.name (text_of m.names id)) (global_known (length m.names)) id
      (λ (x : GlobalItem) k. same_text m.names distinct x.name.0 id (and_left _ _ (and_left _ _ k)) also) 0 m.globals.items (globals_known m known)

  first_declared : (id : ℕ) → IsKnown m.names id
      → first_with (map (declared_id m.names) m.declares.items) id
      ≡ (if is_outside_name (text_of m.names id) then declare_of (module_shape m) (text_of m.names id) else None)
  first_declared id also =
      chosen_place m.names distinct is_outside_name (λ (x : Declare). x.name) (declare_shape m.names) (λ d. d.name) (declare_known (length m.names))
      (λ (x : Declare). refl) (λ (x : Declare) k. and_left _ _ (and_left _ _ k)) m.declares.items (declares_known m known) id also

  first_defined : (id : ℕ) → IsKnown m.names id
      → first_with (map (defined_id m.names) m.functions.items) id
      ≡ (if not (bytes_eq (text_of m.names id) (codes "main")) then function_of (module_shape m) (text_of m.names id) else None)
  first_defined id also =
      chosen_place m.names distinct (λ z. not (bytes_eq z (codes "main"))) (λ (x : Function). x.name) (function_shape m.names) (λ f. f.name)
      (function_known (length m.names)) (λ (x : Function). refl) (λ (x : Function) k. and_left _ _ (and_left _ _ (and_left _ _ k))) m.functions.items
      (functions_known m known) id also

  callee_entered : (t : ModuleTable) → IsMadeOf m t → (id : ℕ) → IsKnown m.names id → callee_entry t id ≡ callee_of (module_shape m) (text_of m.names id)
  callee_entered t made id also =
      let defined = entry_first m.names (map (defined_id m.names) m.functions.items) t.defined id made.defined also ∙ first_defined id also in
      let declared = entry_first m.names (map (declared_id m.names) m.declares.items) t.declared id made.declared also ∙ first_declared id also in
      rw (defined, declared)
      (called (bytes_eq (text_of m.names id) (codes "main")) (is_outside_name (text_of m.names id)) (function_of (module_shape m) (text_of m.names id))
      (declare_of (module_shape m) (text_of m.names id)) (main_inside (text_of m.names id)))

  pub module_entered : (t : ModuleTable) → IsMadeOf m t → AreNamesOf m t
  module_entered t made = record {
    distinct = distinct;
    types = λ id also.
        ap (λ (o : Option ℕ). is_some o) (entry_first m.names (map (λ (x : NamedTy). Some x.name) m.types.items) t.types id made.types also ∙ first_type id also)
        ∙ sym (type_found (text_of m.names id) 0 (module_shape m).types);
    globals = λ id also. entry_first m.names (map (λ (x : GlobalItem). Some x.name) m.globals.items) t.globals id made.globals also ∙ first_global id also;
    callees = callee_entered t made;
  }

-- a value's name is the one that is looked for where its number is
value_named : (names : List (List ℕ)) → IsDistinct bytes_eq names → (id : ℕ) → IsKnown names id → (o : Option NameId) → result_known (length names) o ≡ true
    → has_number id o ≡ has_name (text_of names id) (option_map (name_shape names) o)
value_named names distinct id also None known = refl
value_named names distinct id also (Some x) known = same_text names distinct x.0 id known also

sites_shaped : (names : List (List ℕ)) (vs : List Value) → map (λ v. v.site) vs ≡ map (λ v. v.site) (map (value_shape names) vs)
sites_shaped names [] = refl
sites_shaped names (v ∷ vs) = ap (λ (z : List Site). v.site ∷ z) (sites_shaped names vs)

-- what the tables of a function are made of
pub record IsMadeIn (f : Function) (vs : List Value) (t : FunctionTable) : Type 0 where
  pub sites : t.sites ≡ map (λ v. v.site) vs
  pub values : (number : ℕ) → found t.values number ≡ first_with (map (λ v. v.name) vs) number
  pub blocks : (number : ℕ) → found t.blocks number ≡ first_with (map (λ b. Some b.name) f.blocks.items) number

pub function_entered : (names : List (List ℕ)) → IsDistinct bytes_eq names → (f : Function) → function_known (length names) f ≡ true → (vs : List Value)
    → map (value_shape names) vs ≡ values (function_shape names f) → list_all (value_known (length names)) vs ≡ true
    → (t : FunctionTable) → IsMadeIn f vs t → AreNamesIn names f t
function_entered names distinct f known vs are all t made = record {
  sites = made.sites ∙ sites_shaped names vs ∙ ap (map (λ v. v.site)) are;
  values = λ id also.
      made.values id
      ∙ same_place (λ (v : Value). v.name) (value_shape names) (λ v. has_name (text_of names id) v.name) (value_known (length names)) id
      (λ (v : Value) k. value_named names distinct id also v.name k) 0 vs all
      ∙ ap (position_from (λ v. has_name (text_of names id) v.name) 0) are;
  blocks = λ id also.
      made.blocks id
      ∙ same_place (λ (b : Block). Some b.name) (block_shape names) (λ b. bytes_eq b.name (text_of names id)) (block_known (length names)) id
      (λ (b : Block) k. same_text names distinct b.name.0 id (and_left _ _ k) also) 0 f.blocks.items (and_right _ _ known);
}

-- a table more, for one function more
pub each_pushed : {X Y : Type 0} (P : X → Y → Type 0) (xs : List X) (ys : List Y) (d : X) (y : Y) → length ys < length xs → P (get_or xs (length ys) d) y
    → ((k : ℕ) (f : X) (t : Y) → slice_get xs k ≡ Some f → slice_get ys k ≡ Some t → P f t)
    → (k : ℕ) (f : X) (t : Y) → slice_get xs k ≡ Some f → slice_get (ys ++ y ∷ []) k ≡ Some t → P f t
each_pushed {X} {Y} P [] ys d y within here each k f t at table = cc
each_pushed {X} {Y} P (x ∷ xs) [] d y within here each zero f t at table =
    let item : x ≡ f = cc in
    let last : y ≡ t = cc in
    subst (λ (w : X). P w t) item (subst (λ (w : Y). P x w) last here)
each_pushed {X} {Y} P (x ∷ xs) [] d y within here each (suc k) f t at table = cc
each_pushed {X} {Y} P (x ∷ xs) (z ∷ zs) d y within here each zero f t at table = each 0 f t at table
each_pushed {X} {Y} P (x ∷ xs) (z ∷ zs) d y within here each (suc k) f t at table =
    each_pushed P xs zs d y (omega arith) here (λ j g u p q. each (suc j) g u p q) k f t at table
