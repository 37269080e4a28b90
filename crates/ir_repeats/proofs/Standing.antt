-- Entries stand for items at their places, and each item has an entry.
use Rattle.std.proofs.Common.{◌≡◌, ℕ, zero, suc, ◌+◌, ◌<◌, true, inl, inr, List, [], ◌∷◌, ◌++◌, length, map, Option, Some, None, refl, ◌∙◌, ap, arith, slice_get, option_map, ltb-true}
use Rattle.ir_tree.proofs.Grows.{and_left}
use Rattle.ir_tree.specs.Known.{module_known, name_known}
use Rattle.ir_tree.specs.NameTable.{text_of}
use Rattle.ir_tree.specs.Shape.{NamedTyShape, GlobalShape, DeclareShape, FunctionShape}
use Rattle.ir_tree.specs.ShapeOf.{module_shape, named_ty_shape, global_shape, declare_shape, function_shape}
use Rattle.ir_tree.specs.declared.names.NameId.{NameId}
use Rattle.ir_tree.specs.declared.module.NamedTy.{NamedTy}
use Rattle.ir_tree.specs.declared.module.GlobalItem.{GlobalItem}
use Rattle.ir_tree.specs.declared.module.Declare.{Declare}
use Rattle.ir_tree.specs.declared.module.Function.{Function}
use Rattle.ir_tree.specs.declared.parsed.Parsed.{Parsed}
use Rattle.ir_rules.specs.Places.{Place, type_at, global_at, declare_at, function_at, inst_at_place, spot_of}
use Rattle.ir_rules.specs.NameRules.{type_name_at, symbol_at, declared_at}
use Rattle.ir_repeats.specs.declared.entries.Item.{Item}
use Rattle.ir_repeats.specs.declared.entries.Item.TheVariants as item
use Rattle.ir_repeats.specs.declared.entries.Entry.{Entry}
use Rattle.ir_repeats.specs.Entries.{place_of, type_entries, global_entries, declare_entries, function_entries, symbol_entries, IsAmong}
use Rattle.ir_repeats.proofs.Known.{types_known, globals_known, declares_known, functions_known}
use Rattle.ir_repeats.proofs.Lists.{left_of, right_of, either_of, entry_found, entry_there}

pub map_at : {X Y : Type 0} (f : X → Y) (xs : List X) (j : ℕ) (x : X) → slice_get xs j ≡ Some x → slice_get (map f xs) j ≡ Some (f x)
map_at f [] j x e = cc
map_at f (y ∷ xs) zero x e = let same : y ≡ x = cc in ap (λ (z : _). Some (f z)) same
map_at f (y ∷ xs) (suc j) x e = map_at f xs j x e

pub map_found : {X Y : Type 0} (f : X → Y) (xs : List X) (j : ℕ) (y : Y) → slice_get (map f xs) j ≡ Some y → (x : X) × (slice_get xs j ≡ Some x) × (f x ≡ y)
map_found f [] j y e = cc
map_found f (x ∷ xs) zero y e = (x, refl, let same : f x ≡ y = cc in same)
map_found f (x ∷ xs) (suc j) y e = map_found f xs j y e

option_found : {X Y : Type 0} (g : X → Y) (o : Option X) (y : Y) → option_map g o ≡ Some y → (x : X) × (o ≡ Some x) × (g x ≡ y)
option_found g None y e = cc
option_found g (Some x) y e = (x, refl, let same : g x ≡ y = cc in same)

-- an entry has the name and the offset of what is at its place
pub record Stands (p : Parsed) (symbol : Place → Option (List ℕ)) (e : Entry) : Type 0 where
  pub named : symbol (place_of e.item) ≡ Some (text_of p.«module».names e.name.0)
  pub spotted : spot_of p.spots (place_of e.item) ≡ Some e.spot
  pub known : e.name.0 < length p.«module».names

abbrev types_of : Parsed → Place → Option (List ℕ)
types_of p = type_name_at (module_shape p.«module»)

abbrev symbols_of : Parsed → Place → Option (List ℕ)
symbols_of p = symbol_at (module_shape p.«module»)

known_below : (n : ℕ) (id : NameId) → name_known n id ≡ true → id.0 < n
known_below n id e = ltb-true id.0 n e

-- what stands for an item of a number stands at it
stands : (p : Parsed) (symbol : Place → Option (List ℕ)) (e : Entry) (i : Item) (name : NameId) → e.item ≡ i → e.name ≡ name
    → symbol (place_of i) ≡ Some (text_of p.«module».names name.0) → spot_of p.spots (place_of i) ≡ Some e.spot → name.0 < length p.«module».names
    → Stands p symbol e
stands p symbol e i name is named at spotted known =
    record {
      named = rw (is, named) at;
      spotted = rw is spotted;
      known = rw named known;
    }

pub type_stands : (p : Parsed) → module_known p.«module» ≡ true → (j : ℕ) (e : Entry) → slice_get (type_entries p) j ≡ Some e → Stands p (types_of p) e
type_stands p known j e h =
    let m = p.«module» in
    let w = entry_found (λ (t : NamedTy). t.name) (λ k. item.Type k) 0 m.types.items p.spots.types.items j e h in
    let number : 0 + j ≡ j = omega arith in
    stands p (types_of p) e (item.Type j) w.x.name (w.of_kind ∙ ap (λ k. item.Type k) number) w.named
    (ap (option_map (λ (t : NamedTyShape). t.name)) (map_at (named_ty_shape m.names) m.types.items j w.x w.is_item)) w.spotted
    (known_below (length m.names) w.x.name (and_left _ _ (types_known m known j w.x w.is_item)))

pub global_stands : (p : Parsed) → module_known p.«module» ≡ true → (j : ℕ) (e : Entry) → slice_get (global_entries p) j ≡ Some e → Stands p (symbols_of p) e
global_stands p known j e h =
    let m = p.«module» in
    let w = entry_found (λ (t : GlobalItem). t.name) (λ k. item.Global k) 0 m.globals.items p.spots.globals.items j e h in
    let number : 0 + j ≡ j = omega arith in
    stands p (symbols_of p) e (item.Global j) w.x.name (w.of_kind ∙ ap (λ k. item.Global k) number) w.named
    (ap (option_map (λ (t : GlobalShape). t.name)) (map_at (global_shape m.names) m.globals.items j w.x w.is_item)) w.spotted
    (known_below (length m.names) w.x.name (and_left _ _ (and_left _ _ (globals_known m known j w.x w.is_item))))

pub declare_stands : (p : Parsed) → module_known p.«module» ≡ true → (j : ℕ) (e : Entry) → slice_get (declare_entries p) j ≡ Some e → Stands p (symbols_of p) e
declare_stands p known j e h =
    let m = p.«module» in
    let w = entry_found (λ (t : Declare). t.name) (λ k. item.Declare k) 0 m.declares.items p.spots.declares.items j e h in
    let number : 0 + j ≡ j = omega arith in
    stands p (symbols_of p) e (item.Declare j) w.x.name (w.of_kind ∙ ap (λ k. item.Declare k) number) w.named
    (ap (option_map (λ (t : DeclareShape). t.name)) (map_at (declare_shape m.names) m.declares.items j w.x w.is_item)) w.spotted
    (known_below (length m.names) w.x.name (and_left _ _ (and_left _ _ (declares_known m known j w.x w.is_item))))

pub function_stands : (p : Parsed) → module_known p.«module» ≡ true → (j : ℕ) (e : Entry) → slice_get (function_entries p) j ≡ Some e → Stands p (symbols_of p) e
function_stands p known j e h =
    let m = p.«module» in
    let w = entry_found (λ (t : Function). t.name) (λ k. item.Function k) 0 m.functions.items p.spots.functions.items j e h in
    let number : 0 + j ≡ j = omega arith in
    stands p (symbols_of p) e (item.Function j) w.x.name (w.of_kind ∙ ap (λ k. item.Function k) number) w.named
    (ap (option_map (λ (t : FunctionShape). t.name)) (map_at (function_shape m.names) m.functions.items j w.x w.is_item)) w.spotted
    (known_below (length m.names) w.x.name (and_left _ _ (and_left _ _ (and_left _ _ (functions_known m known j w.x w.is_item)))))

pub symbol_stands : (p : Parsed) → module_known p.«module» ≡ true → (j : ℕ) (e : Entry) → slice_get (symbol_entries p) j ≡ Some e → Stands p (symbols_of p) e
symbol_stands p known j e h =
    elim (either_of (global_entries p ++ declare_entries p) (function_entries p) j e h) [
      | inr f ↦ function_stands p known f.0 e f.1
      | inl others ↦ elim (either_of (global_entries p) (declare_entries p) others.0 e others.1) [
        | inl g ↦ global_stands p known g.0 e g.1
        | inr d ↦ declare_stands p known d.0 e d.1
      ]
    ]

-- the entry of what is at a place
pub record Entered (entries : List Entry) (x : Place) (s : ℕ) : Type 0 where
  pub e : Entry
  pub among : IsAmong entries e
  pub at : place_of e.item ≡ x
  pub spot : e.spot ≡ s

entered : (entries : List Entry) (j : ℕ) (e : Entry) (x : Place) → slice_get entries j ≡ Some e → place_of e.item ≡ x → Entered entries x e.spot
entered entries j e x h at = record { e = e; among = (j, h); at = at; spot = refl }

abbrev TypeEntered : Parsed → Place → ℕ → Type 0
TypeEntered p x s = Entered (type_entries p) x s × (declared_at (module_shape p.«module») x ≡ None)

pub type_entered : (p : Parsed) (x : Place) (name : List ℕ) (s : ℕ) → types_of p x ≡ Some name → spot_of p.spots x ≡ Some s → TypeEntered p x s
type_entered p (global_at k) name s h spot = cc
type_entered p (declare_at k) name s h spot = cc
type_entered p (function_at k) name s h spot = cc
type_entered p (inst_at_place f b i) name s h spot = cc
type_entered p (type_at k) name s h spot =
    let m = p.«module» in
    let shape = option_found (λ (t : NamedTyShape). t.name) _ name h in
    let t = map_found (named_ty_shape m.names) m.types.items k shape.0 shape.1 in
    let number : 0 + k ≡ k = omega arith in (
      entered (type_entries p) k _ (type_at k) (entry_there (λ (t : NamedTy). t.name) (λ n. item.Type n) 0 m.types.items p.spots.types.items k t.0 s t.1 spot)
          (ap type_at number),
      refl,
    )

among_left : (xs ys : List Entry) (x : Place) (s : ℕ) → Entered xs x s → Entered (xs ++ ys) x s
among_left xs ys x s w = record { e = w.e; among = (w.among.0, left_of xs ys w.among.0 w.e w.among.1); at = w.at; spot = w.spot }

among_right : (xs ys : List Entry) (x : Place) (s : ℕ) → Entered ys x s → Entered (xs ++ ys) x s
among_right xs ys x s w = record { e = w.e; among = right_of xs ys w.among.0 w.e w.among.1; at = w.at; spot = w.spot }

pub symbol_entered : (p : Parsed) (x : Place) (name : List ℕ) (s : ℕ) → symbols_of p x ≡ Some name → spot_of p.spots x ≡ Some s → Entered (symbol_entries p) x s
symbol_entered p (type_at k) name s h spot = cc
symbol_entered p (inst_at_place f b i) name s h spot = cc
symbol_entered p (global_at k) name s h spot =
    let m = p.«module» in
    let shape = option_found (λ (t : GlobalShape). t.name) _ name h in
    let t = map_found (global_shape m.names) m.globals.items k shape.0 shape.1 in
    let number : 0 + k ≡ k = omega arith in
    among_left _ (function_entries p) _ s (among_left (global_entries p) (declare_entries p) _ s
    (entered (global_entries p) k _ (global_at k)
    (entry_there (λ (t : GlobalItem). t.name) (λ n. item.Global n) 0 m.globals.items p.spots.globals.items k t.0 s t.1 spot) (ap global_at number)))
symbol_entered p (declare_at k) name s h spot =
    let m = p.«module» in
    let shape = option_found (λ (t : DeclareShape). t.name) _ name h in
    let t = map_found (declare_shape m.names) m.declares.items k shape.0 shape.1 in
    let number : 0 + k ≡ k = omega arith in
    among_left _ (function_entries p) _ s (among_right (global_entries p) (declare_entries p) _ s
    (entered (declare_entries p) k _ (declare_at k)
    (entry_there (λ (t : Declare). t.name) (λ n. item.Declare n) 0 m.declares.items p.spots.declares.items k t.0 s t.1 spot) (ap declare_at number)))
symbol_entered p (function_at k) name s h spot =
    let m = p.«module» in
    let shape = option_found (λ (t : FunctionShape). t.name) _ name h in
    let t = map_found (function_shape m.names) m.functions.items k shape.0 shape.1 in
    let number : 0 + k ≡ k = omega arith in
    among_right _ (function_entries p) _ s
    (entered (function_entries p) k _ (function_at k)
    (entry_there (λ (t : Function). t.name) (λ n. item.Function n) 0 m.functions.items p.spots.functions.items k t.0 s t.1 spot) (ap function_at number))
