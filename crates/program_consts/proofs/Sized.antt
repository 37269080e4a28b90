-- The globals of a module by their places, and their sizes.
use Rattle.std.proofs.Common.{◌≡◌, ◌+◌, ◌<◌, ◌≤◌, ℕ, zero, suc, Bool, true, List, [], ◌∷◌, ◌++◌, map, take, length, get_or, Some, slice_get, refl, sym, ap, subst, ◌∙◌}
use Rattle.std.specs.List.{list_all}
use Rattle.std.proofs.lemmas.List.{map-append, take_more, take_all}
use Rattle.ir_tree.specs.Known.{module_known, global_known, ty_known}
use Rattle.ir_tree.specs.ShapeOf.{module_shape, global_shape, ty_shape}
use Rattle.ir_tree.specs.declared.module.GlobalItem.{GlobalItem}
use Rattle.ir_tree.specs.declared.module.Module.{Module}
use Rattle.ir_tree.proofs.Grows.{and_left, and_right}
use Rattle.ir_program.specs.Sizes.{ty_size}
use Rattle.program_steps.proofs.Alike.{mapped_at, item_there}
use Rattle.program_consts.specs.Rooms.{block_sizes}

-- a global stands at a place
pub record GlobalAt (m : Module) (k : ℕ) (g : GlobalItem) : Type 0 where
  pub within : k < length m.globals.items
  pub is : get_or m.globals.items k g ≡ g
  pub shape : slice_get (module_shape m).globals k ≡ Some (global_shape m.names g)

pub global_at : (m : Module) (gs : List GlobalItem) (k : ℕ) (g : GlobalItem) → gs ≡ m.globals.items → k < length gs → get_or gs k g ≡ g → GlobalAt m k g
global_at m gs k g same lt is =
    let within : k < length m.globals.items = subst (λ (z : List GlobalItem). k < length z) same lt in
    let here : get_or m.globals.items k g ≡ g = subst (λ (z : List GlobalItem). get_or z k g ≡ g) same is in
    record { within = within; is = here; shape = mapped_at (global_shape m.names) m.globals.items k g (item_there m.globals.items k g within here) }

-- the names of its type are known
all_at : {X : Type 0} (p : X → Bool) (xs : List X) (k : ℕ) (x : X) → list_all p xs ≡ true → slice_get xs k ≡ Some x → p x ≡ true
all_at p [] k x all there = cc
all_at {X} p (y ∷ xs) zero x all there =
    let same : y ≡ x = cc in
    ap p (sym same) ∙ and_left _ _ all
all_at p (y ∷ xs) (suc k) x all there = all_at p xs k x (and_right _ _ all) there

pub known_at : (m : Module) (k : ℕ) (g : GlobalItem) → module_known m ≡ true → GlobalAt m k g → ty_known (length m.names) g.ty ≡ true
known_at m k g known at =
    let all : list_all (global_known (length m.names)) m.globals.items ≡ true = and_right _ _ (and_left _ _ (and_left _ _ known)) in
    let one : global_known (length m.names) g ≡ true = all_at (global_known (length m.names)) m.globals.items k g all (item_there m.globals.items k g at.within at.is) in
    and_right _ _ (and_left _ _ one)

-- the sizes of globals
abbrev pub global_size : Module → GlobalItem → ℕ
global_size m g = ty_size (module_shape m).types (ty_shape m.names g.ty)

pub sizes_more : (m : Module) (k : ℕ) (g : GlobalItem) → GlobalAt m k g
    → (0 ∷ map (global_size m) (take k m.globals.items)) ++ global_size m g ∷ [] ≡ 0 ∷ map (global_size m) (take (k + 1) m.globals.items)
sizes_more m k g at =
    ap (λ (z : List ℕ). 0 ∷ z)
    (sym (map-append (global_size m) (take k m.globals.items) (g ∷ []))
    ∙ ap (map (global_size m)) (sym (take_more m.globals.items k g at.within ∙ ap (λ (z : GlobalItem). take k m.globals.items ++ z ∷ []) at.is)))

shapes_sized : (m : Module) (gs : List GlobalItem)
    → map (global_size m) gs ≡ map (λ g. ty_size (module_shape m).types g.ty) (map (global_shape m.names) gs)
shapes_sized m [] = refl
shapes_sized m (g ∷ gs) = ap (λ (z : List ℕ). global_size m g ∷ z) (shapes_sized m gs)

pub sizes_all : (m : Module) (k : ℕ) → length m.globals.items ≤ k → 0 ∷ map (global_size m) (take k m.globals.items) ≡ block_sizes (module_shape m)
sizes_all m k past = ap (λ (z : List ℕ). 0 ∷ z) (ap (map (global_size m)) (take_all k m.globals.items past) ∙ shapes_sized m m.globals.items)
