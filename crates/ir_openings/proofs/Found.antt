-- What a table of all openings has for a type.
use Rattle.std.proofs.Common.{◌≡◌, ℕ, zero, suc, ◌<◌, Bool, true, List, [], ◌∷◌, length, map, Option, Some, None, get_or, slice_get, sym, ◌∙◌, ap, subst, ltb-true, Vec, Box}
use Rattle.std.specs.declared.alloc.Global.{Global}
use Rattle.std.specs.Prelude.{is_some}
use Rattle.std.specs.List.{list_all}
use Rattle.std.proofs.lemmas.Option.{slice_get_within, get_or_from_slice_get}
use Rattle.ir_tree.specs.NameTable.{text_of}
use Rattle.ir_tree.specs.Shape.{TyShape, named, ty_row}
use Rattle.ir_tree.specs.ShapeOf.{ty_shape, module_shape}
use Rattle.ir_tree.specs.Known.{ty_known, named_ty_known}
use Rattle.ir_tree.specs.declared.names.NameId.{NameId}
use Rattle.ir_tree.specs.declared.types.Ty.{Ty}
use Rattle.ir_tree.specs.declared.types.Ty.TheVariants as types
use Rattle.ir_tree.specs.declared.module.NamedTy.{NamedTy}
use Rattle.ir_tree.specs.declared.module.Module.{Module}
use Rattle.ir_tree.proofs.Grows.{and_left, and_right}
use Rattle.ir_layout.proofs.Entries.{types_known}
use Rattle.ir_rules.specs.Constants.{Opens, is_array, is_structure}
use Rattle.ir_openings.specs.Openings.{opening_in, AreOpenings}
use Rattle.ir_openings.proofs.Types.{array_shape, structure_shape, named_shape, named_known}

-- what all pass an element passes
pub all_at : {X : Type 0} (p : X → Bool) (xs : List X) (i : ℕ) (x : X) → list_all p xs ≡ true → slice_get xs i ≡ Some x → p x ≡ true
all_at p [] i x all e = cc
all_at p (y ∷ xs) zero x all e =
    let same : y ≡ x = cc in
    ap p (sym same) ∙ and_left _ _ all
all_at p (y ∷ xs) (suc i) x all e = all_at p xs i x (and_right _ _ all) e

-- an array and a structure open to themselves
pub array_itself : (m : Module) (t : Ty) (count : ℕ) (element : Box Ty Global) → t ≡ types.Array count element
    → Opens (module_shape m).types (ty_shape m.names t) (ty_shape m.names t)
array_itself m t count element e =
    let shape = ap (ty_shape m.names) e ∙ array_shape m.names count element in
    subst (λ (z : TyShape). Opens (module_shape m).types z z) (sym shape) (is_array count (ty_shape m.names element.value))

pub structure_itself : (m : Module) (t : Ty) (v : Vec Ty Global) (packed : Bool) → t ≡ types.Struct v packed
    → Opens (module_shape m).types (ty_shape m.names t) (ty_shape m.names t)
structure_itself m t v packed e =
    let shape = ap (ty_shape m.names) e ∙ structure_shape m.names v packed in
    subst (λ (z : TyShape). Opens (module_shape m).types z z) (sym shape) (is_structure (ty_row (map (ty_shape m.names) v.items)) packed)

module _ (m : Module) (openings : List (Option ℕ)) (all : AreOpenings m openings) (id at : ℕ) (here : opening_in openings id ≡ Some at) where
  -- a number in the table is that of a named type
  pub found_within : at < length m.types.items
  found_within =
      let found = all.are_sound.sound id at here in
      slice_get_within m.types.items at found.item found.is_there

  read : (items : List NamedTy) (d : NamedTy) → items ≡ m.types.items → get_or items at d ≡ (all.are_sound.sound id at here).item
  read items d same =
      let found = all.are_sound.sound id at here in
      ap (λ (z : List NamedTy). get_or z at d) same ∙ get_or_from_slice_get m.types.items at found.item d found.is_there

  -- to whose type the name opens
  pub found_opens : (t : Ty) (name : NameId) (items : List NamedTy) (d : NamedTy) → t ≡ types.Named name → name.0 ≡ id → items ≡ m.types.items
      → Opens (module_shape m).types (ty_shape m.names t) (ty_shape m.names (get_or items at d).ty)
  found_opens t name items d e number same =
      let found = all.are_sound.sound id at here in
      let shape = ap (ty_shape m.names) e ∙ named_shape m.names name ∙ ap (λ (n : ℕ). named (text_of m.names n)) number in
      subst (λ (z : TyShape). Opens (module_shape m).types z (ty_shape m.names (get_or items at d).ty)) (sym shape)
      (subst (λ (z : NamedTy). Opens (module_shape m).types (named (text_of m.names id)) (ty_shape m.names z.ty)) (sym (read items d same)) found.opens)

  -- and its names are known
  pub found_known : (items : List NamedTy) (d : NamedTy) → items ≡ m.types.items → ty_known (length m.names) (get_or items at d).ty ≡ true
  found_known items d same =
      let found = all.are_sound.sound id at here in
      let known = all_at (named_ty_known (length m.names)) m.types.items at found.item (types_known m all.are_sound.known) found.is_there in
      ap (λ (z : NamedTy). ty_known (length m.names) z.ty) (read items d same) ∙ and_right _ _ known

-- a name that has nothing in the table opens to nothing
pub none_opens : (m : Module) (openings : List (Option ℕ)) → AreOpenings m openings → (t : Ty) (id : NameId) → t ≡ types.Named id
    → ty_known (length m.names) t ≡ true → opening_in openings id.0 ≡ None → (u : TyShape) → Opens (module_shape m).types (ty_shape m.names t) u → ⊥
none_opens m openings all t id e known none u opens =
    let within : id.0 < length m.names = ltb-true id.0 (length m.names) (sym (ap (ty_known (length m.names)) e ∙ named_known (length m.names) id) ∙ known) in
    let shape = ap (ty_shape m.names) e ∙ named_shape m.names id in
    let has = all.whole id.0 u within (subst (λ (z : TyShape). Opens (module_shape m).types z u) shape opens) in
    let wrong = sym (ap is_some none) ∙ has in
    cc
