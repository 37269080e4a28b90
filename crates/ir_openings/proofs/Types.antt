-- Types by their parts: the shape of each, and that its names are known.
use Rattle.std.proofs.Common.{◌≡◌, ℕ, Bool, List, map, nat_lt, sym, ap, ◌∙◌, Vec, Box}
use Rattle.std.specs.declared.alloc.Global.{Global}
use Rattle.std.specs.List.{list_all}
use Rattle.ir_tree.specs.NameTable.{text_of}
use Rattle.ir_tree.specs.Shape.{TyShape, array, structure, named, ty_row}
use Rattle.ir_tree.specs.ShapeOf.{ty_step, ty_shape}
use Rattle.ir_tree.specs.Known.{ty_known_step, ty_known}
use Rattle.ir_tree.specs.declared.names.NameId.{NameId}
use Rattle.ir_tree.specs.declared.types.Ty.{Ty, out-Ty, roll-Ty, roll-out-Ty}
use Rattle.ir_tree.specs.declared.types.Ty.TheOpen as ty
use Rattle.ir_tree.specs.declared.types.Ty.TheVariants as types
use Rattle.ir_tree.specs.declared.types.Ty.TheFolds.{fold-roll-Ty, fold_out-Ty, map-Ty}

-- the shape of a type by its outer layer
pub layer_shape : (names : List (List ℕ)) (t : Ty) → ty_shape names t ≡ ty_step names (map-Ty Ty TyShape (ty_shape names) (out-Ty t))
layer_shape names t = fold_out-Ty TyShape (ty_step names) t

-- and whether its names are known
pub layer_known : (n : ℕ) (t : Ty) → ty_known n t ≡ ty_known_step n (map-Ty Ty Bool (ty_known n) (out-Ty t))
layer_known n t = fold_out-Ty Bool (ty_known_step n) t

pub array_shape : (names : List (List ℕ)) (count : ℕ) (element : Box Ty Global)
    → ty_shape names (types.Array count element) ≡ array count (ty_shape names element.value)
array_shape names count element =
    ap (ty_shape names) (sym (types.rolls-Array count element)) ∙ fold-roll-Ty TyShape (ty_step names) (ty.Array count element)

pub structure_shape : (names : List (List ℕ)) (v : Vec Ty Global) (packed : Bool)
    → ty_shape names (types.Struct v packed) ≡ structure (ty_row (map (ty_shape names) v.items)) packed
structure_shape names v packed =
    ap (ty_shape names) (sym (types.rolls-Struct v packed)) ∙ fold-roll-Ty TyShape (ty_step names) (ty.Struct v packed)

pub named_shape : (names : List (List ℕ)) (id : NameId) → ty_shape names (types.Named id) ≡ named (text_of names id.0)
named_shape names id = ap (ty_shape names) (sym (types.rolls-Named id)) ∙ fold-roll-Ty TyShape (ty_step names) (ty.Named id)

pub structure_known : (n : ℕ) (v : Vec Ty Global) (packed : Bool)
    → ty_known n (types.Struct v packed) ≡ list_all (λ b. b) (map (ty_known n) v.items)
structure_known n v packed = ap (ty_known n) (sym (types.rolls-Struct v packed)) ∙ fold-roll-Ty Bool (ty_known_step n) (ty.Struct v packed)

pub named_known : (n : ℕ) (id : NameId) → ty_known n (types.Named id) ≡ nat_lt id.0 n
named_known n id = ap (ty_known n) (sym (types.rolls-Named id)) ∙ fold-roll-Ty Bool (ty_known_step n) (ty.Named id)

-- a type whose layer is an array, a structure or a name is that
pub rolled : (t : Ty) (y : ty.Ty-F Ty) → out-Ty t ≡ y → t ≡ roll-Ty y
rolled t y e = sym (roll-out-Ty t) ∙ ap roll-Ty e
