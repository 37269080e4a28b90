-- The computed layout of a type, by its parts.
use Rattle.std.proofs.Common.{◌≡◌, ℕ, Bool, List, map, Option, Some, None, sym, ap, ◌∙◌, Vec, Box}
use Rattle.std.specs.declared.alloc.Global.{Global}
use Rattle.ir_tree.specs.declared.names.NameId.{NameId}
use Rattle.ir_tree.specs.declared.types.Ty.{Ty}
use Rattle.ir_tree.specs.declared.types.Ty.TheOpen as ty
use Rattle.ir_tree.specs.declared.types.Ty.TheVariants as types
use Rattle.ir_tree.specs.declared.types.Ty.TheFolds.{fold-roll-Ty}
use Rattle.ir_layout.specs.declared.sizes.Layout.{Layout}
use Rattle.ir_layout.specs.Layout.{integer_layout, pointer_layout}
use Rattle.ir_layout.specs.Computed.{array_of, structure_from, named_at, layout_step, ty_layout}

pub integer_laid : (layouts : List (Option Layout)) (bits : ℕ) → ty_layout layouts (types.Int bits) ≡ Some (integer_layout bits)
integer_laid layouts bits = ap (ty_layout layouts) (sym (types.rolls-Int bits)) ∙ fold-roll-Ty (Option Layout) (layout_step layouts) (ty.Int bits)

pub pointer_laid : (layouts : List (Option Layout)) → ty_layout layouts types.Ptr ≡ Some pointer_layout
pointer_laid layouts = ap (ty_layout layouts) (sym types.rolls-Ptr) ∙ fold-roll-Ty (Option Layout) (layout_step layouts) ty.Ptr

pub void_laid : (layouts : List (Option Layout)) → ty_layout layouts types.Void ≡ None
void_laid layouts = ap (ty_layout layouts) (sym types.rolls-Void) ∙ fold-roll-Ty (Option Layout) (layout_step layouts) ty.Void

pub array_laid : (layouts : List (Option Layout)) (count : ℕ) (element : Box Ty Global)
    → ty_layout layouts (types.Array count element) ≡ array_of count (ty_layout layouts element.value)
array_laid layouts count element =
    ap (ty_layout layouts) (sym (types.rolls-Array count element)) ∙ fold-roll-Ty (Option Layout) (layout_step layouts) (ty.Array count element)

pub structure_laid : (layouts : List (Option Layout)) (v : Vec Ty Global) (packed : Bool)
    → ty_layout layouts (types.Struct v packed) ≡ structure_from packed 0 1 (map (ty_layout layouts) v.items)
structure_laid layouts v packed =
    ap (ty_layout layouts) (sym (types.rolls-Struct v packed)) ∙ fold-roll-Ty (Option Layout) (layout_step layouts) (ty.Struct v packed)

pub named_laid : (layouts : List (Option Layout)) (id : NameId) → ty_layout layouts (types.Named id) ≡ named_at layouts id.0
named_laid layouts id = ap (ty_layout layouts) (sym (types.rolls-Named id)) ∙ fold-roll-Ty (Option Layout) (layout_step layouts) (ty.Named id)
