-- The bytes of constants, by their kinds.
use Rattle.std.proofs.Common.{◌≡◌, ℕ, ℤ, Bool, List, map, replicate, inl, inr, ◌⊎◌, refl, sym, ap, ◌∙◌, Vec, Box}
use Rattle.std.specs.declared.alloc.Global.{Global}
use Rattle.ir_tree.specs.NameTable.{text_of}
use Rattle.ir_tree.specs.Shape.{TyShape, ConstShape, number, boolean, null, undef, poison, zero_value, text, elements, fields, global, address, typed_row, ModuleShape}
use Rattle.ir_tree.specs.ShapeOf.{const_shape, typed_shape, ty_shape}
use Rattle.ir_tree.specs.declared.names.NameId.{NameId}
use Rattle.ir_tree.specs.declared.types.Ty.{Ty}
use Rattle.ir_tree.specs.declared.types.Const.{Const}
use Rattle.ir_tree.specs.declared.types.Const.TheVariants as constants
use Rattle.ir_tree.specs.declared.types.Typed.{Typed}
use Rattle.ir_check_consts.proofs.Shapes.{number_shape, boolean_shape, null_shape, undef_shape, poison_shape, zero_shape, global_shape, address_shape}
use Rattle.ir_model.specs.Values.{Cell, Unknown, Byte}
use Rattle.ir_program.specs.Sizes.{ty_size}
use Rattle.ir_program.specs.Constants.{value_cells, padded, const_cells, elements_cells, fields_cells}
use Rattle.program_consts.proofs.Valued.{text_shape, elements_shape, fields_shape}

module _ (m : ModuleShape) (names : List (List ℕ)) (t : TyShape) (c : Const) where
  abbrev cells : List Cell
  cells = const_cells m t (const_shape names c)

  shaped : (x : ConstShape) → const_shape names c ≡ x → cells ≡ const_cells m t x
  shaped x is = ap (const_cells m t) is

  pub zero_cells : c ≡ constants.Zero → replicate (ty_size m.types t) (Byte 0) ≡ cells
  unfolding const_cells
  zero_cells is = sym (shaped zero_value (ap (const_shape names) is ∙ zero_shape names))

  pub poison_cells : (c ≡ constants.Undef) ⊎ (c ≡ constants.Poison) → replicate (ty_size m.types t) Unknown ≡ cells
  unfolding const_cells
  poison_cells (inl is) = sym (shaped undef (ap (const_shape names) is ∙ undef_shape names))
  poison_cells (inr is) = sym (shaped poison (ap (const_shape names) is ∙ poison_shape names))

  pub text_cells : (v : Vec ℕ Global) → c ≡ constants.Text v → map Byte v.items ≡ cells
  unfolding const_cells
  text_cells v is = sym (shaped (text v.items) (ap (const_shape names) is ∙ text_shape names v))

  pub array_cells : (v : Vec Typed Global) → c ≡ constants.Array v → elements_cells m (typed_row (map (typed_shape names) v.items)) ≡ cells
  unfolding const_cells
  array_cells v is = sym (shaped (elements (typed_row (map (typed_shape names) v.items))) (ap (const_shape names) is ∙ elements_shape names v))

  pub structure_cells : (v : Vec Typed Global) (packed : Bool) → c ≡ constants.Struct v packed
      → padded (ty_size m.types t) (fields_cells m packed 0 (typed_row (map (typed_shape names) v.items))) ≡ cells
  unfolding const_cells
  structure_cells v packed is =
      sym (shaped (fields (typed_row (map (typed_shape names) v.items)) packed) (ap (const_shape names) is ∙ fields_shape names v packed))

  as_value : (x : ConstShape) → const_shape names c ≡ x → value_cells m t x ≡ const_cells m t x → value_cells m t (const_shape names c) ≡ cells
  as_value x is same = ap (value_cells m t) is ∙ same ∙ sym (shaped x is)

  pub own_cells : ((z : ℤ) × (c ≡ constants.Int z)) ⊎ (((b : Bool) × (c ≡ constants.Bool b)) ⊎ ((c ≡ constants.Null) ⊎ (((id : NameId) × (c ≡ constants.Global id))
      ⊎ ((inbounds : Bool) × (u : Ty) × (base : Box Typed Global) × (v : Vec Typed Global) × (c ≡ constants.Gep inbounds u base v)))))
      → value_cells m t (const_shape names c) ≡ cells
  unfolding const_cells
  own_cells (inl (z, is)) = as_value (number z) (ap (const_shape names) is ∙ number_shape names z) refl
  own_cells (inr (inl (b, is))) = as_value (boolean b) (ap (const_shape names) is ∙ boolean_shape names b) refl
  own_cells (inr (inr (inl is))) = as_value null (ap (const_shape names) is ∙ null_shape names) refl
  own_cells (inr (inr (inr (inl (id, is))))) = as_value (global (text_of names id.0)) (ap (const_shape names) is ∙ global_shape names id) refl
  own_cells (inr (inr (inr (inr (inbounds, u, base, v, is))))) =
      as_value (address inbounds (ty_shape names u) (typed_shape names base.value) (typed_row (map (typed_shape names) v.items)))
      (ap (const_shape names) is ∙ address_shape names inbounds u base v) refl
