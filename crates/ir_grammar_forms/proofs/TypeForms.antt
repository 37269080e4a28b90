-- The form of types and constants is what a text can spell.
use Rattle.std.proofs.Common.{arith}
use Rattle.ir_tree.specs.Shape.{TyShape, TyShapes, integer, pointer, void, array, structure, named, no_types, types, ConstShape, number, boolean, null, undef, poison, zero_value, text, elements, fields, global, address, TypedShape, typed, TypedShapes, no_values, values}
use Rattle.ir_grammar_consts.specs.Spelling.{FitsTy, FitTys, FitsConst, FitsTyped, FitTyped}
use Rattle.ir_forms.specs.Types.{HasTyForm, HaveTyForms, HasConstForm, HasTypedForm, HaveTypedForms}

mutual
  unfolding FitsTy FitTys HasTyForm HaveTyForms

  pub ty_form : (t : TyShape) → FitsTy t → HasTyForm t
  ty_form (integer bits) h = (omega (arith, h.0), omega (arith, h.1))
  ty_form pointer h = tt
  ty_form void h = tt
  ty_form (array count element) h = (h.0, ty_form element h.1)
  ty_form (structure row packed) h = ty_forms row h
  ty_form (named name) h = tt

  ty_forms : (row : TyShapes) → FitTys row → HaveTyForms row
  ty_forms no_types h = tt
  ty_forms (types t row) h = (ty_form t h.0, ty_forms row h.1)

mutual
  unfolding FitsTy FitTys HasTyForm HaveTyForms

  pub ty_fits : (t : TyShape) → HasTyForm t → FitsTy t
  ty_fits (integer bits) h = (omega (arith, h.0), omega (arith, h.1))
  ty_fits pointer h = tt
  ty_fits void h = tt
  ty_fits (array count element) h = (h.0, ty_fits element h.1)
  ty_fits (structure row packed) h = tys_fit row h
  ty_fits (named name) h = tt

  tys_fit : (row : TyShapes) → HaveTyForms row → FitTys row
  tys_fit no_types h = tt
  tys_fit (types t row) h = (ty_fits t h.0, tys_fit row h.1)

mutual
  unfolding FitsConst FitsTyped FitTyped HasConstForm HasTypedForm HaveTypedForms

  pub const_form : (c : ConstShape) → FitsConst c → HasConstForm c
  const_form (number value) h = tt
  const_form (boolean value) h = tt
  const_form null h = tt
  const_form undef h = tt
  const_form poison h = tt
  const_form zero_value h = tt
  const_form (text bytes) h = tt
  const_form (elements row) h = typed_forms row h
  const_form (fields row packed) h = typed_forms row h
  const_form (global name) h = tt
  const_form (address inbounds t base row) h = (ty_form t h.0, typed_form base h.1, typed_forms row h.2)

  typed_form : (v : TypedShape) → FitsTyped v → HasTypedForm v
  typed_form (typed t c) h = (ty_form t h.0, const_form c h.1)

  typed_forms : (row : TypedShapes) → FitTyped row → HaveTypedForms row
  typed_forms no_values h = tt
  typed_forms (values v row) h = (typed_form v h.0, typed_forms row h.1)

mutual
  unfolding FitsConst FitsTyped FitTyped HasConstForm HasTypedForm HaveTypedForms

  pub const_fits : (c : ConstShape) → HasConstForm c → FitsConst c
  const_fits (number value) h = tt
  const_fits (boolean value) h = tt
  const_fits null h = tt
  const_fits undef h = tt
  const_fits poison h = tt
  const_fits zero_value h = tt
  const_fits (text bytes) h = tt
  const_fits (elements row) h = typed_row_fits row h
  const_fits (fields row packed) h = typed_row_fits row h
  const_fits (global name) h = tt
  const_fits (address inbounds t base row) h = (ty_fits t h.0, typed_fits base h.1, typed_row_fits row h.2)

  typed_fits : (v : TypedShape) → HasTypedForm v → FitsTyped v
  typed_fits (typed t c) h = (ty_fits t h.0, const_fits c h.1)

  typed_row_fits : (row : TypedShapes) → HaveTypedForms row → FitTyped row
  typed_row_fits no_values h = tt
  typed_row_fits (values v row) h = (typed_fits v h.0, typed_row_fits row h.1)
