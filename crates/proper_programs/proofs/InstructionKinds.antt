-- The instructions of a proper module's program have operands of the kinds that they need.
use Rattle.std.proofs.Common.{◌≡◌, ◌<◌, ℕ, ◌^◌, inl, inr, List, [], ◌∷◌, map, Option, refl, sym, subst}
use Rattle.std.specs.List.{AllByRecursion, AllZip}
use Rattle.ir_tree.specs.Shape.{TyShape, integer, pointer, void, array, structure, named, ValShape, local, fixed, TyValShape, PhiInShape, CaseShape, NamedTyShape}
use Rattle.ir_tree.specs.declared.module.Conv.{Conv}
use Rattle.ir_tree.specs.declared.module.Conv.TheVariants.{Zext, Sext, Trunc}
use Rattle.ir_rules.specs.Constants.{IsInteger}
use Rattle.ir_rules.specs.Instructions.{Around, HasTy, Fits, FitsAs, IsStorable, Changes, IsStep}
use Rattle.ir_model.specs.Pointers.{Stride, Scaled, Field}
use Rattle.ir_model.specs.Programs.{Operand, Case, Program}
use Rattle.ir_program.specs.Strides.{width_of, stride_into, type_inside, strides_inside, strides_of, scaled_only}
use Rattle.ir_program.specs.Sizes.{opened, ty_size}
use Rattle.ir_program.specs.Constants.{const_value, access_of}
use Rattle.ir_program.specs.Operands.{local_or_poison, operand_of, typed_operand, operand_index, program_case}
use Rattle.ir_typed_runs.specs.Kinds.{Kind, OfWidth, HasWidth, IsOfKind, kind_of, Converts, index_kinds}
use Rattle.ir_typed_runs.specs.TypedPrograms.{first_blocks, IsOperand}
use Rattle.ir_typed_runs.proofs.Numbers.{bits_below}
use Rattle.proper_programs.specs.ModuleKinds.{kind_of_ty, function_kinds}
use Rattle.proper_programs.proofs.ValueKinds.{name_kind, integer_width}
use Rattle.proper_programs.proofs.ConstantKinds.{block_count, const_kind}

-- ---- kinds of types
pub integer_kind : (t : TyShape) → IsInteger t → kind_of_ty t ≡ OfWidth (width_of t)
integer_kind t is = subst (λ (u : TyShape). kind_of_ty u ≡ OfWidth (width_of u)) (sym is.1) refl

pub storable_kind : (t : TyShape) → IsStorable t → kind_of_ty t ≡ kind_of (access_of t)
storable_kind t (inl is) = subst (λ (u : TyShape). kind_of_ty u ≡ kind_of (access_of u)) (sym is) refl
storable_kind t (inr (inl is)) = subst (λ (u : TyShape). kind_of_ty u ≡ kind_of (access_of u)) (sym is) refl
storable_kind t (inr (inr (inl is))) = subst (λ (u : TyShape). kind_of_ty u ≡ kind_of (access_of u)) (sym is) refl
storable_kind t (inr (inr (inr (inl is)))) = subst (λ (u : TyShape). kind_of_ty u ≡ kind_of (access_of u)) (sym is) refl
storable_kind t (inr (inr (inr (inr is)))) = subst (λ (u : TyShape). kind_of_ty u ≡ kind_of (access_of u)) (sym is) refl

pub changes_convert : (conversion : Conv) (from to : ℕ) → Changes conversion from to → Converts conversion from to
changes_convert Zext from to leads = leads
changes_convert Sext from to leads = leads
changes_convert Trunc from to leads = leads

-- ---- operands, in a function of a program that has this module's globals
module _ (a : Around) (p : Program) (blocks : first_blocks p ≡ block_count a.within) where
  abbrev pub Takes : Kind → Operand → Type 0
  Takes kind o = IsOperand p (function_kinds a.function).values kind o

  pub operand_kind : (x : ValShape) (t : TyShape) → HasTy a x t → Takes (kind_of_ty t) (operand_of a t x)
  operand_kind (local name) t has =
      let named = name_kind a.function name t has in
      subst (λ (o : Option ℕ). Takes (kind_of_ty t) (local_or_poison o)) (sym named.number) named.has
  operand_kind (fixed c) t has =
      subst (λ (n : ℕ). IsOfKind n (kind_of_ty t) (const_value a.within t c)) (sym blocks) (const_kind a.within t c has.0)

  pub stated_kind : (x : TyValShape) → Fits a x → Takes (kind_of_ty x.ty) (typed_operand a x)
  stated_kind x fits = operand_kind x.val x.ty fits

  pub fits_kind : (x : TyValShape) (t : TyShape) → FitsAs a x t → Takes (kind_of_ty t) (typed_operand a x)
  fits_kind x t fits =
      subst (λ (u : TyShape). Takes (kind_of_ty u) (typed_operand a x)) fits.0
      (stated_kind x (subst (λ (u : TyShape). HasTy a x.val u) (sym fits.0) fits.1))

  pub all_stated : (xs : List TyValShape) → AllByRecursion (Fits a) xs → AllZip Takes (map (λ (x : TyValShape). kind_of_ty x.ty) xs) (map (typed_operand a) xs)
  all_stated [] fit = tt
  all_stated (x ∷ xs) fit = (stated_kind x fit.0, all_stated xs fit.1)

  -- what a phi takes
  pub all_inputs : (t : TyShape) (xs : List PhiInShape) → AllByRecursion (λ (i : PhiInShape). HasTy a i.val t) xs
      → AllByRecursion (λ (i : PhiInShape). Takes (kind_of_ty t) (operand_of a t i.val)) xs
  all_inputs t [] have = tt
  all_inputs t (x ∷ xs) have = (operand_kind x.val t have.0, all_inputs t xs have.1)

  -- ---- indices
  -- steps take indices of their widths
  pub record TakeSteps (strides : List Stride) (taken : List Operand) : Type 0 where
    pub widths : AllByRecursion HasWidth (index_kinds strides)
    pub operands : AllZip Takes (index_kinds strides) taken

  counted : (width size : ℕ) (strides : List Stride) (o : Operand) (rest : List Operand) → HasWidth (OfWidth width) → Takes (OfWidth width) o
      → TakeSteps strides rest → TakeSteps (Scaled width size ∷ strides) (o ∷ rest)
  counted width size strides o rest wide takes more = record { widths = (wide, more.widths); operands = (takes, more.operands) }

  no_field : (offset : ℕ) (strides : List Stride) (rest : List Operand) → TakeSteps strides rest → TakeSteps (Field offset ∷ strides) rest
  no_field offset strides rest more = record { widths = more.widths; operands = more.operands }

  -- a step and those after it
  step_taken : (ts : List NamedTyShape) (u : TyShape) (x : TyValShape) (strides : List Stride) (rest : List Operand) → HasWidth (OfWidth (width_of x.ty))
      → Takes (OfWidth (width_of x.ty)) (typed_operand a x) → TakeSteps strides (scaled_only strides rest)
      → TakeSteps (stride_into ts u (operand_index x) ∷ strides) (scaled_only (stride_into ts u (operand_index x) ∷ strides) (typed_operand a x ∷ rest))
  step_taken ts (integer bits) x strides rest wide takes more = counted (width_of x.ty) 0 strides (typed_operand a x) (scaled_only strides rest) wide takes more
  step_taken ts pointer x strides rest wide takes more = counted (width_of x.ty) 0 strides (typed_operand a x) (scaled_only strides rest) wide takes more
  step_taken ts void x strides rest wide takes more = counted (width_of x.ty) 0 strides (typed_operand a x) (scaled_only strides rest) wide takes more
  step_taken ts (array count element) x strides rest wide takes more =
      counted (width_of x.ty) (ty_size ts element) strides (typed_operand a x) (scaled_only strides rest) wide takes more
  step_taken ts (structure row packed) x strides rest wide takes more = no_field _ strides (scaled_only strides rest) more
  step_taken ts (named name) x strides rest wide takes more = counted (width_of x.ty) 0 strides (typed_operand a x) (scaled_only strides rest) wide takes more

  index_wide : (x : TyValShape) → IsStep a x → HasWidth (OfWidth (width_of x.ty))
  index_wide x is = subst HasWidth (integer_kind x.ty is.0) (integer_width x.ty is.0)

  index_taken : (x : TyValShape) → IsStep a x → Takes (OfWidth (width_of x.ty)) (typed_operand a x)
  index_taken x is = subst (λ (kind : Kind). Takes kind (typed_operand a x)) (integer_kind x.ty is.0) (stated_kind x is.1)

  inside_taken : (ts : List NamedTyShape) (t : TyShape) (xs : List TyValShape) → AllByRecursion (IsStep a) xs
      → TakeSteps (strides_inside ts t (map operand_index xs)) (scaled_only (strides_inside ts t (map operand_index xs)) (map (typed_operand a) xs))
  inside_taken ts t [] are = record { widths = tt; operands = tt }
  inside_taken ts t (x ∷ xs) are =
      step_taken ts (opened ts t) x (strides_inside ts (type_inside (opened ts t) (operand_index x)) (map operand_index xs)) (map (typed_operand a) xs)
      (index_wide x are.0) (index_taken x are.0)
      (inside_taken ts (type_inside (opened ts t) (operand_index x)) xs are.1)

  pub steps_taken : (ts : List NamedTyShape) (t : TyShape) (xs : List TyValShape) → AllByRecursion (IsStep a) xs
      → TakeSteps (strides_of ts t (map operand_index xs)) (scaled_only (strides_of ts t (map operand_index xs)) (map (typed_operand a) xs))
  steps_taken ts t [] are = record { widths = tt; operands = tt }
  steps_taken ts t (x ∷ xs) are =
      counted (width_of x.ty) (ty_size ts t) (strides_inside ts t (map operand_index xs)) (typed_operand a x)
      (scaled_only (strides_inside ts t (map operand_index xs)) (map (typed_operand a) xs)) (index_wide x are.0) (index_taken x are.0)
      (inside_taken ts t xs are.1)

  -- the numbers of cases are below 2^width
  pub cases_below : (width : ℕ) (cases : List CaseShape) → AllByRecursion (λ (c : Case). c.number < 2 ^ width) (map (program_case a width) cases)
  cases_below width [] = tt
  cases_below width (c ∷ cases) = (bits_below width c.value, cases_below width cases)
