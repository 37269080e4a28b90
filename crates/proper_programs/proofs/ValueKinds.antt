-- The kinds of a function's values.
use Rattle.std.proofs.Common.{◌≡◌, ℕ, ◌+◌, inl, inr, Bool, true, false, List, map, Option, Some, None, refl, sym, ap, subst, ◌∙◌, arith, slice_get}
use Rattle.std.specs.Prelude.{if◌then◌else◌, is_some, not, ◌||◌}
use Rattle.std.specs.Option.{option_map, option_and_then, option_map_or}
use Rattle.std.specs.List.{position_from}
use Rattle.std.proofs.lemmas.Bool.Decides.{nat_tests}
use Rattle.std.proofs.lemmas.Option.{same_Some, none-some, slice_get-map}
use Rattle.ir_tree.specs.Shape.{TyShape, integer, pointer, void, array, structure, named, local, fixed, BodyShape, phi, binary, icmp, select, convert, freeze, alloca, load, store, get_element, call, jump, branch, switch, return_void, return_value, unreachable, InstShape, ParamShape, FunctionShape, DeclareShape, ModuleShape}
use Rattle.ir_rules.specs.declared.Site.{Site}
use Rattle.ir_rules.specs.declared.Site.TheVariants.{Param, Inst}
use Rattle.ir_rules.specs.declared.Callee.{Callee}
use Rattle.ir_rules.specs.declared.Callee.TheVariants.{Defined, Declared}
use Rattle.ir_rules.specs.Values.{result_ty, is_void, gives_value, ValueShape, values, value_of, inst_at, site_ty, value_ty}
use Rattle.ir_rules.specs.Constants.{IsInteger, IsScalar}
use Rattle.ir_rules.specs.Things.{Signature, signature_of}
use Rattle.ir_rules.specs.Instructions.{Around, IsStorable, IsWellTyped}
use Rattle.ir_rules.specs.Places.{function_at, declare_at, inst_at_place}
use Rattle.ir_rules.specs.TypeRules.{IsReturned, IsProperInst, HasTypes}
use Rattle.ir_program.specs.Operands.{is_given_at, result_number}
use Rattle.ir_typed_runs.specs.Kinds.{Kind, OfPointer, HasWidth}
use Rattle.ir_typed_runs.specs.TypedPrograms.{HasKind, GivesKind}
use Rattle.ir_typed_runs.proofs.Lists.{all_get}
use Rattle.proper_programs.specs.ModuleKinds.{kind_of_ty, site_kind, function_kinds}
use Rattle.proper_programs.proofs.Positions.{found_at}

-- ---- widths
pub scalar_width : (t : TyShape) → IsScalar t → HasWidth (kind_of_ty t)
scalar_width (integer bits) is = is
scalar_width pointer is = tt
scalar_width void is = absurd is
scalar_width (array count element) is = absurd is
scalar_width (structure row packed) is = absurd is
scalar_width (named name) is = absurd is

pub integer_width : (t : TyShape) → IsInteger t → HasWidth (kind_of_ty t)
integer_width t is = subst (λ (u : TyShape). HasWidth (kind_of_ty u)) (sym is.1) (is.2, is.3)

pub returned_width : (t : TyShape) → IsReturned t → HasWidth (kind_of_ty t)
returned_width (integer bits) is = is
returned_width pointer is = tt
returned_width void is = tt
returned_width (array count element) is = absurd is
returned_width (structure row packed) is = absurd is
returned_width (named name) is = absurd is

-- what is loaded and stored is a scalar
pub storable_scalar : (t : TyShape) → IsStorable t → IsScalar t
storable_scalar t (inl is) = subst IsScalar (sym is) (omega arith, omega arith)
storable_scalar t (inr (inl is)) = subst IsScalar (sym is) (omega arith, omega arith)
storable_scalar t (inr (inr (inl is))) = subst IsScalar (sym is) (omega arith, omega arith)
storable_scalar t (inr (inr (inr (inl is)))) = subst IsScalar (sym is) (omega arith, omega arith)
storable_scalar t (inr (inr (inr (inr is)))) = subst IsScalar (sym is) tt

-- what a function that may be called returns
signature_width : (m : ModuleShape) → HasTypes m → (callee : Callee) (s : Signature) → signature_of m callee ≡ Some s → IsReturned s.ret
signature_width m types (Defined k) s is = defined (slice_get m.functions k) refl is
  where
    defined : (o : Option FunctionShape) → slice_get m.functions k ≡ o
        → option_map (λ (f : FunctionShape). record { ret = f.ret; params = map (λ (p : ParamShape). p.ty) f.params }) o ≡ Some s → IsReturned s.ret
    defined None there e = absurd (none-some s e)
    defined (Some f) there e =
        let same = same_Some _ s e in
        subst (λ (z : Signature). IsReturned z.ret) same (types (function_at k) f there).0
signature_width m types (Declared k) s is = declared (slice_get m.declares k) refl is
  where
    declared : (o : Option DeclareShape) → slice_get m.declares k ≡ o
        → option_map (λ (d : DeclareShape). record { ret = d.ret; params = d.params }) o ≡ Some s → IsReturned s.ret
    declared None there e = absurd (none-some s e)
    declared (Some d) there e =
        let same = same_Some _ s e in
        subst (λ (z : Signature). IsReturned z.ret) same (types (declare_at k) d there).0

-- what an instruction gives has a width
result_width : (m : ModuleShape) (f : FunctionShape) → HasTypes m → (body : BodyShape) → IsWellTyped (record { within = m; function = f }) body
    → HasWidth (kind_of_ty (result_ty body))
result_width m f types (phi ty inputs) is = scalar_width ty is.0
result_width m f types (binary operation flags ty left right) is = integer_width ty is.0
result_width m f types (icmp predicate ty left right) is = (omega arith, omega arith)
result_width m f types (select condition met unmet) is = scalar_width met.ty is.1
result_width m f types (convert conversion ty val to) is = integer_width to is.1
result_width m f types (freeze ty val) is = scalar_width ty is.0
result_width m f types (alloca ty count) is = tt
result_width m f types (load ty at) is = scalar_width ty (storable_scalar ty is.0)
result_width m f types (store value at) is = tt
result_width m f types (get_element inbounds ty base indices) is = tt
result_width m f types (call ret (local name) arguments) is = absurd is.1
result_width m f types (call ret (fixed c) arguments) is =
    let calls = is.1 in
    subst (λ (t : TyShape). HasWidth (kind_of_ty t)) (sym is.2) (returned_width is.0.ret (signature_width m types calls.1 is.0 calls.4))
result_width m f types (jump to) is = tt
result_width m f types (branch condition met unmet) is = tt
result_width m f types (switch value otherwise cases) is = tt
result_width m f types return_void is = tt
result_width m f types (return_value value) is = tt
result_width m f types unreachable is = tt

-- what is given anywhere in a function has a width
pub site_width : (m : ModuleShape) (k : ℕ) (f : FunctionShape) → HasTypes m → slice_get m.functions k ≡ Some f → (s : Site)
    → HasWidth (site_kind f s)
site_width m k f types at (Param j) = param (slice_get f.params j) refl
  where
    param : (o : Option ParamShape) → slice_get f.params j ≡ o
        → HasWidth (option_map_or kind_of_ty (option_map (λ (p : ParamShape). p.ty) o) OfPointer)
    param None there = tt
    param (Some p) there = scalar_width p.ty (all_get (λ (q : ParamShape). IsScalar q.ty) f.params j p (types (function_at k) f at).1 there)
site_width m k f types at (Inst b i) = inst (inst_at f b i) refl
  where
    inst : (o : Option InstShape) → inst_at f b i ≡ o
        → HasWidth (option_map_or kind_of_ty (option_map (λ (x : InstShape). result_ty x.body) o) OfPointer)
    inst None there = tt
    inst (Some x) there = result_width m f types x.body (types (inst_at_place k b i) f x at there).typed

-- ---- kinds of names
kind_at : (f : FunctionShape) (id : ℕ) (t : TyShape) (o : Option ValueShape) → slice_get (values f) id ≡ o
    → option_and_then (λ (v : ValueShape). site_ty f v.site) o ≡ Some t → HasKind (function_kinds f).values id (kind_of_ty t)
kind_at f id t None there e = absurd (none-some t e)
kind_at f id t (Some v) there e =
    slice_get-map (λ (w : ValueShape). site_kind f w.site) (values f) id
    ∙ ap (option_map (λ (w : ValueShape). site_kind f w.site)) there
    ∙ ap (λ (o : Option TyShape). Some (option_map_or kind_of_ty o OfPointer)) e

-- a name with a type stands for a value of its kind
pub record NamesKind (f : FunctionShape) (name : List ℕ) (kind : Kind) : Type 0 where
  pub id : ℕ
  pub number : value_of f name ≡ Some id
  pub has : HasKind (function_kinds f).values id kind

name_kind_by : (f : FunctionShape) (name : List ℕ) (t : TyShape) (o : Option ℕ) → value_of f name ≡ o
    → option_and_then (λ (v : ValueShape). site_ty f v.site) (option_and_then (slice_get (values f)) o) ≡ Some t → NamesKind f name (kind_of_ty t)
name_kind_by f name t None is e = absurd (none-some t e)
name_kind_by f name t (Some id) is e = record { id = id; number = is; has = kind_at f id t (slice_get (values f) id) refl e }

pub name_kind : (f : FunctionShape) (name : List ℕ) (t : TyShape) → value_ty f name ≡ Some t → NamesKind f name (kind_of_ty t)
name_kind f name t is = name_kind_by f name t (value_of f name) refl is

-- ---- kinds of results
given_is : (b i : ℕ) (s : Site) → is_given_at b i s ≡ true → s ≡ Inst b i
given_is b i (Param k) e = cc
given_is b i (Inst c j) e =
    let parts : (c ≡ b) × (j ≡ i) = grind (arith, nat_tests) in
    ap (λ (x : ℕ). Inst x j) parts.0 ∙ ap (Inst b) parts.1

number_kind : (a : Around) (b i id : ℕ) (x : InstShape) (gives : Bool) → inst_at a.function b i ≡ Some x
    → (if gives then position_from (λ (v : ValueShape). is_given_at b i v.site) 0 (values a.function) else None) ≡ Some id
    → HasKind (function_kinds a.function).values id (kind_of_ty (result_ty x.body))
number_kind a b i id x false there e = absurd (none-some id e)
number_kind a b i id x true there e =
    let f : FunctionShape = a.function in
    let found = found_at (λ (v : ValueShape). is_given_at b i v.site) 0 (values f) id e in
    let site : found.element.site ≡ Inst b i = given_is b i found.element.site found.passes in
    let place : found.index ≡ id = let e : id ≡ 0 + found.index = found.place in omega arith in
    let at : slice_get (values f) id ≡ Some found.element = subst (λ (k : ℕ). slice_get (values f) k ≡ Some found.element) place found.there in
    kind_at f id (result_ty x.body) (Some found.element) at (ap (site_ty f) site ∙ ap (option_map (λ (y : InstShape). result_ty y.body)) there)

gives_by : (a : Around) (b i : ℕ) (x : InstShape) (o : Option ℕ) → inst_at a.function b i ≡ Some x → result_number a b i x ≡ o
    → GivesKind (function_kinds a.function).values o (kind_of_ty (result_ty x.body))
gives_by a b i x None there is = tt
gives_by a b i x (Some id) there is = number_kind a b i id x (gives_value x) there is

-- the number of what an instruction gives is that of a value of its kind
pub gives_kind : (a : Around) (b i : ℕ) (x : InstShape) → inst_at a.function b i ≡ Some x
    → GivesKind (function_kinds a.function).values (result_number a b i x) (kind_of_ty (result_ty x.body))
gives_kind a b i x there = gives_by a b i x (result_number a b i x) there refl

no_value : (x : InstShape) (o : Option (List ℕ)) (t : TyShape) → x.result ≡ o → result_ty x.body ≡ t → t ≡ void → o ≡ None → gives_value x ≡ false
no_value x o t result ty is none = ap (λ (p : Option (List ℕ)). is_some p || not (is_void (result_ty x.body))) (result ∙ none) ∙ ap (λ (u : TyShape). not (is_void u)) (ty ∙ is)

-- an instruction that gives nothing has no number
pub gives_nothing : (a : Around) (b i k : ℕ) (x : InstShape) → IsProperInst a k x → result_ty x.body ≡ void → result_number a b i x ≡ None
gives_nothing a b i k x proper is =
    let none : gives_value x ≡ false = no_value x x.result (result_ty x.body) refl refl is (proper.names_value is) in
    ap (λ (gives : Bool). if gives then position_from (λ (v : ValueShape). is_given_at b i v.site) 0 (values a.function) else None) none
