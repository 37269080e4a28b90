-- What a call names, and the kinds of what it takes and gives.
use Rattle.std.proofs.Common.{◌≡◌, ℕ, suc, ◌+◌, Bool, true, false, List, [], ◌∷◌, ◌++◌, map, length, Option, Some, None, refl, sym, ap, subst, ◌∙◌, arith, slice_get}
use Rattle.std.specs.Prelude.{if◌then◌else◌, take, codes, ◌||◌}
use Rattle.std.specs.Option.{option_map, option_map_or}
use Rattle.std.specs.Str.{bytes_eq}
use Rattle.std.proofs.lemmas.Option.{same_Some, none-some}
use Rattle.std.proofs.lemmas.Slice.Eq.{bytes_eq-Decides}
use Rattle.ir_tree.specs.Shape.{TyShape, integer, pointer, void, array, structure, named, TyValShape, ParamShape, FunctionShape, DeclareShape, ModuleShape}
use Rattle.ir_rules.specs.declared.Callee.TheVariants.{Defined, Declared}
use Rattle.ir_rules.specs.declared.Site.TheVariants.{Param}
use Rattle.ir_rules.specs.Values.{ValueShape, params_from, all_results_from, values}
use Rattle.ir_rules.specs.Things.{function_of, declare_of, is_outside_name, defined_or, callee_of, Signature, signature_of}
use Rattle.ir_rules.specs.TypeRules.{IsReturned}
use Rattle.ir_model.specs.Programs.{PutChar, GetChar}
use Rattle.ir_program.specs.Operands.{outside_call}
use Rattle.ir_typed_runs.specs.Kinds.{Kind, OfPointer}
use Rattle.ir_typed_runs.specs.TypedPrograms.{GivesKind, GivesReturned}
use Rattle.proper_programs.specs.ModuleKinds.{kind_of_ty, returned_kind, site_kind, function_kinds}
use Rattle.proper_programs.proofs.Positions.{IsFoundAt, found_at}

-- names that are told to be the same are the same
pub names_same : (x y : List ℕ) → bytes_eq x y ≡ true → x ≡ y
names_same x y e = (bytes_eq-Decides x y).0 e

-- ---- a defined function
pub record IsDefined (m : ModuleShape) (g : ℕ) (s : Signature) : Type 0 where
  pub function : FunctionShape
  pub there : slice_get m.functions g ≡ Some function
  pub ret : s.ret ≡ function.ret
  pub params : s.params ≡ map (λ (p : ParamShape). p.ty) function.params

pub defined_is : (m : ModuleShape) (g : ℕ) (s : Signature) → signature_of m (Defined g) ≡ Some s → IsDefined m g s
defined_is m g s e = by_option (slice_get m.functions g) refl e
  where
    by_option : (o : Option FunctionShape) → slice_get m.functions g ≡ o
        → option_map (λ (f : FunctionShape). record { ret = f.ret; params = map (λ (p : ParamShape). p.ty) f.params }) o ≡ Some s → IsDefined m g s
    by_option None there is = absurd (none-some s is)
    by_option (Some f) there is =
        let same = same_Some _ s is in
        record {
          function = f;
          there = there;
          ret = ap (λ (z : Signature). z.ret) (sym same);
          params = ap (λ (z : Signature). z.params) (sym same);
        }

-- the kinds of its first values are those of its parameters
params_kinds : (f : FunctionShape) (k : ℕ) (ps : List ParamShape) (rest : List ValueShape)
    → ((j : ℕ) (p : ParamShape) → slice_get ps j ≡ Some p → slice_get f.params (k + j) ≡ Some p)
    → take (length ps) (map (λ (v : ValueShape). site_kind f v.site) (params_from k ps ++ rest)) ≡ map (λ (p : ParamShape). kind_of_ty p.ty) ps
params_kinds f k [] rest at = refl
params_kinds f k (p ∷ ps) rest at =
    let here : slice_get f.params k ≡ Some p = subst (λ (n : ℕ). slice_get f.params n ≡ Some p) (omega arith) (at 0 p refl) in
    let first : site_kind f (Param k) ≡ kind_of_ty p.ty =
    ap (λ (o : Option ParamShape). option_map_or kind_of_ty (option_map (λ (q : ParamShape). q.ty) o) OfPointer) here in
    let later : (j : ℕ) (q : ParamShape) → slice_get ps j ≡ Some q → slice_get f.params (k + 1 + j) ≡ Some q =
    λ j q is. subst (λ (n : ℕ). slice_get f.params n ≡ Some q) (omega arith) (at (suc j) q is) in
    ap (λ (kind : Kind). kind ∷ take (length ps) (map (λ (v : ValueShape). site_kind f v.site) (params_from (k + 1) ps ++ rest))) first
    ∙ ap (λ (kinds : List Kind). kind_of_ty p.ty ∷ kinds) (params_kinds f (k + 1) ps rest later)

pub first_kinds : (f : FunctionShape) → take (length f.params) (function_kinds f).values ≡ map (λ (p : ParamShape). kind_of_ty p.ty) f.params
first_kinds f = params_kinds f 0 f.params (all_results_from 0 f.blocks) (λ j p is. subst (λ (n : ℕ). slice_get f.params n ≡ Some p) (omega arith) is)

-- what types are stated, of those kinds is what is given
pub kinds_of_types : (m : ModuleShape) (types : List TyShape) (ps : List ParamShape) → types ≡ map (λ (p : ParamShape). p.ty) ps
    → map kind_of_ty types ≡ map (λ (p : ParamShape). kind_of_ty p.ty) ps
kinds_of_types m types ps is = ap (map kind_of_ty) is ∙ twice ps
  where
    twice : (qs : List ParamShape) → map kind_of_ty (map (λ (p : ParamShape). p.ty) qs) ≡ map (λ (p : ParamShape). kind_of_ty p.ty) qs
    twice [] = refl
    twice (q ∷ qs) = ap (λ (rest : List Kind). kind_of_ty q.ty ∷ rest) (twice qs)

pub kinds_of_arguments : (xs : List TyValShape) → map (λ (x : TyValShape). kind_of_ty x.ty) xs ≡ map kind_of_ty (map (λ (x : TyValShape). x.ty) xs)
kinds_of_arguments [] = refl
kinds_of_arguments (x ∷ xs) = ap (λ (rest : List Kind). kind_of_ty x.ty ∷ rest) (kinds_of_arguments xs)

-- what is given where a function returns: something of the type, or nothing
pub gives_returned : (values : List Kind) (number : Option ℕ) (ret other : TyShape) → ret ≡ other → IsReturned other → GivesKind values number (kind_of_ty ret)
    → (ret ≡ void → number ≡ None) → GivesReturned values number (returned_kind other)
gives_returned values number ret other same is gives none =
    subst (λ (t : TyShape). GivesReturned values number (returned_kind t)) same (by_type ret (subst IsReturned (sym same) is) gives none)
  where
    by_type : (t : TyShape) → IsReturned t → GivesKind values number (kind_of_ty t) → (t ≡ void → number ≡ None) → GivesReturned values number (returned_kind t)
    by_type (integer bits) may has nothing = has
    by_type pointer may has nothing = has
    by_type void may has nothing = nothing refl
    by_type (array count element) may has nothing = absurd may
    by_type (structure row packed) may has nothing = absurd may
    by_type (named name) may has nothing = absurd may

-- ---- a declared function
pub record IsOutside (m : ModuleShape) (name : List ℕ) (s : Signature) : Type 0 where
  pub function : DeclareShape
  pub number : ℕ
  pub there : slice_get m.declares number ≡ Some function
  pub ret : s.ret ≡ function.ret
  pub params : s.params ≡ function.params
  pub same : function.name ≡ name
  pub outside : is_outside_name name ≡ true

outside_by : (m : ModuleShape) (name : List ℕ) (main : Bool) (defined : Option ℕ) (outside : Bool) (declared : Option ℕ) (k : ℕ)
    → (if main then None else defined_or defined (if outside then option_map (λ (j : ℕ). Declared j) declared else None)) ≡ Some (Declared k)
    → (outside ≡ true) × (declared ≡ Some k)
outside_by m name true defined outside declared k e = cc
outside_by m name false (Some f) outside declared k e = cc
outside_by m name false None false declared k e = cc
outside_by m name false None true None k e = cc
outside_by m name false None true (Some j) k e = (refl, grind arith)

pub outside_is : (m : ModuleShape) (name : List ℕ) (k : ℕ) (s : Signature) → callee_of m name ≡ Some (Declared k) → signature_of m (Declared k) ≡ Some s
    → IsOutside m name s
outside_is m name k s names e =
    let found = outside_by m name (bytes_eq name (codes "main")) (function_of m name) (is_outside_name name) (declare_of m name) k names in
    by_option found.0 (found_at (λ (d : DeclareShape). bytes_eq d.name name) 0 m.declares k found.1) (slice_get m.declares k) refl e
  where
    by_option : is_outside_name name ≡ true → IsFoundAt (λ (d : DeclareShape). bytes_eq d.name name) 0 m.declares k → (o : Option DeclareShape)
        → slice_get m.declares k ≡ o → option_map (λ (d : DeclareShape). record { ret = d.ret; params = d.params }) o ≡ Some s → IsOutside m name s
    by_option outside found None there is = absurd (none-some s is)
    by_option outside found (Some d) there is =
        let same = same_Some _ s is in
        let place : found.index ≡ k = let at : k ≡ 0 + found.index = found.place in omega arith in
        let one : Some found.element ≡ Some d = sym (subst (λ (n : ℕ). slice_get m.declares n ≡ Some found.element) place found.there) ∙ there in
        record {
          function = d;
          number = k;
          there = there;
          ret = ap (λ (z : Signature). z.ret) (sym same);
          params = ap (λ (z : Signature). z.params) (sym same);
          same = names_same d.name name (ap (λ (z : DeclareShape). bytes_eq z.name name) (sym (same_Some found.element d one)) ∙ found.passes);
          outside = outside;
        }

-- what is called outside of a module
pub data IsCalledOutside (name : List ℕ) : Type 0 where
  puts : outside_call name ≡ PutChar → name ≡ codes "putchar" → IsCalledOutside name
  gets : outside_call name ≡ GetChar → name ≡ codes "getchar" → IsCalledOutside name

called_by : (name : List ℕ) (put get : Bool) → bytes_eq name (codes "putchar") ≡ put → bytes_eq name (codes "getchar") ≡ get → (put || get) ≡ true
    → IsCalledOutside name
called_by name true get is_put is_get some =
    puts (ap (λ (b : Bool). if b then PutChar else GetChar) is_put) (names_same name (codes "putchar") is_put)
called_by name false true is_put is_get some =
    gets (ap (λ (b : Bool). if b then PutChar else GetChar) is_put) (names_same name (codes "getchar") is_get)
called_by name false false is_put is_get some = cc

pub called_outside : (name : List ℕ) → is_outside_name name ≡ true → IsCalledOutside name
called_outside name is = called_by name (bytes_eq name (codes "putchar")) (bytes_eq name (codes "getchar")) refl refl is
