-- Constants in a row, by those that are left.
use Rattle.std.proofs.Common.{◌≡◌, ℕ, zero, suc, ℤ, ◌+◌, ◌<◌, ◌≤◌, List, [], ◌∷◌, length, get_or, map, drop, refl, ◌∙◌, ap, subst}
use Rattle.std.specs.Prelude.{◌↔◌}
use Rattle.std.specs.List.{AllByRecursion}
use Rattle.std.proofs.lemmas.List.{drop_more, drop_all}
use Rattle.ir_tree.specs.Shape.{TyShape, TypedShape, typed, typed_row, ty_row, NamedTyShape}
use Rattle.ir_rules.specs.Constants.{IsIndex, HaveElements, HaveFields, HasTyped, AreNumbers}

-- so many values of a type are that many, each of the type
pub elements_each : (ts : List NamedTyShape) (e : TyShape) (vs : List TypedShape) (count : ℕ) → HaveElements ts (typed_row vs) count e
    → (count ≡ length vs) × AllByRecursion (λ v. HasTyped ts v e) vs
unfolding HaveElements HasTyped
elements_each ts e [] count have = (have, tt)
elements_each ts e (v ∷ vs) zero none = absurd none
elements_each ts e (v ∷ vs) (suc count) have =
    let rest = elements_each ts e vs count have.1 in
    (ap suc rest.0, (have.0, rest.1))

pub elements_all : (ts : List NamedTyShape) (e : TyShape) (vs : List TypedShape) → AllByRecursion (λ v. HasTyped ts v e) vs
    → HaveElements ts (typed_row vs) (length vs) e
unfolding HaveElements HasTyped
elements_all ts e [] all = refl
elements_all ts e (v ∷ vs) all = (all.0, elements_all ts e vs all.1)

-- a number of its integer type
abbrev pub IsNumber : TypedShape → Type 0
IsNumber (typed t c) = (value : ℤ) × IsIndex t c value

pub numbers_each : (vs : List TypedShape) → AreNumbers (typed_row vs) → AllByRecursion IsNumber vs
numbers_each [] are = tt
numbers_each (typed t c ∷ vs) are = (are.0, numbers_each vs are.1)

pub numbers_all : (vs : List TypedShape) → AllByRecursion IsNumber vs → AreNumbers (typed_row vs)
numbers_all [] all = tt
numbers_all (typed t c ∷ vs) all = (all.0, numbers_all vs all.1)

-- a value for each field means as many values as fields
pub fields_long : (ts : List NamedTyShape) (vs : List TypedShape) (us : List TyShape) → HaveFields ts (typed_row vs) (ty_row us) → length vs ≡ length us
unfolding HaveFields HasTyped
fields_long ts [] [] have = refl
fields_long ts [] (u ∷ us) none = absurd none
fields_long ts (v ∷ vs) [] none = absurd none
fields_long ts (v ∷ vs) (u ∷ us) have = ap suc (fields_long ts vs us have.1)

-- the values from a place on are those for the fields from there on exactly where a fact holds
abbrev pub FieldsDecide : {A B : Type 0} → List NamedTyShape → (A → TypedShape) → (B → TyShape) → List A → List B → ℕ → Type 0 → Type 0
FieldsDecide ts f g xs ys i W = HaveFields ts (typed_row (map f (drop i xs))) (ty_row (map g (drop i ys))) ↔ W

fields_at : {A B : Type 0} (ts : List NamedTyShape) (f : A → TypedShape) (g : B → TyShape) (xs : List A) (ys : List B) (i : ℕ) (x : A) (y : B)
    → i < length xs → i < length ys → get_or xs i x ≡ x → get_or ys i y ≡ y → (W : Type 0) → FieldsDecide ts f g xs ys i W
    → (HasTyped ts (f x) (g y) × HaveFields ts (typed_row (map f (drop (i + 1) xs))) (ty_row (map g (drop (i + 1) ys)))) ↔ W
unfolding HaveFields HasTyped
fields_at {A} {B} ts f g xs ys i x y h k is also W rest =
    let here = drop_more xs i x h ∙ ap (λ (z : A). z ∷ drop (i + 1) xs) is in
    let there = drop_more ys i y k ∙ ap (λ (z : B). z ∷ drop (i + 1) ys) also in
    subst (λ (z : List A). HaveFields ts (typed_row (map f z)) (ty_row (map g (y ∷ drop (i + 1) ys))) ↔ W) here
    (subst (λ (z : List B). HaveFields ts (typed_row (map f (drop i xs))) (ty_row (map g z)) ↔ W) there rest)

pub fields_next : {A B : Type 0} (ts : List NamedTyShape) (f : A → TypedShape) (g : B → TyShape) (xs : List A) (ys : List B) (i : ℕ) (x : A) (y : B)
    → i < length xs → i < length ys → get_or xs i x ≡ x → get_or ys i y ≡ y → HasTyped ts (f x) (g y) → (W : Type 0) → FieldsDecide ts f g xs ys i W
    → FieldsDecide ts f g xs ys (i + 1) W
fields_next ts f g xs ys i x y h k is also has W rest =
    let both = fields_at ts f g xs ys i x y h k is also W rest in (λ more. both.0 (has, more), λ w. (both.1 w).1)

pub fields_fail : {A B : Type 0} (ts : List NamedTyShape) (f : A → TypedShape) (g : B → TyShape) (xs : List A) (ys : List B) (i : ℕ) (x : A) (y : B)
    → i < length xs → i < length ys → get_or xs i x ≡ x → get_or ys i y ≡ y → (HasTyped ts (f x) (g y) → ⊥) → (W : Type 0) → FieldsDecide ts f g xs ys i W
    → W → ⊥
fields_fail ts f g xs ys i x y h k is also fails W rest w = fails ((fields_at ts f g xs ys i x y h k is also W rest).1 w).0

pub fields_end : {A B : Type 0} (ts : List NamedTyShape) (f : A → TypedShape) (g : B → TyShape) (xs : List A) (ys : List B) (i : ℕ)
    → length xs ≤ i → length ys ≤ i → (W : Type 0) → FieldsDecide ts f g xs ys i W → W
unfolding HaveFields HasTyped
fields_end {A} {B} ts f g xs ys i h k W rest =
    (subst (λ (z : List A). HaveFields ts (typed_row (map f z)) (ty_row (map g [])) ↔ W) (drop_all i xs h)
    (subst (λ (z : List B). HaveFields ts (typed_row (map f (drop i xs))) (ty_row (map g z)) ↔ W) (drop_all i ys k) rest)).0 tt
