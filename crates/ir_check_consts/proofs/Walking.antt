-- Where indices lead, by those that are left.
use Rattle.std.proofs.Common.{◌≡◌, ℕ, ◌+◌, ◌<◌, ◌≤◌, List, ◌∷◌, length, get_or, map, drop, ◌∙◌, ap, subst}
use Rattle.std.specs.Prelude.{◌↔◌}
use Rattle.std.proofs.lemmas.List.{drop_more, drop_all}
use Rattle.ir_tree.specs.Shape.{TyShape, ConstShape, TypedShape, typed, typed_row, NamedTyShape}
use Rattle.ir_rules.specs.Constants.{StepsBy, Walks, const_number, typed_number, row_numbers}
use Rattle.ir_openings.proofs.Once.{walks_on, walks_nowhere}

-- the indices from a place on lead from a type into another exactly where a fact holds
abbrev pub WalkDecides : {A : Type 0} → List NamedTyShape → (A → TypedShape) → List A → ℕ → TyShape → Type 0 → Type 0
WalkDecides ts f xs i t W = Walks ts t (row_numbers (typed_row (map f (drop i xs)))) ↔ W

walk_at : {A : Type 0} (ts : List NamedTyShape) (f : A → TypedShape) (xs : List A) (i : ℕ) (x : A) (t : TyShape) → i < length xs → get_or xs i x ≡ x
    → (W : Type 0) → WalkDecides ts f xs i t W → Walks ts t (typed_number (f x) ∷ row_numbers (typed_row (map f (drop (i + 1) xs)))) ↔ W
walk_at {A} ts f xs i x t h is W rest =
    let here = drop_more xs i x h ∙ ap (λ (z : A). z ∷ drop (i + 1) xs) is in
    subst (λ (z : List A). Walks ts t (row_numbers (typed_row (map f z))) ↔ W) here rest

pub walk_next : {A : Type 0} (ts : List NamedTyShape) (f : A → TypedShape) (xs : List A) (i : ℕ) (x : A) (t u : TyShape) → i < length xs → get_or xs i x ≡ x
    → StepsBy ts (typed_number (f x)) t u → (W : Type 0) → WalkDecides ts f xs i t W → WalkDecides ts f xs (i + 1) u W
walk_next ts f xs i x t u h is steps W rest =
    let here = walk_at ts f xs i x t h is W rest in
    let on = walks_on ts (typed_number (f x)) (row_numbers (typed_row (map f (drop (i + 1) xs)))) t u steps in
    (λ walks. here.0 (on.1 walks), λ w. on.0 (here.1 w))

pub walk_fails : {A : Type 0} (ts : List NamedTyShape) (f : A → TypedShape) (xs : List A) (i : ℕ) (x : A) (t : TyShape) → i < length xs → get_or xs i x ≡ x
    → ((u : TyShape) → StepsBy ts (typed_number (f x)) t u → ⊥) → (W : Type 0) → WalkDecides ts f xs i t W → W → ⊥
walk_fails ts f xs i x t h is none W rest w =
    walks_nowhere ts (typed_number (f x)) (row_numbers (typed_row (map f (drop (i + 1) xs)))) t none ((walk_at ts f xs i x t h is W rest).1 w)

pub walk_ends : {A : Type 0} (ts : List NamedTyShape) (f : A → TypedShape) (xs : List A) (i : ℕ) (t : TyShape) → length xs ≤ i → (W : Type 0)
    → WalkDecides ts f xs i t W → W
walk_ends {A} ts f xs i t h W rest = (subst (λ (z : List A). Walks ts t (row_numbers (typed_row (map f z))) ↔ W) (drop_all i xs h) rest).0 tt

-- the number of a constant that is stated with its type
pub number_is : (v : TypedShape) (t : TyShape) (c : ConstShape) → v ≡ typed t c → typed_number v ≡ const_number c
number_is v t c e = ap typed_number e
