-- That indices lead into a type, by those that are left.
use Rattle.std.proofs.Common.{◌≡◌, ℕ, ◌+◌, ◌<◌, ◌≤◌, ℤ, List, ◌∷◌, length, get_or, map, drop, Option, sym, ◌∙◌, ap, subst}
use Rattle.std.specs.Prelude.{◌↔◌}
use Rattle.std.proofs.lemmas.List.{drop_more, drop_all}
use Rattle.ir_tree.specs.Shape.{TyShape, NamedTyShape}
use Rattle.ir_tree.specs.ShapeOf.{val_shape, ty_val_shape}
use Rattle.ir_tree.specs.declared.module.TyVal.{TyVal}
use Rattle.ir_rules.specs.Constants.{StepsBy, Walks}
use Rattle.ir_rules.specs.Instructions.{val_number}
use Rattle.ir_openings.proofs.Once.{walks_on, walks_nowhere}

-- the numbers of indices
abbrev pub numbers_of : List (List ℕ) → List TyVal → List (Option ℤ)
numbers_of names xs = map (λ i. val_number i.val) (map (ty_val_shape names) xs)

-- the indices from a place on lead into a type exactly where a fact holds
abbrev pub RestWalks : List NamedTyShape → List (List ℕ) → TyShape → List TyVal → ℕ → Type 0 → Type 0
RestWalks ts names t xs i W = Walks ts t (numbers_of names (drop i xs)) ↔ W

rest_is : (names : List (List ℕ)) (xs : List TyVal) (i : ℕ) (x : TyVal) (number : Option ℤ) → i < length xs → get_or xs i x ≡ x
    → number ≡ val_number (val_shape names x.val) → numbers_of names (drop i xs) ≡ number ∷ numbers_of names (drop (i + 1) xs)
rest_is names xs i x number h is same =
    ap (numbers_of names) (drop_more xs i x h ∙ ap (λ (y : TyVal). y ∷ drop (i + 1) xs) is)
    ∙ ap (λ (n : Option ℤ). n ∷ numbers_of names (drop (i + 1) xs)) (sym same)

pub walk_next : (ts : List NamedTyShape) (names : List (List ℕ)) (xs : List TyVal) (i : ℕ) (x : TyVal) (number : Option ℤ) (t u : TyShape) → i < length xs
    → get_or xs i x ≡ x → number ≡ val_number (val_shape names x.val) → StepsBy ts number t u → (W : Type 0) → RestWalks ts names t xs i W
    → RestWalks ts names u xs (i + 1) W
walk_next ts names xs i x number t u h is same steps W rest =
    let here = subst (λ (z : List (Option ℤ)). Walks ts t z ↔ W) (rest_is names xs i x number h is same) rest in
    let on = walks_on ts number (numbers_of names (drop (i + 1) xs)) t u steps in
    (λ more. here.0 (on.1 more), λ all. on.0 (here.1 all))

pub walk_fails : (ts : List NamedTyShape) (names : List (List ℕ)) (xs : List TyVal) (i : ℕ) (x : TyVal) (number : Option ℤ) (t : TyShape) → i < length xs
    → get_or xs i x ≡ x → number ≡ val_number (val_shape names x.val) → ((u : TyShape) → StepsBy ts number t u → ⊥) → (W : Type 0)
    → RestWalks ts names t xs i W → W → ⊥
walk_fails ts names xs i x number t h is same nowhere W rest all =
    let here = subst (λ (z : List (Option ℤ)). Walks ts t z ↔ W) (rest_is names xs i x number h is same) rest in
    walks_nowhere ts number (numbers_of names (drop (i + 1) xs)) t nowhere (here.1 all)

pub walk_ends : (ts : List NamedTyShape) (names : List (List ℕ)) (xs : List TyVal) (i : ℕ) (t : TyShape) → length xs ≤ i → (W : Type 0)
    → RestWalks ts names t xs i W → W
walk_ends ts names xs i t h W rest =
    (subst (λ (z : List TyVal). Walks ts t (numbers_of names z) ↔ W) (drop_all i xs h) rest).0 tt
