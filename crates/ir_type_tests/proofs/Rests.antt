-- That all elements of a list pass, by those that are left.
use Rattle.std.proofs.Common.{◌≡◌, ℕ, ◌+◌, ◌<◌, ◌≤◌, List, ◌∷◌, length, get_or, map, drop, ◌∙◌, ap, subst}
use Rattle.std.specs.Prelude.{◌↔◌}
use Rattle.std.specs.List.{AllByRecursion}
use Rattle.std.proofs.lemmas.List.{drop_more, drop_all}

-- the elements from a place on pass exactly where a fact holds
abbrev pub RestDecides : {A B : Type 0} → (B → Type 0) → (A → B) → List A → ℕ → Type 0 → Type 0
RestDecides P f xs i W = AllByRecursion P (map f (drop i xs)) ↔ W

pub rest_begins : {A B : Type 0} (P : B → Type 0) (f : A → B) (xs : List A) → RestDecides P f xs 0 (AllByRecursion P (map f xs))
rest_begins P f xs = (λ h. h, λ h. h)

rest_at : {A B : Type 0} (P : B → Type 0) (f : A → B) (xs : List A) (i : ℕ) (x : A) → i < length xs → get_or xs i x ≡ x → (W : Type 0)
    → RestDecides P f xs i W → (P (f x) × AllByRecursion P (map f (drop (i + 1) xs))) ↔ W
rest_at P f xs i x h is W rest =
    let here = drop_more xs i x h ∙ ap (λ y. y ∷ drop (i + 1) xs) is in
    subst (λ z. AllByRecursion P (map f z) ↔ W) here rest

pub rest_next : {A B : Type 0} (P : B → Type 0) (f : A → B) (xs : List A) (i : ℕ) (x : A) → i < length xs → get_or xs i x ≡ x → P (f x) → (W : Type 0)
    → RestDecides P f xs i W → RestDecides P f xs (i + 1) W
rest_next P f xs i x h is passes W rest =
    let both = rest_at P f xs i x h is W rest in (λ more. both.0 (passes, more), λ w. (both.1 w).1)

pub rest_fails : {A B : Type 0} (P : B → Type 0) (f : A → B) (xs : List A) (i : ℕ) (x : A) → i < length xs → get_or xs i x ≡ x → (P (f x) → ⊥) → (W : Type 0)
    → RestDecides P f xs i W → W → ⊥
rest_fails P f xs i x h is fails W rest w = fails ((rest_at P f xs i x h is W rest).1 w).0

pub rest_ends : {A B : Type 0} (P : B → Type 0) (f : A → B) (xs : List A) (i : ℕ) → length xs ≤ i → (W : Type 0) → RestDecides P f xs i W → W
rest_ends P f xs i h W rest = (subst (λ z. AllByRecursion P (map f z) ↔ W) (drop_all i xs h) rest).0 tt
