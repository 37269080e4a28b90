-- Vectors used as stacks, as lists with the top first.
use Rattle.std.proofs.Common.{◌≡◌, List, [], ◌∷◌, ◌++◌, map, reverse, ap, ◌∙◌}
use Rattle.std.proofs.lemmas.List.{reverse-append, map-append}
use Rattle.std.specs.List.{AllByRecursion}

-- what was pushed is first
pub pushed : {A B : Type 0} → (f : A → B) (xs ys : List A) (x : A) → ys ≡ xs ++ x ∷ [] → reverse (map f ys) ≡ f x ∷ reverse (map f xs)
pushed f xs ys x is = ap (λ (zs : List _). reverse (map f zs)) is ∙ ap reverse (map-append f xs (x ∷ [])) ∙ reverse-append (map f xs) (f x ∷ [])

pub pushed_plain : {A : Type 0} → (xs ys : List A) (x : A) → ys ≡ xs ++ x ∷ [] → reverse ys ≡ x ∷ reverse xs
pushed_plain xs ys x is = ap reverse is ∙ reverse-append xs (x ∷ [])

-- what holds of all holds of the front
pub front_all : {A : Type 0} → (P : A → Type 0) (xs ys : List A) → AllByRecursion P (xs ++ ys) → AllByRecursion P xs
front_all P [] ys all = tt
front_all P (x ∷ xs) ys all = (all.0, front_all P xs ys all.1)
