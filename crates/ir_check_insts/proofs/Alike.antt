-- Lists of types that are the same, one type after the other.
use Rattle.std.proofs.Common.{◌≡◌, ℕ, zero, suc, ◌+◌, ◌<◌, List, [], ◌∷◌, length, get_or, map, take, arith, sym, ◌∙◌, ap}
use Rattle.std.proofs.lemmas.List.{take_more_same}
use Rattle.ir_tree.specs.Shape.{TyShape}

-- what a list has at a place, under a function
pub at_map : {A B : Type 0} (f : A → B) (xs : List A) (i : ℕ) (x : A) (d : B) → i < length xs → x ≡ get_or xs i x → get_or (map f xs) i d ≡ f x
at_map f [] i x d h is = absurd (omega arith)
at_map f (y ∷ ys) zero x d h is = ap f (sym is)
at_map f (y ∷ ys) (suc i) x d h is = at_map f ys i x d (omega arith) is

pub within_map : {A B : Type 0} (f : A → B) (xs : List A) (i : ℕ) → i < length xs → i < length (map f xs)
within_map f [] i h = absurd (omega arith)
within_map f (y ∷ ys) zero h = omega arith
within_map f (y ∷ ys) (suc i) h = let rest : i < length (map f ys) = within_map f ys i (omega arith) in omega arith

-- under a function and another one
pub at_map_map : {A B C : Type 0} (p : B → C) (f : A → B) (xs : List A) (i : ℕ) (x : A) (d : C) → i < length xs → x ≡ get_or xs i x
    → get_or (map p (map f xs)) i d ≡ p (f x)
at_map_map p f xs i x d h is = at_map p (map f xs) i (f x) d (within_map f xs i h) (sym (at_map f xs i x (f x) h is))

-- one more type is the same
pub alike_next : (us vs : List TyShape) (i : ℕ) (t u d : TyShape) → i < length us → i < length vs → get_or us i d ≡ t → get_or vs i d ≡ u → t ≡ u
    → take i us ≡ take i vs → take (i + 1) us ≡ take (i + 1) vs
alike_next us vs i t u d h k here there same before = take_more_same us vs i d h k before (here ∙ same ∙ sym there)

-- one type isn't
pub alike_fails : (us vs : List TyShape) (i : ℕ) (t u d : TyShape) → get_or us i d ≡ t → get_or vs i d ≡ u → (t ≡ u → ⊥) → us ≡ vs → ⊥
alike_fails us vs i t u d here there differ same = differ (sym here ∙ ap (λ (z : List TyShape). get_or z i d) same ∙ there)
