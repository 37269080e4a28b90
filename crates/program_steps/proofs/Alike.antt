-- Lists that are alike place by place.
use Rattle.std.proofs.Common.{◌≡◌, ℕ, zero, suc, ◌<◌, List, [], ◌∷◌, length, map, Some, slice_get, get_or, arith, sym, ◌∙◌, ap}
use Rattle.std.proofs.lemmas.List.{length-map}

module _ {A B C : Type 0} (f : A → C) (g : B → C) where
  pub alike_long : (xs : List A) (ys : List B) → map f xs ≡ map g ys → length xs ≡ length ys
  alike_long xs ys same = sym (length-map xs f) ∙ ap (λ (z : List C). length z) same ∙ length-map ys g

  -- what stands at a place
  pub alike_at : (xs : List A) (ys : List B) (k : ℕ) (x : A) (y : B) → map f xs ≡ map g ys → slice_get ys k ≡ Some y → get_or xs k x ≡ x → f x ≡ g y
  alike_at [] [] k x y same there here = cc
  alike_at [] (b ∷ ys) k x y same there here = cc
  alike_at (a ∷ xs) [] k x y same there here = cc
  alike_at (a ∷ xs) (b ∷ ys) zero x y same there here =
      let one : f a ≡ g b = cc in
      let is : b ≡ y = cc in
      ap f (sym here) ∙ one ∙ ap g is
  alike_at (a ∷ xs) (b ∷ ys) (suc k) x y same there here =
      let rest : map f xs ≡ map g ys = cc in
      alike_at xs ys k x y rest there here

pub within_list : {X : Type 0} (xs : List X) (k : ℕ) (x : X) → slice_get xs k ≡ Some x → k < length xs
within_list [] k x e = cc
within_list (y ∷ xs) zero x e = omega arith
within_list (y ∷ xs) (suc k) x e = omega (arith, within_list xs k x e)

-- what stands at a place after each was changed
pub mapped_at : {X Y : Type 0} (f : X → Y) (xs : List X) (k : ℕ) (x : X) → slice_get xs k ≡ Some x → slice_get (map f xs) k ≡ Some (f x)
mapped_at f [] k x e = cc
mapped_at {X} {Y} f (y ∷ xs) zero x e =
    let same : y ≡ x = cc in
    ap (λ (z : X). Some (f z)) same
mapped_at f (y ∷ xs) (suc k) x e = mapped_at f xs k x e

-- what is read at a place stands there
pub item_there : {X : Type 0} (xs : List X) (k : ℕ) (x : X) → k < length xs → get_or xs k x ≡ x → slice_get xs k ≡ Some x
item_there [] k x h e = absurd (omega (arith, h))
item_there {X} (y ∷ xs) zero x h e = ap (λ (z : X). Some z) e
item_there (y ∷ xs) (suc k) x h e = item_there xs k x (omega (arith, h)) e
