-- The keys of a set of byte strings, and what they hold.
use Rattle.std.proofs.Common.{◌≡◌, ℕ, ◌+◌, Bool, true, false, List, [], ◌∷◌, ◌++◌, length, map, None, Some, refl, ◌∙◌, ap, cond, ◌||◌}
use Rattle.std.specs.Prelude.{if◌then◌else◌, nat_lt, not}
use Rattle.std.proofs.lemmas.List.{map-append}
use Rattle.std.specs.List.{position, position_or_len, list_any, IsDistinct, AllByRecursion}

position_or_len-map : {X Y : Type 0} (f : X → Y) (p : Y → Bool) (xs : List X) → position_or_len (λ x. p (f x)) xs ≡ position_or_len p (map f xs)
position_or_len-map f p [] = refl
position_or_len-map f p (x ∷ xs) = ap (λ n. cond (not (p (f x))) (1 + n) 0) (position_or_len-map f p xs)

pub list_any-map : {X Y : Type 0} (f : X → Y) (p : Y → Bool) (xs : List X) → list_any (λ x. p (f x)) xs ≡ list_any p (map f xs)
list_any-map f p [] = refl
list_any-map f p (x ∷ xs) = ap (λ b. p (f x) || b) (list_any-map f p xs)

found_at : (b : Bool) (n i : ℕ) → Some i ≡ cond b (Some n) None → i ≡ n
found_at true n i e = cc
found_at false n i e = cc

-- the place that a look-up finds is the place of the first
pub place_found : {X Y : Type 0} (f : X → Y) (p : Y → Bool) (xs : List X) (i : ℕ) → Some i ≡ position (λ x. p (f x)) xs
    → i ≡ position_or_len p (map f xs)
place_found f p xs i e =
    found_at (nat_lt (position_or_len (λ x. p (f x)) xs) (length xs)) (position_or_len (λ x. p (f x)) xs) i e ∙ position_or_len-map f p xs

pub place_is : {X Y : Type 0} (f : X → Y) (p : Y → Bool) (xs : List X) (i : ℕ) → i ≡ position_or_len (λ x. p (f x)) xs
    → i ≡ position_or_len p (map f xs)
place_is f p xs i e = e ∙ position_or_len-map f p xs

keys_if : {X Y : Type 0} (f : X → Y) (p : Y → Bool) (xs : List X) (x : X) (b c : Bool) → b ≡ c
    → map f (if b then xs else xs ++ x ∷ []) ≡ (if c then map f xs else map f xs ++ f x ∷ [])
keys_if f p xs x true true e = refl
keys_if f p xs x true false e = cc
keys_if f p xs x false true e = cc
keys_if f p xs x false false e = map-append f xs (x ∷ [])

-- the view of a set after a key was inserted
pub keys_after : {X Y : Type 0} (f : X → Y) (p : Y → Bool) (xs ys : List X) (x : X) → ys ≡ (if list_any (λ z. p (f z)) xs then xs else xs ++ x ∷ [])
    → map f ys ≡ (if list_any p (map f xs) then map f xs else map f xs ++ f x ∷ [])
keys_after f p xs ys x e = ap (map f) e ∙ keys_if f p xs x (list_any (λ z. p (f z)) xs) (list_any p (map f xs)) (list_any-map f p xs)

apart_map : {X Y : Type 0} (f : X → Y) (p : Y → Y → Bool) (x : X) (xs : List X) → AllByRecursion (λ y. p (f x) (f y) ≡ false) xs
    → AllByRecursion (λ y. p (f x) y ≡ false) (map f xs)
apart_map f p x [] h = tt
apart_map f p x (y ∷ ys) h = (h.0, apart_map f p x ys h.1)

-- what distinct keys hold is distinct
pub distinct_map : {X Y : Type 0} (f : X → Y) (p : Y → Y → Bool) (xs : List X) → IsDistinct (λ x y. p (f x) (f y)) xs → IsDistinct p (map f xs)
unfolding IsDistinct
distinct_map f p [] h = tt
distinct_map f p (x ∷ xs) h = (apart_map f p x xs h.0, distinct_map f p xs h.1)

kept_if : {Y : Type 0} (b : Bool) (ys : List Y) (y : Y) → true ≡ b → ys ≡ (if b then ys else ys ++ y ∷ [])
kept_if true ys y e = refl
kept_if false ys y e = cc

-- the view of a set that has the key
pub keys_kept : {X Y : Type 0} (f : X → Y) (p : Y → Bool) (xs : List X) (y : Y) → true ≡ list_any (λ z. p (f z)) xs
    → map f xs ≡ (if list_any p (map f xs) then map f xs else map f xs ++ y ∷ [])
keys_kept f p xs y e = kept_if (list_any p (map f xs)) (map f xs) y (e ∙ list_any-map f p xs)
