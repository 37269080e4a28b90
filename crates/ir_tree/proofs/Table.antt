-- Laws of tables of names.
use Rattle.std.proofs.Common.{◌≡◌, ℕ, suc, ◌+◌, ◌<◌, Bool, true, false, List, [], ◌∷◌, ◌++◌, length, Some, refl, sym, ◌∙◌, ap, arith, slice_get, zero, ◌||◌, cond, nat_lt}
use Rattle.std.specs.Prelude.{if◌then◌else◌, unwrap_or, not}
use Rattle.std.specs.List.{list_any, IsDistinct, AllByRecursion}
use Rattle.std.specs.Str.{bytes_eq}
use Rattle.std.proofs.lemmas.Bool.{lt-ltb}
use Rattle.std.proofs.lemmas.List.{append_assoc, append-nil}
use Rattle.std.proofs.lemmas.Option.{slice_get_within}
use Rattle.std.proofs.lemmas.Slice.Eq.{bytes_eq-Decides}
use Rattle.ir_tree.specs.NameTable.{number_of, with_name, text_of, Grows}

if_cons : {X : Type 0} (b : Bool) (x : X) (xs ys : List X) → (if b then x ∷ xs else x ∷ ys) ≡ x ∷ (if b then xs else ys)
if_cons true x xs ys = refl
if_cons false x xs ys = refl

text_at : (x : List ℕ) (xs : List (List ℕ)) (name : List ℕ) (b : Bool) → bytes_eq name x ≡ b
    → slice_get (with_name xs name) (number_of xs name) ≡ Some name
    → slice_get (if b || list_any (bytes_eq name) xs then x ∷ xs else (x ∷ xs) ++ name ∷ []) (cond (not b) (1 + number_of xs name) 0) ≡ Some name
text_at x xs name true e h = ap Some (sym ((bytes_eq-Decides name x).0 e))
text_at x xs name false e h =
    let next : 1 + number_of xs name ≡ suc (number_of xs name) = omega arith in
    rw (next, if_cons) h

-- a name has its number
pub text-with_name : (names : List (List ℕ)) (name : List ℕ) → slice_get (with_name names name) (number_of names name) ≡ Some name
text-with_name [] name = refl
text-with_name (x ∷ xs) name = text_at x xs name (bytes_eq name x) refl (text-with_name xs name)

pub text_of-with_name : (names : List (List ℕ)) (name : List ℕ) → text_of (with_name names name) (number_of names name) ≡ name
text_of-with_name names name = ap (λ o. unwrap_or o []) (text-with_name names name)

-- a longer table keeps the names of the shorter one
pub slice_get-append : {X : Type 0} (xs ys : List X) (i : ℕ) → i < length xs → slice_get (xs ++ ys) i ≡ slice_get xs i
slice_get-append [] ys i h = absurd (omega arith)
slice_get-append (x ∷ xs) ys zero h = refl
slice_get-append (x ∷ xs) ys (suc i) h = slice_get-append xs ys i (omega arith)

pub text_of-append : (names more : List (List ℕ)) (i : ℕ) → i < length names → text_of (names ++ more) i ≡ text_of names i
text_of-append names more i h = ap (λ o. unwrap_or o []) (slice_get-append names more i h)

pub grows_same : (names : List (List ℕ)) → Grows names names
grows_same names = record { more = []; kept = sym (append-nil names) }

pub grows_on : {a b c : List (List ℕ)} → Grows a b → Grows b c → Grows a c
grows_on {a = a} g h = record {
  more = g.more ++ h.more;
  kept = h.kept ∙ ap (λ z. z ++ h.more) g.kept ∙ append_assoc a g.more h.more;
}

grows_if : (b : Bool) (names : List (List ℕ)) (name : List ℕ) → Grows names (if b then names else names ++ name ∷ [])
grows_if true names name = grows_same names
grows_if false names name = record { more = name ∷ []; kept = refl }

pub grows_with_name : (names : List (List ℕ)) (name : List ℕ) → Grows names (with_name names name)
grows_with_name names name = grows_if (list_any (bytes_eq name) names) names name

-- the number of a name is below the count
pub known_with_name : (names : List (List ℕ)) (name : List ℕ) → nat_lt (number_of names name) (length (with_name names name)) ≡ true
known_with_name names name = lt-ltb _ _ (slice_get_within (with_name names name) (number_of names name) name (text-with_name names name))

bytes_same : (x y : List ℕ) → x ≡ y → bytes_eq x y ≡ false → ⊥
bytes_same x y e f = let same : bytes_eq x y ≡ true = (bytes_eq-Decides x y).1 e in cc

apart_at : (x : List ℕ) (xs : List (List ℕ)) (i : ℕ) (y : List ℕ) → AllByRecursion (λ z. bytes_eq x z ≡ false) xs → slice_get xs i ≡ Some y → x ≡ y → ⊥
apart_at x [] i y h e same = cc
apart_at x (z ∷ zs) zero y h e same = let there : z ≡ y = cc in bytes_same x z (same ∙ sym there) h.0
apart_at x (z ∷ zs) (suc i) y h e same = apart_at x zs i y h.1 e same

-- in a table of distinct names a name has one number
pub one_number : (names : List (List ℕ)) → IsDistinct bytes_eq names → (i j : ℕ) (name : List ℕ) → slice_get names i ≡ Some name
    → slice_get names j ≡ Some name → i ≡ j
unfolding IsDistinct
one_number [] h i j name e f = cc
one_number (x ∷ xs) h zero zero name e f = refl
one_number (x ∷ xs) h zero (suc j) name e f = absurd (apart_at x xs j name h.0 f (let first : x ≡ name = cc in first))
one_number (x ∷ xs) h (suc i) zero name e f = absurd (apart_at x xs i name h.0 e (let first : x ≡ name = cc in first))
one_number (x ∷ xs) h (suc i) (suc j) name e f = ap suc (one_number xs h.1 i j name e f)
