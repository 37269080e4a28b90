-- What holds of the elements of a list, where they are looked at one by one.
use Rattle.std.proofs.Common.{◌≡◌, ℕ, zero, suc, ◌+◌, ◌<◌, ◌≤◌, inl, inr, Bool, true, false, List, [], ◌∷◌, length, map, get_or, Some, Contains, refl, sym, ◌∙◌, ap, subst, arith, slice_get, option_map}
use Rattle.std.specs.Prelude.{◌↔◌, IsTrue}
use Rattle.std.proofs.lemmas.Bool.{cases_lt}
use Rattle.std.proofs.lemmas.Option.{slice_get_read, slice_get_within, slice_get-map, get_or_from_slice_get, same_Some}

-- a fact holds of each of the first elements
abbrev pub Hold : {X : Type 0} → (X → Type 0) → List X → ℕ → Type 0
Hold P xs n = (k : ℕ) (x : _) → k < n → slice_get xs k ≡ Some x → P x

-- it holds of all of them
abbrev pub HoldsOfAll : {X : Type 0} → (X → Type 0) → List X → Type 0
HoldsOfAll P xs = (k : ℕ) (x : _) → slice_get xs k ≡ Some x → P x

pub hold_first : {X : Type 0} (P : X → Type 0) (xs : List X) → Hold P xs 0
hold_first P xs = λ k x less e. absurd (omega arith)

pub hold_at : {X : Type 0} (P : X → Type 0) (xs : List X) (n : ℕ) (x : X) → slice_get xs n ≡ Some x → P x → Hold P xs n → Hold P xs (n + 1)
hold_at P xs n x there here past = λ k y less e.
    elim (cases_lt k n) [
      | inl below ↦ past k y below e
      | inr least ↦
          let same : k ≡ n = omega arith in
          subst P (same_Some x y (sym there ∙ ap (slice_get xs) (sym same) ∙ e)) here
    ]

pub hold_next : {X : Type 0} (P : X → Type 0) (xs : List X) (n : ℕ) (x : X) → n < length xs → x ≡ get_or xs n x → P x → Hold P xs n → Hold P xs (n + 1)
hold_next P xs n x within is here past = hold_at P xs n x (slice_get_read xs (length xs) n x refl within is) here past

pub hold_all : {X : Type 0} (P : X → Type 0) (xs : List X) (n : ℕ) → length xs ≤ n → Hold P xs n → HoldsOfAll P xs
hold_all P xs n long past = λ k x e. let within : k < length xs = slice_get_within xs k x e in past k x (omega arith) e

-- the element that another one is mapped of
pub mapped_of : {X S : Type 0} (f : X → S) (xs : List X) (k : ℕ) (s : S) → slice_get (map f xs) k ≡ Some s → (x : X) × (slice_get xs k ≡ Some x) × (f x ≡ s)
mapped_of f [] k s e = cc
mapped_of f (x ∷ xs) zero s e = (x, refl, same_Some (f x) s e)
mapped_of f (x ∷ xs) (suc k) s e = mapped_of f xs k s e

pub mapped_to : {X S : Type 0} (f : X → S) (xs : List X) (k : ℕ) (x : X) → slice_get xs k ≡ Some x → slice_get (map f xs) k ≡ Some (f x)
mapped_to f xs k x e = slice_get-map f xs k ∙ ap (option_map f) e

-- an element is contained, and what is contained has a place
pub contained_at : {X : Type 0} (xs : List X) (k : ℕ) (x : X) → slice_get xs k ≡ Some x → Contains xs x
contained_at xs k x e = (k, slice_get_within xs k x e, get_or_from_slice_get xs k x x e)

pub place_of : {X : Type 0} (xs : List X) (x : X) → Contains xs x → (k : ℕ) × (slice_get xs k ≡ Some x)
place_of xs x there = (there.0, slice_get_read xs (length xs) there.0 x refl there.1 (sym there.2))

-- of all elements, and of all that the list contains
pub of_contained : {X : Type 0} (P : X → Type 0) (xs : List X) → HoldsOfAll P xs → (x : X) → Contains xs x → P x
of_contained P xs all x there = let at = place_of xs x there in all at.0 x at.1

-- of all elements, and of all that a list mapped of them contains
pub of_mapped : {X Y : Type 0} (f : X → Y) (P : Y → Type 0) (xs : List X) → HoldsOfAll (λ x. P (f x)) xs → (y : Y) → Contains (map f xs) y → P y
of_mapped f P xs all y there =
    let at = place_of (map f xs) y there in
    let x = mapped_of f xs at.0 y at.1 in
    subst P x.2 (all at.0 x.0 x.1)

-- ---- tests that stand for a fact
pub yes : (W : Type 0) → W → IsTrue true ↔ W
yes W w = (λ e. w, λ h. refl)

pub no : (W : Type 0) → (W → ⊥) → IsTrue false ↔ W
no W not = (λ e. let wrong : ◌≡◌ {A = Bool} false true = e in cc, λ w. absurd (not w))

pub not_true : (P : Type 0) (test : Bool) → test ≡ false → IsTrue test ↔ P → P → ⊥
not_true P test is tells p = let wrong : ◌≡◌ {A = Bool} false true = sym is ∙ tells.1 p in cc

-- a test that tells of one fact tells of another one that is so just where it is
pub also : (A B C : Type 0) → A ↔ B → B ↔ C → A ↔ C
also A B C one other = (λ a. other.0 (one.0 a), λ c. one.1 (other.1 c))

pub turned : (A B : Type 0) → A ↔ B → B ↔ A
turned A B both = (both.1, both.0)
