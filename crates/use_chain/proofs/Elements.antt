-- What holds of each number of a list, and lists without repetitions.
use Rattle.std.proofs.Common.{◌≡◌, ◌≢◌, ℕ, zero, suc, ◌<◌, List, [], ◌∷◌, ◌++◌, length, get_or, refl, sym, ap, ◌∙◌, subst, arith, true, false, not, cond, eqb, inl, inr}
use Rattle.std.specs.List.{AllByRecursion, Contains}
use Rattle.std.proofs.lemmas.Bool.{ne_eqb}
use Rattle.std.proofs.lemmas.Bool.Decides.{eqb_tells}
use Rattle.use_chain.specs.Lists.{AreApart, others}

pub all_weaker : (P Q : ℕ → Type 0) → ((k : ℕ) → P k → Q k) → (ks : List ℕ) → AllByRecursion P ks → AllByRecursion Q ks
all_weaker P Q f [] h = tt
all_weaker P Q f (k ∷ ks) h = (f k h.0, all_weaker P Q f ks h.1)

pub all_left : (P : ℕ → Type 0) (xs ys : List ℕ) → AllByRecursion P (xs ++ ys) → AllByRecursion P xs
all_left P [] ys h = tt
all_left P (x ∷ xs) ys h = (h.0, all_left P xs ys h.1)

pub all_right : (P : ℕ → Type 0) (xs ys : List ℕ) → AllByRecursion P (xs ++ ys) → AllByRecursion P ys
all_right P [] ys h = h
all_right P (x ∷ xs) ys h = all_right P xs ys h.1

pub all_join : (P : ℕ → Type 0) (xs ys : List ℕ) → AllByRecursion P xs → AllByRecursion P ys → AllByRecursion P (xs ++ ys)
all_join P [] ys h g = g
all_join P (x ∷ xs) ys h g = (h.0, all_join P xs ys h.1 g)

pub all_both : (P Q : ℕ → Type 0) (ks : List ℕ) → AllByRecursion P ks → AllByRecursion Q ks → AllByRecursion (λ k. P k × Q k) ks
all_both P Q [] h g = tt
all_both P Q (k ∷ ks) h g = ((h.0, g.0), all_both P Q ks h.1 g.1)

pub all_at : (P : ℕ → Type 0) (ks : List ℕ) (i d : ℕ) → i < length ks → AllByRecursion P ks → P (get_or ks i d)
all_at P [] i d h all = absurd (omega arith)
all_at P (k ∷ ks) zero d h all = all.0
all_at P (k ∷ ks) (suc i) d h all = all_at P ks i d (omega arith) all.1

-- a number of a list splits it
pub split_at : (ks : List ℕ) (k : ℕ) → Contains ks k → (xs : List ℕ) × (ys : List ℕ) × (ks ≡ xs ++ k ∷ ys)
split_at [] k h = absurd (omega (arith, h.1))
split_at (j ∷ ks) k (zero, h, e) = ([], ks, ap (λ z. z ∷ ks) e)
split_at (j ∷ ks) k (suc i, h, e) =
    let rest : (xs : List ℕ) × (ys : List ℕ) × (ks ≡ xs ++ k ∷ ys) = split_at ks k (i, omega arith, e) in
    (j ∷ rest.0, rest.1, ap (λ z. j ∷ z) rest.2)

-- without one number, the rest are still apart, and none is that number
pub apart_without : (xs ys : List ℕ) (k : ℕ) → AreApart (xs ++ k ∷ ys) → AreApart (xs ++ ys)
apart_without [] ys k h = h.1
apart_without (x ∷ xs) ys k h =
    let tail = all_right (λ j. j ≢ x) xs (k ∷ ys) h.0 in
    (all_join (λ j. j ≢ x) xs ys (all_left (λ j. j ≢ x) xs (k ∷ ys) h.0) tail.1, apart_without xs ys k h.1)

pub apart_left : (xs ys : List ℕ) (k : ℕ) → AreApart (xs ++ k ∷ ys) → AllByRecursion (λ j. j ≢ k) xs
apart_left [] ys k h = tt
apart_left (x ∷ xs) ys k h =
    let tail = all_right (λ j. j ≢ x) xs (k ∷ ys) h.0 in
    (λ e. tail.0 (sym e), apart_left xs ys k h.1)

pub apart_right : (xs ys : List ℕ) (k : ℕ) → AreApart (xs ++ k ∷ ys) → AllByRecursion (λ j. j ≢ k) ys
apart_right [] ys k h = h.0
apart_right (x ∷ xs) ys k h = apart_right xs ys k h.1

pub apart_front : (xs ys : List ℕ) → AreApart (xs ++ ys) → AreApart xs
apart_front [] ys h = tt
apart_front (x ∷ xs) ys h = (all_left (λ j. j ≢ x) xs ys h.0, apart_front xs ys h.1)

pub apart_back : (xs ys : List ℕ) → AreApart (xs ++ ys) → AreApart ys
apart_back [] ys h = h
apart_back (x ∷ xs) ys h = apart_back xs ys h.1

-- a number of the second part is none of the first
pub apart_across : (xs ys : List ℕ) → AreApart (xs ++ ys) → AllByRecursion (λ y. AllByRecursion (λ x. x ≢ y) xs) ys
apart_across xs [] h = tt
apart_across xs (y ∷ ys) h = (apart_left xs ys y h, apart_across xs ys (apart_without xs ys y h))

pub apart_push : (xs : List ℕ) (k : ℕ) → AreApart xs → AllByRecursion (λ j. j ≢ k) xs → AreApart (xs ++ k ∷ [])
apart_push [] k h g = (tt, tt)
apart_push (x ∷ xs) k h g = (all_join (λ j. j ≢ x) xs (k ∷ []) h.0 ((λ e. g.0 (sym e)), tt), apart_push xs k h.1 g.1)

-- a number of the first part is none of the second
pub apart_back_across : (xs ys : List ℕ) → AreApart (xs ++ ys) → AllByRecursion (λ x. AllByRecursion (λ y. y ≢ x) ys) xs
apart_back_across [] ys h = tt
apart_back_across (x ∷ xs) ys h = (all_right (λ j. j ≢ x) xs ys h.0, apart_back_across xs ys h.1)

other_one : (j k : ℕ) → j ≢ k → not (eqb j k) ≡ true
other_one j k h = ap not (ne_eqb j k h)

same_one : (k : ℕ) → not (eqb k k) ≡ false
same_one k = elim (eqb_tells k k) [ inl t ↦ ap not t.0 | inr f ↦ absurd (f.1 refl) ]

-- a list without a number that it doesn't have
pub others_same : (k : ℕ) (ks : List ℕ) → AllByRecursion (λ j. j ≢ k) ks → others k ks ≡ ks
others_same k [] h = refl
others_same k (j ∷ js) h = ap (λ b. cond b (j ∷ others k js) (others k js)) (other_one j k h.0) ∙ ap (λ z. j ∷ z) (others_same k js h.1)

-- a list without a number that it has
pub others_split : (xs ys : List ℕ) (k : ℕ) → AreApart (xs ++ k ∷ ys) → others k (xs ++ k ∷ ys) ≡ xs ++ ys
others_split [] ys k h = ap (λ b. cond b (k ∷ others k ys) (others k ys)) (same_one k) ∙ others_same k ys h.0
others_split (x ∷ xs) ys k h =
    let tail = all_right (λ j. j ≢ x) xs (k ∷ ys) h.0 in
    ap (λ b. cond b (x ∷ others k (xs ++ k ∷ ys)) (others k (xs ++ k ∷ ys))) (other_one x k (λ e. tail.0 (sym e)))
    ∙ ap (λ z. x ∷ z) (others_split xs ys k h.1)

-- none of the others is the number
pub others_other : (k : ℕ) (ks : List ℕ) → AllByRecursion (λ j. j ≢ k) (others k ks)
others_other k [] = tt
others_other k (j ∷ js) =
    elim (eqb_tells j k) [
      | inl t ↦ subst (λ b. AllByRecursion (λ i. i ≢ k) (cond b (j ∷ others k js) (others k js))) (sym (ap not t.0)) (others_other k js)
      | inr f ↦ subst (λ b. AllByRecursion (λ i. i ≢ k) (cond b (j ∷ others k js) (others k js))) (sym (ap not f.0)) (f.1, others_other k js)
    ]
