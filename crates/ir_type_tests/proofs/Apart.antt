-- That numbers are distinct, by a set that has those that came before.
use Rattle.std.proofs.Common.{◌≡◌, ℕ, ◌+◌, ◌<◌, Bool, true, false, cond, ◌||◌, List, [], ◌∷◌, ◌++◌, length, get_or, map, take, drop, arith, refl, sym, ◌∙◌, ap, subst}
use Rattle.std.specs.Prelude.{nat_eq}
use Rattle.std.specs.List.{IsDistinct, AllByRecursion, list_any}
use Rattle.std.specs.Ordering.{is_eq, nat_cmp}
use Rattle.std.specs.Cmp.{unsigned_tied}
use Rattle.std.proofs.lemmas.Cmp.{nat_eq_equiv}
use Rattle.std.proofs.lemmas.Bool.{eqb-true, eq-eqb}
use Rattle.std.proofs.lemmas.List.{take_more, drop_more, take-append-drop, map-append}
use Rattle.std.proofs.lemmas.List.Folds.{list_any-append}
use Rattle.std.proofs.lemmas.Map.Keys.{IsDistinct-push}

-- a test finds the numbers of a list, which are distinct
pub record HasSeen (bs : List ℕ) (has : ℕ → Bool) : Type 0 where
  pub apart : IsDistinct nat_eq bs
  pub finds : (q : ℕ) → has q ≡ list_any (nat_eq q) bs

pub none_seen : (has : ℕ → Bool) → ((q : ℕ) → has q ≡ false) → HasSeen [] has
unfolding IsDistinct
none_seen has none = record { apart = tt; finds = none }

tied : (b q : ℕ) → is_eq (nat_cmp b q) ≡ nat_eq q b
tied b q = grind (arith, unsigned_tied b q, nat_eq_equiv.symm b q)

found : (c d : Bool) → cond c true d ≡ (d || (c || false))
found true true = refl
found true false = refl
found false true = refl
found false false = refl

seen_next : (bs : List ℕ) (b : ℕ) (has next : ℕ → Bool) → HasSeen bs has → has b ≡ false → ((q : ℕ) → next q ≡ cond (is_eq (nat_cmp b q)) true (has q))
    → HasSeen (bs ++ b ∷ []) next
seen_next bs b has next seen fresh grows = record {
  apart = IsDistinct-push nat_eq_equiv bs b seen.apart (sym (seen.finds b) ∙ fresh);
  finds = λ q.
      grows q ∙ ap (λ (c : Bool). cond c true (has q)) (tied b q) ∙ ap (λ (d : Bool). cond (nat_eq q b) true d) (seen.finds q)
      ∙ found (nat_eq q b) (list_any (nat_eq q) bs) ∙ sym (list_any-append (nat_eq q) bs (b ∷ []));
}

all_last : (P : ℕ → Type 0) (bs more : List ℕ) (b : ℕ) → AllByRecursion P (bs ++ b ∷ more) → P b
all_last P [] more b h = h.0
all_last P (x ∷ bs) more b h = all_last P bs more b h.1

again : (bs more : List ℕ) (b : ℕ) → list_any (nat_eq b) bs ≡ true → IsDistinct nat_eq (bs ++ b ∷ more) → ⊥
unfolding IsDistinct
again [] more b there apart = cc
again (x ∷ bs) more b there apart = again_at (nat_eq b x) refl (again bs more b)
  where
    again_at : (c : Bool) → nat_eq b x ≡ c → (list_any (nat_eq b) bs ≡ true → IsDistinct nat_eq (bs ++ b ∷ more) → ⊥) → ⊥
    again_at true is rest =
        let same : x ≡ b = sym (eqb-true b x is) in
        let one : nat_eq x b ≡ true = eq-eqb x b same in
        let other : nat_eq x b ≡ false = all_last (λ y. nat_eq x y ≡ false) bs more b apart.0 in
        cc
    again_at false is rest = rest (rw is at there) apart.1

parts : {A : Type 0} (g : A → ℕ) (xs : List A) (i : ℕ) (x : A) → i < length xs → get_or xs i x ≡ x
    → map g xs ≡ map g (take i xs) ++ g x ∷ map g (drop (i + 1) xs)
parts g xs i x h is =
    ap (map g) (sym (take-append-drop i xs)) ∙ map-append g (take i xs) (drop i xs)
    ∙ ap (λ z. map g (take i xs) ++ map g z) (drop_more xs i x h)
    ∙ ap (λ y. map g (take i xs) ++ g y ∷ map g (drop (i + 1) xs)) is

-- the numbers of the elements up to one more
pub seen_more : {A : Type 0} (g : A → ℕ) (xs : List A) (i : ℕ) (x : A) → i < length xs → get_or xs i x ≡ x → (b : ℕ) → b ≡ g x → (has next : ℕ → Bool)
    → HasSeen (map g (take i xs)) has → has b ≡ false → ((q : ℕ) → next q ≡ cond (is_eq (nat_cmp b q)) true (has q))
    → HasSeen (map g (take (i + 1) xs)) next
seen_more g xs i x h is b same has next seen fresh grows =
    let longer : map g (take (i + 1) xs) ≡ map g (take i xs) ++ b ∷ [] =
    ap (map g) (take_more xs i x h) ∙ map-append g (take i xs) (get_or xs i x ∷ []) ∙ ap (λ y. map g (take i xs) ++ y ∷ []) (ap g is ∙ sym same) in
    subst (λ (z : List ℕ). HasSeen z next) (sym longer) (seen_next (map g (take i xs)) b has next seen fresh grows)

-- a number that comes again
pub seen_again : {A : Type 0} (g : A → ℕ) (xs : List A) (i : ℕ) (x : A) → i < length xs → get_or xs i x ≡ x → (b : ℕ) → b ≡ g x → (has : ℕ → Bool)
    → HasSeen (map g (take i xs)) has → has b ≡ true → IsDistinct nat_eq (map g xs) → ⊥
seen_again g xs i x h is b same has seen there apart =
    again (map g (take i xs)) (map g (drop (i + 1) xs)) (g x) (ap (λ y. list_any (nat_eq y) (map g (take i xs))) (sym same) ∙ sym (seen.finds b) ∙ there)
    (subst (λ (z : List ℕ). IsDistinct nat_eq z) (parts g xs i x h is) apart)
