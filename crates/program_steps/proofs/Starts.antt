-- Where the fields of a structure begin, by those that are left.
use Rattle.std.proofs.Common.{◌≡◌, ℕ, ◌+◌, ◌<◌, ◌≤◌, Bool, List, [], ◌∷◌, ◌++◌, length, get_or, map, drop, arith, refl, sym, ◌∙◌, ap, subst, append_assoc, append-nil}
use Rattle.std.proofs.lemmas.List.{drop_more, drop_all}
use Rattle.ir_layout.specs.declared.sizes.Layout.{Layout}
use Rattle.ir_layout.specs.Layout.{most_size, field_start, field_end, fields_end}
use Rattle.ir_layout.proofs.Found.{end_grows}
use Rattle.program_steps.specs.Laid.{starts_from}

-- what is known of fields from a place on: they end soon enough, and where they begin is what is missing
pub record StartsLeft {A : Type 0} (L : A → Layout) (packed : Bool) (xs : List A) (i at : ℕ) (starts : List ℕ) : Type 0 where
  pub small : fields_end packed at (map L (drop i xs)) ≤ most_size
  pub missing : starts ++ starts_from packed at (map L (drop i xs)) ≡ starts_from packed 0 (map L xs)

pub all_left : {A : Type 0} (L : A → Layout) (packed : Bool) (xs : List A) → fields_end packed 0 (map L xs) ≤ most_size → StartsLeft L packed xs 0 0 []
all_left L packed xs small = record { small = small; missing = refl }

-- what stands at a place and after it
pub rest_at : {A : Type 0} (xs : List A) (i : ℕ) (x : A) → i < length xs → get_or xs i x ≡ x → drop i xs ≡ x ∷ drop (i + 1) xs
rest_at {A} xs i x h is = drop_more xs i x h ∙ ap (λ (z : A). z ∷ drop (i + 1) xs) is

-- what comes before the fields that are left ends soon enough, and so does the first of them
pub early : {A : Type 0} (L : A → Layout) (packed : Bool) (xs : List A) (i at : ℕ) (starts : List ℕ) → StartsLeft L packed xs i at starts → at ≤ most_size
early L packed xs i at starts left = omega (arith, left.small, end_grows packed at (map L (drop i xs)))

pub ends_early : {A : Type 0} (L : A → Layout) (packed : Bool) (xs : List A) (i at : ℕ) (starts : List ℕ) (x : A) → i < length xs → get_or xs i x ≡ x
    → StartsLeft L packed xs i at starts → field_end packed at (L x) ≤ most_size
ends_early {A} L packed xs i at starts x h is left =
    let here : fields_end packed (field_end packed at (L x)) (map L (drop (i + 1) xs)) ≤ most_size =
    subst (λ (z : List A). fields_end packed at (map L z) ≤ most_size) (rest_at xs i x h is) left.small in
    omega (arith, here, end_grows packed (field_end packed at (L x)) (map L (drop (i + 1) xs)))

pub one_less : {A : Type 0} (L : A → Layout) (packed : Bool) (xs : List A) (i at : ℕ) (starts : List ℕ) (x : A) → i < length xs → get_or xs i x ≡ x
    → StartsLeft L packed xs i at starts → StartsLeft L packed xs (i + 1) (field_end packed at (L x)) (starts ++ field_start packed at (L x) ∷ [])
one_less {A} L packed xs i at starts x h is left = record {
  small = subst (λ (z : List A). fields_end packed at (map L z) ≤ most_size) (rest_at xs i x h is) left.small;
  missing =
      append_assoc starts (field_start packed at (L x) ∷ []) (starts_from packed (field_end packed at (L x)) (map L (drop (i + 1) xs)))
      ∙ sym (ap (λ (z : List A). starts ++ starts_from packed at (map L z)) (rest_at xs i x h is)) ∙ left.missing;
}

pub none_left : {A : Type 0} (L : A → Layout) (packed : Bool) (xs : List A) (i at : ℕ) (starts : List ℕ) → length xs ≤ i → StartsLeft L packed xs i at starts
    → starts ≡ starts_from packed 0 (map L xs)
none_left {A} L packed xs i at starts h left =
    sym (append-nil starts) ∙ ap (λ (z : List A). starts ++ starts_from packed at (map L z)) (sym (drop_all i xs h)) ∙ left.missing
