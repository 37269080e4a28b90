-- A binary search in a sorted list of points finds a point exactly where the list has it.
use Rattle.std.proofs.Common.{◌≡◌, ◌<◌, ◌≤◌, ◌+◌, ◌⊎◌, inl, inr, ℕ, false, List, length, Result, Ok, Err, refl, ap, sym, ◌∙◌, arith, get_or}
use Rattle.std.specs.Prelude.{IsTrue, Contains, ◌↔◌}
use Rattle.std.proofs.lemmas.Bool.{cases_lt}
use Rattle.std.proofs.lemmas.Bool.Decides.{nat_tests}
use Rattle.std.proofs.lemmas.Cmp.{nat_cmp_total, on_total, then_total, tied_itself}
use Rattle.std.proofs.lemmas.List.Sorted.{searchable_from_sorted}
use Rattle.std.specs.declared.cmp.Ordering.{Ordering}
use Rattle.std.specs.declared.cmp.Ordering.TheVariants.{Less, Equal, Greater}
use Rattle.std.specs.Ordering.{nat_cmp, then_cmp, on, is_lt, ordering_then}
use Rattle.std.specs.Result.{is_err}
use Rattle.std.specs.List.Sorted.{IsBinarySearchResult, IsSearchInRange, IsSortedBy, IsPartitionPoint}
use Rattle.std.specs.Cmp.{IsTotalOrder}
use Rattle.point_list.specs.Points.{IsBefore, AreSorted}
use Rattle.point_list.specs.declared.list.Point.{Point}

-- by address and then register
abbrev pub point_cmp : Point → Point → Ordering
point_cmp = then_cmp (on (λ p. p.pc) nat_cmp) (on (λ p. p.reg) nat_cmp)

point_cmp_total : IsTotalOrder point_cmp
point_cmp_total = then_total (on_total (λ p. p.pc) nat_cmp_total) (on_total (λ p. p.reg) nat_cmp_total)

cmp_above : (a b : ℕ) → b < a → nat_cmp a b ≡ Greater
cmp_above a b h = grind (arith, nat_tests)

cmp_itself : (a b : ℕ) → a ≡ b → nat_cmp a b ≡ Equal
cmp_itself a b h = grind (arith, nat_tests)

cmp_equal : (a b : ℕ) → nat_cmp a b ≡ Equal → a ≡ b
cmp_equal a b h = grind (arith, nat_tests)

-- a later point is not less
not_less : (p q : Point) → IsBefore p q → is_lt (point_cmp q p) ≡ false
not_less p q (inl h) = rw (cmp_above q.pc p.pc h)
not_less p q (inr (e, h)) = rw (cmp_itself q.pc p.pc (sym e), cmp_above q.reg p.reg h)

sorted_by : (ps : List Point) → AreSorted ps → IsSortedBy (λ x y. is_lt (point_cmp x y)) ps
sorted_by ps up k d low high = not_less (get_or ps k d) (get_or ps (k + 1) d) (up k (k + 1) d (omega arith) high)

then_equal : (o s : Ordering) → ordering_then o s ≡ Equal → (o ≡ Equal) × (s ≡ Equal)
then_equal Less s e = absurd (cc)
then_equal Equal s e = (refl, e)
then_equal Greater s e = absurd (cc)

pub same_fields : (p q : Point) → p.pc ≡ q.pc → p.reg ≡ q.reg → p ≡ q
same_fields p q e f =
    let first : p ≡ record { pc = q.pc; reg = p.reg } = ap (λ (n : ℕ). record p { pc = n }) e in
    let second : (record { pc = q.pc; reg = p.reg }) ≡ q = ap (λ (n : ℕ). record q { reg = n }) f in
    first ∙ second

same_point : (p q : Point) → point_cmp p q ≡ Equal → p ≡ q
same_point p q e =
    let both = then_equal (nat_cmp p.pc q.pc) (nat_cmp p.reg q.reg) e in
    same_fields p q (cmp_equal p.pc q.pc both.0) (cmp_equal p.reg q.reg both.1)

-- a search that finds nothing has passed every point
none_found : (ps : List Point) (x : Point) (i : ℕ) → AreSorted ps → IsBinarySearchResult (λ y. point_cmp y x) ps (Err i) → Contains ps x → ⊥
none_found ps x i up found (k, low, at) = past (cases_lt k i)
  where
    split : IsPartitionPoint (λ y. point_cmp y x ≡ Less) (λ y. point_cmp y x ≡ Greater) ps i
    split = found (searchable_from_sorted point_cmp_total (λ (p : Point). p) ps x (sorted_by ps up))

    same : point_cmp (get_or ps k x) x ≡ Equal
    same = ap (λ p. point_cmp p x) at ∙ tied_itself point_cmp_total x

    past : (k < i) ⊎ (i ≤ k) → ⊥
    past (inl before) = let less = split.0 k x (omega arith) before in cc same
    past (inr behind) = let greater = split.1 k x behind low in cc same

pub search_outside : (ps : List Point) (x : Point) (r : Result ℕ ℕ) → AreSorted ps → IsSearchInRange r (length ps) → IsBinarySearchResult (λ y. point_cmp y x) ps r → IsTrue (is_err r) ↔ (Contains ps x → ⊥)
search_outside ps x (Ok i) up within found = (λ h. absurd (cc), λ none. absurd (none (i, within, same_point (get_or ps i x) x (found x))))
search_outside ps x (Err i) up within found = (λ h. none_found ps x i up found, λ none. refl)
