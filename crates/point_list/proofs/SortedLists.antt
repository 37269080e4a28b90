-- Two sorted lists of the same points are one.
use Rattle.std.proofs.Common.{◌≡◌, ◌⊎◌, inl, inr, zero, suc, List, [], ◌∷◌, refl, ap, sym, ◌∙◌, subst, arith}
use Rattle.std.specs.Prelude.{Contains}
use Rattle.point_list.specs.Points.{IsBefore, AreSorted}
use Rattle.point_list.specs.declared.list.Point.{Point}

sorted_tail : (p : Point) (ps : List Point) → AreSorted (p ∷ ps) → AreSorted ps
sorted_tail p ps up i j d h k = up (suc i) (suc j) d (omega arith) (omega arith)

contains_cases : (p : Point) (ps : List Point) (x : Point) → Contains (p ∷ ps) x → (x ≡ p) ⊎ Contains ps x
contains_cases p ps x (zero, h, is) = inl (sym is)
contains_cases p ps x (suc k, h, is) = inr (k, omega arith, is)

contains_head : (p : Point) (ps : List Point) → Contains (p ∷ ps) p
contains_head p ps = (0, omega arith, refl)

contains_tail : (p : Point) (ps : List Point) (x : Point) → Contains ps x → Contains (p ∷ ps) x
contains_tail p ps x (k, h, is) = (suc k, omega arith, is)

nothing_in : (x : Point) → Contains [] x → ⊥
nothing_in x (k, h, is) = omega arith

before_rest : (p : Point) (ps : List Point) (x : Point) → AreSorted (p ∷ ps) → Contains ps x → IsBefore p x
before_rest p ps x up (k, h, is) = subst (IsBefore p) is (up 0 (suc k) x (omega arith) (omega arith))

not_both : (p q : Point) → IsBefore p q → IsBefore q p → ⊥
not_both p q (inl h) (inl k) = omega arith
not_both p q (inl h) (inr k) = omega arith
not_both p q (inr h) (inl k) = omega arith
not_both p q (inr h) (inr k) = omega arith

same_head : (p q : Point) (ps qs : List Point) → AreSorted (p ∷ ps) → AreSorted (q ∷ qs) → (p ≡ q) ⊎ Contains qs p → (q ≡ p) ⊎ Contains ps q → p ≡ q
same_head p q ps qs up vp (inl e) at = e
same_head p q ps qs up vp (inr c) (inl e) = sym e
same_head p q ps qs up vp (inr c) (inr d) = absurd (not_both p q (before_rest p ps q up d) (before_rest q qs p vp c))

-- what the tail of one list has, the tail of the other has
in_tail : (p q : Point) (ps qs : List Point) → AreSorted (p ∷ ps) → p ≡ q → (x : Point) → Contains ps x → (x ≡ q) ⊎ Contains qs x → Contains qs x
in_tail p q ps qs up same x c (inr d) = d
in_tail p q ps qs up same x c (inl e) =
    let before = before_rest p ps x up c in
    let P : Point → Type 0 = λ y. IsBefore y x in
    absurd (not_both x x (subst P (same ∙ sym e) before) (subst P (same ∙ sym e) before))

pub sorted_same : (ps qs : List Point) → AreSorted ps → AreSorted qs → ((x : Point) → Contains ps x → Contains qs x) → ((x : Point) → Contains qs x → Contains ps x) → ps ≡ qs
sorted_same [] [] up vp there back = refl
sorted_same [] (q ∷ qs) up vp there back = absurd (nothing_in q (back q (contains_head q qs)))
sorted_same (p ∷ ps) [] up vp there back = absurd (nothing_in p (there p (contains_head p ps)))
sorted_same (p ∷ ps) (q ∷ qs) up vp there back =
    let same = same_head p q ps qs up vp (contains_cases q qs p (there p (contains_head p ps))) (contains_cases p ps q (back q (contains_head q qs))) in
    let rest = sorted_same ps qs (sorted_tail p ps up) (sorted_tail q qs vp)
    (λ x c. in_tail p q ps qs up same x c (contains_cases q qs x (there x (contains_tail p ps x c))))
    (λ x c. in_tail q p qs ps vp (sym same) x c (contains_cases p ps x (back x (contains_tail q qs x c)))) in
    ap (λ (y : Point). y ∷ ps) same ∙ ap (λ (ys : List Point). q ∷ ys) rest
