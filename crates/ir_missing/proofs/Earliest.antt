-- The first of the offsets with a fault, of two kinds of faults.
use Rattle.std.proofs.Common.{◌≡◌, ℕ, ◌+◌, ◌<◌, min, ◌⊎◌, inl, inr, Option, Some, None, sym, subst, arith}
use Rattle.std.proofs.lemmas.Bool.Decides.{eqb_tells}
use Rattle.ir_rules.specs.Faults.{IsFirst}
use Rattle.ir_missing.specs.Missing.{earlier}

least : (F G H : ℕ → Type 0) (x y : ℕ) → IsFirst F (Some x) → IsFirst G (Some y) → ((at : ℕ) → H at → F at ⊎ G at) → ((at : ℕ) → F at → H at)
    → ((at : ℕ) → G at → H at) → (min x y ≡ x) ⊎ (min x y ≡ y) → IsFirst H (Some (min x y))
least F G H x y f g split left right which = (
  elim which [
    | inl e ↦ subst H (sym e) (left x f.0)
    | inr e ↦ subst H (sym e) (right y g.0)
  ],
  λ other h.
      elim (split other h) [
        | inl is ↦ omega (arith, f.1 other is)
        | inr is ↦ omega (arith, g.1 other is)
      ],
)

-- the least number is one of both
one_of_both : (x y : ℕ) → (min x y ≡ x) ⊎ (min x y ≡ y)
one_of_both x y = grind arith

-- faults of two kinds together
pub first_both : (F G H : ℕ → Type 0) (a b : Option ℕ) → IsFirst F a → IsFirst G b → ((at : ℕ) → H at → F at ⊎ G at) → ((at : ℕ) → F at → H at)
    → ((at : ℕ) → G at → H at) → IsFirst H (earlier a b)
first_both F G H None None f g split left right =
    λ at h.
    elim (split at h) [
      | inl is ↦ f at is
      | inr is ↦ g at is
    ]
first_both F G H None (Some y) f g split left right = (
  right y g.0,
  λ other h.
      elim (split other h) [
        | inl is ↦ absurd (f other is)
        | inr is ↦ g.1 other is
      ],
)
first_both F G H (Some x) None f g split left right = (
  left x f.0,
  λ other h.
      elim (split other h) [
        | inl is ↦ f.1 other is
        | inr is ↦ absurd (g other is)
      ],
)
first_both F G H (Some x) (Some y) f g split left right = least F G H x y f g split left right (one_of_both x y)

-- faults that are the same
pub first_same : (F G : ℕ → Type 0) (a : Option ℕ) → IsFirst F a → ((at : ℕ) → G at → F at) → ((at : ℕ) → F at → G at) → IsFirst G a
first_same F G None f back forth = λ at g. f at (back at g)
first_same F G (Some x) f back forth = (forth x f.0, λ other g. f.1 other (back other g))

-- one of a family more
abbrev pub Below : (ℕ → ℕ → Type 0) → ℕ → ℕ → Type 0
Below F k at = (j : ℕ) × (j < k) × F j at

pub first_none : (F : ℕ → ℕ → Type 0) → IsFirst (Below F 0) None
first_none F at (j, below, is) = absurd (omega arith)

pub first_more : (F : ℕ → ℕ → Type 0) (k : ℕ) (a b : Option ℕ) → IsFirst (Below F k) a → IsFirst (F k) b → IsFirst (Below F (k + 1)) (earlier a b)
first_more F k a b before here =
    first_both (Below F k) (F k) (Below F (k + 1)) a b before here
    (λ at (j, below, is). last j at below is)
    (λ at (j, below, is). (j, omega (arith, below), is))
    (λ at is. (k, omega arith, is))
  where
    last : (j at : ℕ) → j < k + 1 → F j at → Below F k at ⊎ F k at
    last j at below is =
        elim (eqb_tells j k) [
          | inl e ↦ inr (subst (λ (n : ℕ). F n at) e.1 is)
          | inr e ↦ inl (j, omega (arith, e.1), is)
        ]

-- all of a family
pub first_all : (F : ℕ → ℕ → Type 0) (k : ℕ) (a : Option ℕ) → ((j at : ℕ) → F j at → j < k) → IsFirst (Below F k) a → IsFirst (λ at. (j : ℕ) × F j at) a
first_all F k a within f =
    first_same (Below F k) (λ at. (j : ℕ) × F j at) a f (λ at (j, is). (j, within j at is, is)) (λ at (j, below, is). (j, is))
