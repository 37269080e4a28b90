-- The first offset of the same faults, and of those of two kinds.
use Rattle.std.proofs.Common.{◌≡◌, ℕ, ◌≤◌, min, ◌⊎◌, inl, inr, Option, Some, None, arith, subst}
use Rattle.std.proofs.lemmas.Bool.{cases_lt}
use Rattle.ir_rules.specs.Faults.{IsFirst}
use Rattle.ir_repeats.specs.Least.{first_of}

pub first_same : (F G : ℕ → Type 0) → ((at : ℕ) → F at → G at) → ((at : ℕ) → G at → F at) → (found : Option ℕ) → IsFirst F found → IsFirst G found
first_same F G to back None none = λ at g. none at (back at g)
first_same F G to back (Some at) first = (to at first.0, λ other g. first.1 other (back other g))

-- the lesser of two numbers is one of them
lesser : (F : ℕ → Type 0) (a b : ℕ) → F a → F b → F (min b a)
lesser F a b f g =
    elim (cases_lt a b) [
      | inl less ↦ let is : a ≡ min b a = omega arith in subst F is f
      | inr least ↦ let is : b ≡ min b a = omega arith in subst F is g
    ]

pub first_either : (F G H : ℕ → Type 0) → ((at : ℕ) → F at → H at) → ((at : ℕ) → G at → H at) → ((at : ℕ) → H at → F at ⊎ G at)
    → (one other : Option ℕ) → IsFirst F one → IsFirst G other → IsFirst H (first_of one other)
first_either F G H left right back None other none first =
    first_same G H right (λ at h. elim (back at h) [ inl f ↦ absurd (none at f) | inr g ↦ g ]) other first
first_either F G H left right back (Some at) None first none = (
  left at first.0,
  λ more h. elim (back more h) [ inl f ↦ first.1 more f | inr g ↦ absurd (none more g) ],
)
first_either F G H left right back (Some at) (Some other) first second = (
  lesser H at other (left at first.0) (right other second.0),
  λ more h.
      elim (back more h) [
        | inl f ↦ let low : at ≤ more = first.1 more f in omega arith
        | inr g ↦ let low : other ≤ more = second.1 more g in omega arith
      ],
)
