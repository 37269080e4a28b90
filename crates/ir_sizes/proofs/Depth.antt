-- Named types nest no deeper than there are named types: where a name comes up again inside itself, the inner one nests less deep, and where
-- it doesn't, the inside does without it.
use Rattle.std.proofs.Common.{◌≡◌, ℕ, zero, suc, ◌-◌, ◌<◌, ◌≤◌, ◌⊎◌, inl, inr, Bool, true, false, List, [], ◌∷◌, length, Some, refl, sym, ◌∙◌, subst, arith}
use Rattle.std.specs.Prelude.{if◌then◌else◌}
use Rattle.std.specs.Str.{bytes_eq}
use Rattle.std.proofs.lemmas.List.{length-map}
use Rattle.std.proofs.lemmas.Slice.Eq.{bytes_eq-Decides}
use Rattle.ir_tree.specs.ShapeOf.{named_ty_shape, module_shape}
use Rattle.ir_tree.specs.declared.module.Module.{Module}
use Rattle.ir_tree.specs.Shape.{TyShape, TyShapes, integer, pointer, void, array, structure, named, no_types, types, NamedTyShape}
use Rattle.ir_layout.specs.declared.sizes.Layout.{Layout}
use Rattle.ir_layout.specs.Rules.{LaidBy, AreLaidBy, named_ty, NameHasWithin, HasLayout}
use Rattle.ir_layout.proofs.Relations.{SaysMore, laid_more, within_more, one_layout}

-- either two names are the same, or they are not
abbrev pub Tells : List ℕ → List ℕ → Type 0
Tells x y = ((bytes_eq x y ≡ true) × (x ≡ y)) ⊎ ((bytes_eq x y ≡ false) × (x ≡ y → ⊥))

same_name : (x y : List ℕ) → Tells x y
same_name x y = tells (bytes_eq x y) refl
  where
    tells : (b : Bool) → bytes_eq x y ≡ b → Tells x y
    tells true is = inl (is, (bytes_eq-Decides x y).0 is)
    tells false is = inr (is, λ e. let yes : bytes_eq x y ≡ true = (bytes_eq-Decides x y).1 e in cc)

-- the named types without those of a name
abbrev pub without : List ℕ → List NamedTyShape → List NamedTyShape
without name [] = []
without name (t ∷ ts) = if bytes_eq t.name name then without name ts else t ∷ without name ts

without_shorter : (name : List ℕ) (ts : List NamedTyShape) → length (without name ts) ≤ length ts
without_shorter name [] = omega arith
without_shorter name (t ∷ ts) =
    elim (same_name t.name name) [
      | inl h ↦ rw h.0 (omega (arith, without_shorter name ts))
      | inr h ↦ rw h.0 (omega (arith, without_shorter name ts))
    ]

without_less : (name : List ℕ) (ts : List NamedTyShape) (u : TyShape) → named_ty ts name ≡ Some u → length (without name ts) < length ts
without_less name [] u stands = cc
without_less name (t ∷ ts) u stands =
    elim (same_name t.name name) [
      | inl h ↦ rw h.0 (omega (arith, without_shorter name ts))
      | inr h ↦ rw h.0 (omega (arith, without_less name ts u (rw h.0 at stands)))
    ]

-- other names stand for what they did
without_keeps : (name other : List ℕ) (ts : List NamedTyShape) (u : TyShape) → (other ≡ name → ⊥) → named_ty ts other ≡ Some u
    → named_ty (without name ts) other ≡ Some u
without_keeps name other [] u apart stands = cc
without_keeps name other (t ∷ ts) u apart stands =
    elim (same_name t.name name) [
      | inl h ↦ elim (same_name t.name other) [
        | inl k ↦ absurd (apart (sym k.1 ∙ h.1))
        | inr k ↦ rw h.0 (without_keeps name other ts u apart (rw k.0 at stands))
      ]
      | inr h ↦ elim (same_name t.name other) [
        | inl k ↦ rw (h.0, k.0) (rw k.0 at stands)
        | inr k ↦ rw (h.0, k.0) (without_keeps name other ts u apart (rw k.0 at stands))
      ]
    ]

none_left : (name : List ℕ) (ts : List NamedTyShape) (u : TyShape) → named_ty (without name ts) name ≡ Some u → ⊥
none_left name [] u stands = cc
none_left name (t ∷ ts) u stands =
    elim (same_name t.name name) [
      | inl h ↦ none_left name ts u (rw h.0 at stands)
      | inr h ↦ none_left name ts u (rw (h.0, h.0) at stands)
    ]

without_has : (name other : List ℕ) (ts : List NamedTyShape) (u : TyShape) → named_ty (without name ts) other ≡ Some u → named_ty ts other ≡ Some u
without_has name other [] u stands = stands
without_has name other (t ∷ ts) u stands =
    elim (same_name t.name name) [
      | inl h ↦ elim (same_name t.name other) [
        | inl k ↦ absurd (none_left name ts u (subst (λ (z : List ℕ). named_ty (without name ts) z ≡ Some u) (sym k.1 ∙ h.1) (rw h.0 at stands)))
        | inr k ↦ rw k.0 (without_has name other ts u (rw h.0 at stands))
      ]
      | inr h ↦ elim (same_name t.name other) [
        | inl k ↦ rw k.0 (rw (h.0, k.0) at stands)
        | inr k ↦ rw k.0 (without_has name other ts u (rw (h.0, k.0) at stands))
      ]
    ]

with_more : (name : List ℕ) (ts : List NamedTyShape) (d : ℕ) → SaysMore (NameHasWithin d (without name ts)) (NameHasWithin d ts)
unfolding NameHasWithin
with_more name ts zero other l none = absurd none
with_more name ts (suc d) other l (t, stands, has) =
    (t, without_has name other ts t stands, laid_more (NameHasWithin d (without name ts)) (NameHasWithin d ts) (with_more name ts d) t l has)

-- where each name has its layout by another relation or else a fact holds, so does a type
mutual
  unfolding LaidBy AreLaidBy

  laid_or : (N M : List ℕ → Layout → Type 0) (Q : Type 0) → ((name : List ℕ) (l : Layout) → N name l → M name l ⊎ Q)
      → (t : TyShape) (l : Layout) → LaidBy N t l → LaidBy M t l ⊎ Q
  laid_or N M Q h (integer bits) l is = inl is
  laid_or N M Q h pointer l is = inl is
  laid_or N M Q h void l none = inl none
  laid_or N M Q h (array count t) l (element, has, small, is) =
      elim (laid_or N M Q h t element has) [
        | inl one ↦ inl (element, one, small, is)
        | inr q ↦ inr q
      ]
  laid_or N M Q h (structure row packed) l (fields, have, small, is) =
      elim (are_laid_or N M Q h row fields have) [
        | inl all ↦ inl (fields, all, small, is)
        | inr q ↦ inr q
      ]
  laid_or N M Q h (named name) l has = h name l has

  are_laid_or : (N M : List ℕ → Layout → Type 0) (Q : Type 0) → ((name : List ℕ) (l : Layout) → N name l → M name l ⊎ Q)
      → (row : TyShapes) (ls : List Layout) → AreLaidBy N row ls → AreLaidBy M row ls ⊎ Q
  are_laid_or N M Q h no_types [] have = inl have
  are_laid_or N M Q h no_types (l ∷ ls) none = inl none
  are_laid_or N M Q h (types t row) [] none = inl none
  are_laid_or N M Q h (types t row) (l ∷ ls) (has, have) =
      elim (laid_or N M Q h t l has) [
        | inl one ↦ elim (are_laid_or N M Q h row ls have) [
          | inl rest ↦ inl (one, rest)
          | inr q ↦ inr q
        ]
        | inr q ↦ inr q
      ]

-- the name has a layout in which named types nest no deeper than this
abbrev pub ComesUp : List NamedTyShape → List ℕ → ℕ → Type 0
ComesUp ts name d = (e : ℕ) × (l : Layout) × (e ≤ d) × NameHasWithin e ts name l

comes_up : (ts : List NamedTyShape) (name : List ℕ) (d : ℕ) (other : List ℕ) (l : Layout) → NameHasWithin d ts other l
    → NameHasWithin d (without name ts) other l ⊎ ComesUp ts name d
unfolding NameHasWithin
comes_up ts name zero other l none = absurd none
comes_up ts name (suc d) other l (t, stands, has) =
    elim (same_name other name) [
      | inl h ↦ inr (suc d, l, omega arith, subst (λ (z : List ℕ). NameHasWithin (suc d) ts z l) h.1 (t, stands, has))
      | inr h ↦
          elim (laid_or (NameHasWithin d ts) (NameHasWithin d (without name ts)) (ComesUp ts name d) (comes_up ts name d) t l has) [
            | inl inside ↦ inl (t, without_keeps name other ts t h.1 stands, inside)
            | inr up ↦ inr (up.0, up.1, omega (arith, up.2), up.3)
          ]
    ]

-- in a name's layout named types nest no deeper than there are named types
abbrev pub IsShallow : List NamedTyShape → Type 0
IsShallow ts = (d : ℕ) → SaysMore (NameHasWithin d ts) (NameHasWithin (length ts) ts)

-- a name that doesn't come up inside itself
shallow_without : (ts : List NamedTyShape) (name : List ℕ) (t : TyShape) (l : Layout) (d : ℕ) → named_ty ts name ≡ Some t → IsShallow (without name ts)
    → LaidBy (NameHasWithin d (without name ts)) t l → NameHasWithin (length ts) ts name l
unfolding NameHasWithin
shallow_without ts name t l d stands shallow inside =
    let less = without_less name ts t stands in
    let most : ℕ = length ts - 1 in
    let next : suc most ≡ length ts = omega (arith, less) in
    let few : length (without name ts) ≤ most = omega (arith, less) in
    let fewer = laid_more (NameHasWithin d (without name ts)) (NameHasWithin (length (without name ts)) (without name ts)) (shallow d) t l inside in
    let back = laid_more (NameHasWithin (length (without name ts)) (without name ts)) (NameHasWithin (length (without name ts)) ts)
    (with_more name ts (length (without name ts))) t l fewer in
    let all = laid_more (NameHasWithin (length (without name ts)) ts) (NameHasWithin most ts) (within_more ts (length (without name ts)) most few) t l back in
    subst (λ (n : ℕ). NameHasWithin n ts name l) next (t, stands, all)

one_within : (ts : List NamedTyShape) (name : List ℕ) (d e : ℕ) (l k : Layout) → NameHasWithin d ts name l → NameHasWithin e ts name k → l ≡ k
unfolding LaidBy AreLaidBy
one_within ts name d e l k has gives = one_layout ts (named name) l k (d, has) (e, gives)

-- from shorter lists to this one
shallow_next : (ts : List NamedTyShape) → ((others : List NamedTyShape) → length others < length ts → IsShallow others) → (most d : ℕ) → d < most
    → SaysMore (NameHasWithin d ts) (NameHasWithin (length ts) ts)
unfolding NameHasWithin
shallow_next ts shorter zero d below name l has = absurd (omega arith)
shallow_next ts shorter (suc most) zero below name l none = absurd none
shallow_next ts shorter (suc most) (suc d) below name l (t, stands, has) =
    elim (laid_or (NameHasWithin d ts) (NameHasWithin d (without name ts)) (ComesUp ts name d) (comes_up ts name d) t l has) [
      | inl inside ↦ shallow_without ts name t l d stands (shorter (without name ts) (without_less name ts t stands)) inside
      | inr up ↦
          let same = one_within ts name up.0 (suc d) up.1 l up.3 (t, stands, has) in
          subst (λ (k : Layout). NameHasWithin (length ts) ts name k) same
          (shallow_next ts shorter most up.0 (omega (arith, below, up.2)) name up.1 up.3)
    ]

shallow : (n : ℕ) (ts : List NamedTyShape) → length ts < n → IsShallow ts
shallow zero ts below d name l has = absurd (omega arith)
shallow (suc n) ts below d name l has =
    shallow_next ts (λ others less. shallow n others (omega (arith, below, less))) (suc d) d (omega arith) name l has

pub no_deeper : (ts : List NamedTyShape) (t : TyShape) (l : Layout) → HasLayout ts t l → LaidBy (NameHasWithin (length ts) ts) t l
no_deeper ts t l (d, has) =
    laid_more (NameHasWithin d ts) (NameHasWithin (length ts) ts) (shallow (suc (length ts)) ts (omega arith) d) t l has

-- a module's shape has as many named types as the module
pub as_many_types : (m : Module) (n : ℕ) → n ≡ length m.types.items → n ≡ length (module_shape m).types
as_many_types m n e = e ∙ sym (length-map m.types.items (named_ty_shape m.names))
