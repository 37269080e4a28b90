-- The first named type with a name.
use Rattle.std.proofs.Common.{◌≡◌, ℕ, suc, ◌+◌, ◌<◌, ◌≤◌, inl, inr, List, [], ◌∷◌, length, Option, Some, None, refl, sym, ◌∙◌, subst, arith, slice_get, drop}
use Rattle.std.proofs.Math.ListN.{set, replicate}
use Rattle.std.proofs.lemmas.Bool.Decides.{eqb_tells}
use Rattle.std.proofs.lemmas.Option.{slice_get_within}
use Rattle.std.proofs.lemmas.List.{length-set, length-replicate}
use Rattle.std.proofs.Math.Seq.{drop-length}
use Rattle.ir_tree.specs.declared.module.NamedTy.{NamedTy}
use Rattle.ir_layout.specs.Tables.{type_of_number, first_from, AreFirst}
use Rattle.ir_layout.proofs.Slices.{get_set_same, get_set_other, get_replicate, drop_at}

some_place : (i j : ℕ) → ◌≡◌ {A = Option ℕ} (Some i) (Some j) → i ≡ j
some_place i j e = cc

-- the first one is there, and has the type that the name stands for
pub first_found : (at : ℕ) (ts : List NamedTy) (id i : ℕ) → first_from at ts id ≡ Some i
    → (k : ℕ) × (t : NamedTy) × (at + k ≡ i) × (slice_get ts k ≡ Some t) × (type_of_number ts id ≡ Some t.ty)
first_found at [] id i e = cc
first_found at (t ∷ ts) id i e =
    elim (eqb_tells t.name.0 id) [
      | inl h ↦
          let here = some_place at i (rw h.0 at e) in
          (0, t, omega (arith, here), refl, rw h.0 refl)
      | inr h ↦
          let later = first_found (at + 1) ts id i (rw h.0 at e) in
          (suc later.0, later.1, omega (arith, later.2), later.3, rw h.0 later.4)
    ]

pub none_found : (at : ℕ) (ts : List NamedTy) (id : ℕ) → first_from at ts id ≡ None → type_of_number ts id ≡ None
none_found at [] id e = refl
none_found at (t ∷ ts) id e =
    elim (eqb_tells t.name.0 id) [
      | inl h ↦ let wrong : ◌≡◌ {A = Option ℕ} (Some at) None = rw h.0 at e in cc
      | inr h ↦ rw h.0 (none_found (at + 1) ts id (rw h.0 at e))
    ]

some_option : (o p : Option ℕ) → Some o ≡ Some p → o ≡ p
some_option o p e = cc

-- a place in the table is that of a named type with the type that the name stands for
pub place_found : (ts : List NamedTy) (first : List (Option ℕ)) → AreFirst ts first → (id i : ℕ) → slice_get first id ≡ Some (Some i)
    → (t : NamedTy) × (slice_get ts i ≡ Some t) × (type_of_number ts id ≡ Some t.ty)
place_found ts first are id i e =
    let place = some_option _ _ (sym (are id (slice_get_within first id (Some i) e)) ∙ e) in
    let found = first_found 0 ts id i place in
    let same : found.0 ≡ i = omega (arith, found.2) in
    (found.1, subst (λ (k : ℕ). slice_get ts k ≡ Some found.1) same found.3, found.4)

pub no_place : (ts : List NamedTy) (first : List (Option ℕ)) → AreFirst ts first → (id : ℕ) → slice_get first id ≡ Some None → type_of_number ts id ≡ None
no_place ts first are id e = none_found 0 ts id (some_option _ _ (sym (are id (slice_get_within first id None e)) ∙ e))

-- the table for the named types from some place on
abbrev pub AreFirstFrom : ℕ → List NamedTy → List (Option ℕ) → Type 0
AreFirstFrom at ts first = (id : ℕ) → id < length first → slice_get first id ≡ Some (first_from at (drop at ts) id)

pub none_yet : (ts : List NamedTy) (n : ℕ) → AreFirstFrom (length ts) ts (replicate n None)
none_yet ts n id h =
    rw drop-length (get_replicate n id None (omega (arith, h, length-replicate {A = Option ℕ} n None)))

pub first_entered : (ts : List NamedTy) (first : List (Option ℕ)) (at : ℕ) (t : NamedTy) → slice_get ts at ≡ Some t → t.name.0 < length first
    → AreFirstFrom (at + 1) ts first → AreFirstFrom at ts (set first t.name.0 (Some at))
first_entered ts first at t here within are id h =
    let few : id < length first = omega (arith, h, length-set first t.name.0 (Some at)) in
    rw (drop_at ts at t here)
    (elim (eqb_tells t.name.0 id) [
      | inl e ↦ rw e.0 (subst (λ (n : ℕ). slice_get (set first t.name.0 (Some at)) n ≡ Some (Some at)) e.1 (get_set_same first t.name.0 (Some at) within))
      | inr e ↦ rw e.0 (get_set_other first t.name.0 id (Some at) e.1 ∙ are id few)
    ])

pub first_left : (ts : List NamedTy) (first : List (Option ℕ)) (at : ℕ) (t : NamedTy) → slice_get ts at ≡ Some t → length first ≤ t.name.0
    → AreFirstFrom (at + 1) ts first → AreFirstFrom at ts first
first_left ts first at t here without are id h =
    rw (drop_at ts at t here)
    (elim (eqb_tells t.name.0 id) [
      | inl e ↦ absurd (omega (arith, e.1))
      | inr e ↦ rw e.0 (are id h)
    ])
