-- Tables of first items, filled from the last item to the first one.
use Rattle.std.proofs.Common.{◌≡◌, ℕ, ◌+◌, ◌<◌, ◌≤◌, inl, inr, List, length, Option, Some, None, refl, ◌∙◌, subst, arith, slice_get, drop}
use Rattle.std.proofs.Math.ListN.{set, replicate}
use Rattle.std.proofs.lemmas.Bool.Decides.{eqb_tells}
use Rattle.std.proofs.lemmas.List.{length-set, length-replicate}
use Rattle.std.proofs.Math.Seq.{drop-length}
use Rattle.std.specs.List.{position_from}
use Rattle.ir_tree.specs.declared.names.NameId.{NameId}
use Rattle.ir_layout.proofs.Slices.{get_set_same, get_set_other, get_replicate, drop_at}
use Rattle.ir_names.specs.Numbers.{has_number}

-- which is the first item with a number, among those from some place on
abbrev pub first_from : ℕ → List (Option NameId) → ℕ → Option ℕ
first_from at ids number = position_from (has_number number) at (drop at ids)

pub none_left : (ids : List (Option NameId)) (number : ℕ) → first_from (length ids) ids number ≡ None
none_left ids number = rw drop-length refl

-- one item more
pub first_unnamed : (ids : List (Option NameId)) (at number : ℕ) → slice_get ids at ≡ Some None → first_from at ids number ≡ first_from (at + 1) ids number
first_unnamed ids at number here = rw (drop_at ids at None here) refl

pub first_same : (ids : List (Option NameId)) (at : ℕ) (id : NameId) → slice_get ids at ≡ Some (Some id) → first_from at ids id.0 ≡ Some at
first_same ids at id here =
    rw (drop_at ids at (Some id) here)
    (elim (eqb_tells id.0 id.0) [
      | inl e ↦ rw e.0 refl
      | inr e ↦ absurd (e.1 refl)
    ])

pub first_other : (ids : List (Option NameId)) (at number : ℕ) (id : NameId) → slice_get ids at ≡ Some (Some id) → (id.0 ≡ number → ⊥)
    → first_from at ids number ≡ first_from (at + 1) ids number
first_other ids at number id here apart =
    rw (drop_at ids at (Some id) here)
    (elim (eqb_tells id.0 number) [
      | inl e ↦ absurd (apart e.1)
      | inr e ↦ rw e.0 refl
    ])

-- a table has the first items for all numbers below its length, among those from some place on
abbrev pub AreFirstFrom : ℕ → List (Option NameId) → List (Option ℕ) → Type 0
AreFirstFrom at ids firsts = (number : ℕ) → number < length firsts → slice_get firsts number ≡ Some (first_from at ids number)

pub none_yet : (ids : List (Option NameId)) (n : ℕ) → AreFirstFrom (length ids) ids (replicate n None)
none_yet ids n number h = rw (none_left ids number) (get_replicate n number None (omega (arith, h, length-replicate {A = Option ℕ} n None)))

pub entered : (ids : List (Option NameId)) (firsts : List (Option ℕ)) (at : ℕ) (id : NameId) → slice_get ids at ≡ Some (Some id) → id.0 < length firsts
    → AreFirstFrom (at + 1) ids firsts → AreFirstFrom at ids (set firsts id.0 (Some at))
entered ids firsts at id here within are number h =
    let few : number < length firsts = omega (arith, h, length-set firsts id.0 (Some at)) in
    elim (eqb_tells id.0 number) [
      | inl e ↦
          subst (λ (n : ℕ). slice_get (set firsts id.0 (Some at)) n ≡ Some (first_from at ids n)) e.1
          (rw (first_same ids at id here) (get_set_same firsts id.0 (Some at) within))
      | inr e ↦ rw (first_other ids at number id here e.1) (get_set_other firsts id.0 number (Some at) e.1 ∙ are number few)
    ]

pub passed : (ids : List (Option NameId)) (firsts : List (Option ℕ)) (at : ℕ) (id : NameId) → slice_get ids at ≡ Some (Some id) → length firsts ≤ id.0
    → AreFirstFrom (at + 1) ids firsts → AreFirstFrom at ids firsts
passed ids firsts at id here without are number h =
    let apart : id.0 ≡ number → ⊥ = λ e. omega (arith, e) in
    rw (first_other ids at number id here apart) (are number h)

pub passed_unnamed : (ids : List (Option NameId)) (firsts : List (Option ℕ)) (at : ℕ) → slice_get ids at ≡ Some None
    → AreFirstFrom (at + 1) ids firsts → AreFirstFrom at ids firsts
passed_unnamed ids firsts at here are number h = rw (first_unnamed ids at number here) (are number h)
