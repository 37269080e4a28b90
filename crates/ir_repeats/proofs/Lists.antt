-- Elements of lists by their places, and the lists of entries.
use Rattle.std.proofs.Common.{◌≡◌, ℕ, zero, suc, ◌+◌, inl, inr, ◌⊎◌, List, [], ◌∷◌, ◌++◌, Some, refl, sym, ◌∙◌, ap, subst, arith, slice_get, drop}
use Rattle.ir_layout.proofs.Slices.{drop_at}
use Rattle.ir_tree.specs.declared.names.NameId.{NameId}
use Rattle.ir_repeats.specs.declared.entries.Item.{Item}
use Rattle.ir_repeats.specs.declared.entries.Entry.{Entry}
use Rattle.ir_repeats.specs.Entries.{entries_from}

pub left_of : {X : Type 0} (xs ys : List X) (j : ℕ) (x : X) → slice_get xs j ≡ Some x → slice_get (xs ++ ys) j ≡ Some x
left_of [] ys j x e = cc
left_of (y ∷ xs) ys zero x e = e
left_of (y ∷ xs) ys (suc j) x e = left_of xs ys j x e

pub right_of : {X : Type 0} (xs ys : List X) (j : ℕ) (x : X) → slice_get ys j ≡ Some x → (k : ℕ) × (slice_get (xs ++ ys) k ≡ Some x)
right_of [] ys j x e = (j, e)
right_of (y ∷ xs) ys j x e = let rest = right_of xs ys j x e in (suc rest.0, rest.1)

pub either_of : {X : Type 0} (xs ys : List X) (j : ℕ) (x : X) → slice_get (xs ++ ys) j ≡ Some x
    → ((k : ℕ) × (slice_get xs k ≡ Some x)) ⊎ ((k : ℕ) × (slice_get ys k ≡ Some x))
either_of [] ys j x e = inr (j, e)
either_of (y ∷ xs) ys zero x e = inl (0, e)
either_of (y ∷ xs) ys (suc j) x e =
    elim (either_of xs ys j x e) [
      | inl h ↦ inl (suc h.0, h.1)
      | inr h ↦ inr h
    ]

append_assoc : {X : Type 0} (xs : List X) (y : X) (zs : List X) → (xs ++ y ∷ []) ++ zs ≡ xs ++ y ∷ zs
append_assoc [] y zs = refl
append_assoc (x ∷ xs) y zs = ap (λ (r : _). x ∷ r) (append_assoc xs y zs)

-- one entry more
pub entry_pushed : {X : Type 0} (name : X → NameId) (kind : ℕ → Item) (es : List Entry) (xs : List X) (spots : List ℕ) (at : ℕ) (x : X) (s : ℕ)
    → slice_get xs at ≡ Some x → slice_get spots at ≡ Some s
    → (es ++ (record { name = name x; item = kind at; spot = s }) ∷ []) ++ entries_from name kind (at + 1) (drop (at + 1) xs) (drop (at + 1) spots)
    ≡ es ++ entries_from name kind at (drop at xs) (drop at spots)
entry_pushed name kind es xs spots at x s here spot =
    rw (drop_at xs at x here, drop_at spots at s spot) (append_assoc es _ _)

-- an entry is that of an item and its offset
pub record IsEntryOf {X : Type 0} (name : X → NameId) (kind : ℕ → Item) (xs : List X) (spots : List ℕ) (from : ℕ) (j : ℕ) (e : Entry) : Type 0 where
  pub x : X
  pub is_item : slice_get xs j ≡ Some x
  pub spotted : slice_get spots j ≡ Some e.spot
  pub named : e.name ≡ name x
  pub of_kind : e.item ≡ kind (from + j)

pub entry_found : {X : Type 0} (name : X → NameId) (kind : ℕ → Item) (k : ℕ) (xs : List X) (spots : List ℕ) (j : ℕ) (e : Entry)
    → slice_get (entries_from name kind k xs spots) j ≡ Some e → IsEntryOf name kind xs spots k j e
entry_found name kind k [] spots j e h = cc
entry_found name kind k (x ∷ xs) [] j e h = cc
entry_found name kind k (x ∷ xs) (s ∷ spots) zero e h =
    let same : (record { name = name x; item = kind k; spot = s }) ≡ e = cc in
    let number : k + 0 ≡ k = omega arith in
    subst (λ (z : Entry). IsEntryOf name kind (x ∷ xs) (s ∷ spots) k 0 z) same
    (record { x = x; is_item = refl; spotted = refl; named = refl; of_kind = ap kind (sym number) })
entry_found name kind k (x ∷ xs) (s ∷ spots) (suc j) e h =
    let rest = entry_found name kind (k + 1) xs spots j e h in
    let number : (k + 1) + j ≡ k + suc j = omega arith in
    record { x = rest.x; is_item = rest.is_item; spotted = rest.spotted; named = rest.named; of_kind = rest.of_kind ∙ ap kind number }

pub entry_there : {X : Type 0} (name : X → NameId) (kind : ℕ → Item) (k : ℕ) (xs : List X) (spots : List ℕ) (j : ℕ) (x : X) (s : ℕ)
    → slice_get xs j ≡ Some x → slice_get spots j ≡ Some s
    → slice_get (entries_from name kind k xs spots) j ≡ Some (record { name = name x; item = kind (k + j); spot = s })
entry_there name kind k [] spots j x s here spot = cc
entry_there name kind k (y ∷ xs) [] j x s here spot = cc
entry_there name kind k (y ∷ xs) (t ∷ spots) zero x s here spot =
    let item : y ≡ x = cc in
    let place : t ≡ s = cc in
    let number : k + 0 ≡ k = omega arith in
    rw (item, place, number) refl
entry_there name kind k (y ∷ xs) (t ∷ spots) (suc j) x s here spot =
    let number : (k + 1) + j ≡ k + suc j = omega arith in
    rw number at (entry_there name kind (k + 1) xs spots j x s here spot)
