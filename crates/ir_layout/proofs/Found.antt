-- The computed layout is the one that the rules give.
use Rattle.std.proofs.Common.{◌≡◌, ℕ, ◌+◌, ◌-◌, ◌*◌, ◌/◌, ◌<◌, ◌≤◌, inl, inr, Bool, true, false, List, [], ◌∷◌, map, Option, Some, None, refl, sym, ap, arith, nat_le, if◌then◌else◌}
use Rattle.std.proofs.lemmas.Bool.{leb-true, le-leb}
use Rattle.std.proofs.lemmas.Bool.Decides.{eqb_tells}
use Rattle.ir_layout.specs.declared.sizes.Layout.{Layout}
use Rattle.ir_layout.specs.Layout.{most_size, next_multiple, array_layout, field_start, field_end, fields_end, wider_align, fields_align, rounded_up}
use Rattle.ir_layout.specs.Computed.{within_most, array_of, structure_from}

some_same : (l k : Layout) → Some l ≡ Some k → l ≡ k
some_same l k e = cc

if_some : (b : Bool) (o : Option Layout) (l : Layout) → (if b then o else None) ≡ Some l → (b ≡ true) × (o ≡ Some l)
if_some true o l e = (refl, e)
if_some false o l e = cc

pub within_found : (m l : Layout) → within_most m ≡ Some l → (m.size ≤ most_size) × (l ≡ m)
within_found m l e =
    let parts = if_some (nat_le m.size most_size) (Some m) l e in
    (leb-true m.size most_size parts.0, sym (some_same m l parts.1))

pub within_gives : (m : Layout) → m.size ≤ most_size → within_most m ≡ Some m
within_gives m small = rw (le-leb m.size most_size small) refl

-- so many elements

pub array_found : (count : ℕ) (o : Option Layout) (l : Layout) → array_of count o ≡ Some l
    → (element : Layout) × (o ≡ Some element) × (count * element.size ≤ most_size) × (l ≡ array_layout count element)
array_found count None l e = cc
array_found count (Some element) l e =
    let found = within_found (array_layout count element) l e in
    (element, refl, found.0, found.1)

-- what is rounded up doesn't become less
up_grows : (align at : ℕ) → 0 < align → at ≤ (at + (align - 1)) / align * align
up_grows align at h = omega arith

pub next_grows : (align at : ℕ) → at ≤ next_multiple align at
next_grows align at =
    elim (eqb_tells align 0) [
      | inl h ↦ rw h.0 (omega arith)
      | inr h ↦ rw h.0 (up_grows align at (omega (arith, h.1)))
    ]

-- nor is a field begun before
pub start_grows : (packed : Bool) (at : ℕ) (field : Layout) → at ≤ field_start packed at field
start_grows true at field = omega arith
start_grows false at field = next_grows field.align at

pub end_grows : (packed : Bool) (at : ℕ) (fields : List Layout) → at ≤ fields_end packed at fields
end_grows packed at [] = omega arith
end_grows packed at (field ∷ fields) =
    omega (arith, start_grows packed at field, end_grows packed (field_end packed at field) fields)

-- a structure of fields

pub structure_found : (packed : Bool) (at align : ℕ) (os : List (Option Layout)) (l : Layout) → structure_from packed at align os ≡ Some l
    → (fields : List Layout) × (os ≡ map (λ f. Some f) fields)
    × ((rounded_up (fields_align packed align fields) (fields_end packed at fields)).size ≤ most_size)
    × (l ≡ rounded_up (fields_align packed align fields) (fields_end packed at fields))
structure_found packed at align [] l e =
    let found = within_found (rounded_up align at) l e in
    ([], refl, found.0, found.1)
structure_found packed at align (None ∷ os) l e = cc
structure_found packed at align (Some field ∷ os) l e =
    let parts = if_some (nat_le (field_end packed at field) most_size) (structure_from packed (field_end packed at field) (wider_align packed align field) os) l e in
    let found = structure_found packed (field_end packed at field) (wider_align packed align field) os l parts.1 in
    (field ∷ found.0, ap (λ (z : List (Option Layout)). Some field ∷ z) found.1, found.2, found.3)

pub structure_gives : (packed : Bool) (at align : ℕ) (fields : List Layout)
    → (rounded_up (fields_align packed align fields) (fields_end packed at fields)).size ≤ most_size
    → structure_from packed at align (map (λ f. Some f) fields) ≡ Some (rounded_up (fields_align packed align fields) (fields_end packed at fields))
structure_gives packed at align [] small = within_gives (rounded_up align at) small
structure_gives packed at align (field ∷ fields) small =
    let end : ℕ = field_end packed at field in
    let wide : ℕ = wider_align packed align field in
    let low : end ≤ most_size = omega (arith, small, end_grows packed end fields, next_grows (fields_align packed wide fields) (fields_end packed end fields)) in
    rw (le-leb end most_size low) (structure_gives packed end wide fields small)
