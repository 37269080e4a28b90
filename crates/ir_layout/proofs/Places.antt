-- Where the fields of a structure lie, and what holds of each layout.
use Rattle.std.proofs.Common.{◌≡◌, ℕ, zero, suc, ◌+◌, ◌-◌, ◌*◌, ◌/◌, ◌<◌, ◌≤◌, max, inl, inr, Bool, true, false, List, [], ◌∷◌, length, map, Option, Some, None, refl, sym, ◌∙◌, ap, subst, arith, slice_get, nat_le, if◌then◌else◌, mul_assoc, drop, take, get_or}
use Rattle.std.proofs.lemmas.Option.{slice_get-get_or}
use Rattle.ir_tree.specs.declared.types.Ty.{Ty}
use Rattle.std.proofs.lemmas.Bool.{le-leb}
use Rattle.std.proofs.lemmas.Bool.Decides.{eqb_tells}
use Rattle.ir_tree.specs.Shape.{TyShape, TyShapes, integer, pointer, void, array, structure, named, no_types, types, NamedTyShape}
use Rattle.ir_layout.specs.declared.sizes.Layout.{Layout}
use Rattle.ir_layout.specs.Layout.{most_size, next_multiple, integer_size, field_start, field_end, fields_end, fields_align, structure_layout, field_offset, IsMultiple, IsRegular}
use Rattle.ir_layout.specs.Rules.{LaidBy, AreLaidBy, NameHasWithin, HasLayout}
use Rattle.ir_layout.specs.Computed.{offset_from, ty_layout}
use Rattle.ir_layout.proofs.Slices.{drop_at}
use Rattle.ir_layout.proofs.Found.{next_grows, start_grows, end_grows}

-- a field doesn't begin before what comes before it ends
offset_after : (packed : Bool) (at : ℕ) (fields : List Layout) (k : ℕ) → at ≤ field_offset packed at fields k
offset_after packed at [] k = omega arith
offset_after packed at (f ∷ fields) zero = start_grows packed at f
offset_after packed at (f ∷ fields) (suc k) = omega (arith, start_grows packed at f, offset_after packed (field_end packed at f) fields k)

pub fields_apart : (packed : Bool) (at : ℕ) (fields : List Layout) (j k : ℕ) (field : Layout) → j < k → k < length fields → slice_get fields j ≡ Some field
    → field_offset packed at fields j + field.size ≤ field_offset packed at fields k
fields_apart packed at [] j k field below within here = cc
fields_apart packed at (f ∷ fields) j zero field below within here = absurd (omega arith)
fields_apart packed at (f ∷ fields) zero (suc k) field below within here =
    let same : f ≡ field = cc in
    let size : f.size ≡ field.size = ap (λ (l : Layout). l.size) same in
    omega (arith, size, offset_after packed (field_end packed at f) fields k)
fields_apart packed at (f ∷ fields) (suc j) (suc k) field below within here =
    fields_apart packed (field_end packed at f) fields j k field (omega arith) (omega arith) here

field_within : (packed : Bool) (at : ℕ) (fields : List Layout) (k : ℕ) (field : Layout) → slice_get fields k ≡ Some field
    → field_offset packed at fields k + field.size ≤ fields_end packed at fields
field_within packed at [] k field here = cc
field_within packed at (f ∷ fields) zero field here =
    let same : f ≡ field = cc in
    let size : f.size ≡ field.size = ap (λ (l : Layout). l.size) same in
    omega (arith, size, end_grows packed (field_end packed at f) fields)
field_within packed at (f ∷ fields) (suc k) field here = field_within packed (field_end packed at f) fields k field here

-- each field ends within the structure
pub fields_within : (packed : Bool) (fields : List Layout) (k : ℕ) (field : Layout) → slice_get fields k ≡ Some field
    → field_offset packed 0 fields k + field.size ≤ (structure_layout packed fields).size
fields_within packed fields k field here =
    omega (arith, field_within packed 0 fields k field here, next_grows (fields_align packed 1 fields) (fields_end packed 0 fields))

multiple_next : (align at : ℕ) → 0 < align → IsMultiple (next_multiple align at) align
multiple_next align at h =
    elim (eqb_tells align 0) [
      | inl e ↦ absurd (omega (arith, e.1))
      | inr e ↦ ((at + (align - 1)) / align, rw e.0 refl)
    ]

-- each begins at a multiple of its alignment
pub fields_aligned : (at : ℕ) (fields : List Layout) (k : ℕ) (field : Layout) → slice_get fields k ≡ Some field → 0 < field.align
    → IsMultiple (field_offset false at fields k) field.align
fields_aligned at [] k field here h = cc
fields_aligned at (f ∷ fields) zero field here h =
    let same : f ≡ field = cc in
    let align : f.align ≡ field.align = ap (λ (l : Layout). l.align) same in
    subst (λ (n : ℕ). IsMultiple (next_multiple n at) field.align) (sym align) (multiple_next field.align at h)
fields_aligned at (f ∷ fields) (suc k) field here h = fields_aligned (field_end false at f) fields k field here h

-- the computed offset of a field
pub offset_gives : (packed : Bool) (at : ℕ) (fields : List Layout) (k : ℕ) → fields_end packed at fields ≤ most_size → k < length fields
    → offset_from packed at (map (λ f. Some f) fields) k ≡ Some (field_offset packed at fields k)
offset_gives packed at [] k small within = absurd (omega arith)
offset_gives packed at (f ∷ fields) zero small within =
    let low : field_end packed at f ≤ most_size = omega (arith, small, end_grows packed (field_end packed at f) fields) in
    rw (le-leb (field_end packed at f) most_size low) refl
offset_gives packed at (f ∷ fields) (suc k) small within =
    let low : field_end packed at f ≤ most_size = omega (arith, small, end_grows packed (field_end packed at f) fields) in
    rw (le-leb (field_end packed at f) most_size low) (offset_gives packed (field_end packed at f) fields k small (omega arith))

if_some : (b : Bool) (o : Option ℕ) (n : ℕ) → (if b then o else None) ≡ Some n → o ≡ Some n
if_some true o n e = e
if_some false o n e = cc

some_number : (a b : ℕ) → ◌≡◌ {A = Option ℕ} (Some a) (Some b) → a ≡ b
some_number a b e = cc

-- a computed offset is that of the field that comes after those before it
pub offset_found : (packed : Bool) (at : ℕ) (os : List (Option Layout)) (k n : ℕ) → offset_from packed at os k ≡ Some n
    → (ls : List Layout) × (take (suc k) os ≡ map (λ f. Some f) ls) × (n ≡ field_offset packed at ls k)
offset_found packed at [] k n e = cc
offset_found packed at (None ∷ os) k n e = cc
offset_found packed at (Some f ∷ os) zero n e =
    let is = if_some (nat_le (field_end packed at f) most_size) (Some (field_start packed at f)) n e in
    (f ∷ [], refl, sym (some_number (field_start packed at f) n is))
offset_found packed at (Some f ∷ os) (suc k) n e =
    let later = offset_found packed (field_end packed at f) os k n
    (if_some (nat_le (field_end packed at f) most_size) (offset_from packed (field_end packed at f) os k) n e) in
    (f ∷ later.0, ap (λ (z : List (Option Layout)). Some f ∷ z) later.1, later.2)

-- past a field that isn't the one
pub offset_past : (packed : Bool) (at : ℕ) (f : Layout) (os : List (Option Layout)) (k : ℕ) → field_end packed at f ≤ most_size → 0 < k
    → offset_from packed at (Some f ∷ os) k ≡ offset_from packed (field_end packed at f) os (k - 1)
offset_past packed at f os zero small h = absurd (omega arith)
offset_past packed at f os (suc k) small h =
    let less : suc k - 1 ≡ k = omega arith in
    rw (le-leb (field_end packed at f) most_size small, less) refl

-- a step over the types of fields
pub offset_step : (layouts : List (Option Layout)) (packed : Bool) (at end : ℕ) (ts : List Ty) (i : ℕ) (d : Ty) (field : Layout) (left : ℕ) → i < length ts
    → ty_layout layouts (get_or ts i d) ≡ Some field → end ≡ field_end packed at field → end ≤ most_size → (left ≡ 0 → ⊥)
    → offset_from packed end (map (ty_layout layouts) (drop (i + 1) ts)) (left - 1) ≡ offset_from packed at (map (ty_layout layouts) (drop i ts)) left
offset_step layouts packed at end ts i d field left within laid is small more =
    let low : field_end packed at field ≤ most_size = omega (arith, is, small) in
    let past = offset_past packed at field (map (ty_layout layouts) (drop (i + 1) ts)) left low (omega (arith, more)) in
    let cut : drop i ts ≡ get_or ts i d ∷ drop (i + 1) ts = drop_at ts i (get_or ts i d) (slice_get-get_or ts i d within) in
    let head : map (ty_layout layouts) (drop i ts) ≡ Some field ∷ map (ty_layout layouts) (drop (i + 1) ts) =
    ap (map (ty_layout layouts)) cut ∙ ap (λ (o : Option Layout). o ∷ map (ty_layout layouts) (drop (i + 1) ts)) laid in
    ap (λ (n : ℕ). offset_from packed n (map (ty_layout layouts) (drop (i + 1) ts)) (left - 1)) is ∙ sym past
    ∙ ap (λ (os : List (Option Layout)). offset_from packed at os left) (sym head)

-- what holds of each layout

integer_regular : (bits : ℕ) → (0 < integer_size bits) × (integer_size bits ≤ 8)
integer_regular bits = size_regular (nat_le bits 8) (nat_le bits 16) (nat_le bits 32)
  where
    size_regular : (a b c : Bool) → let n : ℕ = if a then 1 else (if b then 2 else (if c then 4 else 8)) in (0 < n) × (n ≤ 8)
    size_regular true b c = (omega arith, omega arith)
    size_regular false true c = (omega arith, omega arith)
    size_regular false false true = (omega arith, omega arith)
    size_regular false false false = (omega arith, omega arith)

abbrev pub AreRegular : List Layout → Type 0
AreRegular [] = Unit {0}
AreRegular (l ∷ ls) = IsRegular l × AreRegular ls

align_regular : (packed : Bool) (align : ℕ) (fields : List Layout) → AreRegular fields → 0 < align → align ≤ 8
    → (0 < fields_align packed align fields) × (fields_align packed align fields ≤ 8)
align_regular packed align [] all h k = (h, k)
align_regular true align (f ∷ fields) all h k = align_regular true align fields all.1 h k
align_regular false align (f ∷ fields) all h k =
    align_regular false (max align f.align) fields all.1 (omega (arith, all.0.aligned)) (omega (arith, all.0.align_small))

-- the names' layouts are regular
abbrev pub GivesRegular : (List ℕ → Layout → Type 0) → Type 0
GivesRegular N = (name : List ℕ) (l : Layout) → N name l → IsRegular l

mutual
  unfolding LaidBy AreLaidBy

  regular_laid : (N : List ℕ → Layout → Type 0) → GivesRegular N → (t : TyShape) (l : Layout) → LaidBy N t l → IsRegular l
  regular_laid N h (integer bits) l is =
      let both = integer_regular bits in
      subst IsRegular (sym is) (record { aligned = both.0; align_small = both.1; size_small = omega (arith, both.1); in_units = (1, omega arith) })
  regular_laid N h pointer l is =
      subst IsRegular (sym is) (record { aligned = omega arith; align_small = omega arith; size_small = omega arith; in_units = (1, refl) })
  regular_laid N h void l none = absurd none
  regular_laid N h (array count t) l (element, has, small, is) =
      let one = regular_laid N h t element has in
      subst IsRegular (sym is) (record {
        aligned = one.aligned;
        align_small = one.align_small;
        size_small = small;
        in_units = (count * one.in_units.0, ap (λ (n : ℕ). count * n) one.in_units.1 ∙ sym (mul_assoc count one.in_units.0 element.align));
      })
  regular_laid N h (structure row packed) l (fields, have, small, is) =
      let align = align_regular packed 1 fields (are_regular N h row fields have) (omega arith) (omega arith) in
      subst IsRegular (sym is) (record {
        aligned = align.0;
        align_small = align.1;
        size_small = small;
        in_units = multiple_next (fields_align packed 1 fields) (fields_end packed 0 fields) align.0;
      })
  regular_laid N h (named name) l has = h name l has

  are_regular : (N : List ℕ → Layout → Type 0) → GivesRegular N → (row : TyShapes) (ls : List Layout) → AreLaidBy N row ls → AreRegular ls
  are_regular N h no_types [] have = tt
  are_regular N h no_types (l ∷ ls) none = absurd none
  are_regular N h (types t row) [] none = absurd none
  are_regular N h (types t row) (l ∷ ls) (has, have) = (regular_laid N h t l has, are_regular N h row ls have)

within_regular : (ts : List NamedTyShape) (d : ℕ) → GivesRegular (NameHasWithin d ts)
unfolding NameHasWithin
within_regular ts zero name l none = absurd none
within_regular ts (suc d) name l (t, stands, has) = regular_laid (NameHasWithin d ts) (within_regular ts d) t l has

pub layout_regular : (ts : List NamedTyShape) (t : TyShape) (l : Layout) → HasLayout ts t l → IsRegular l
layout_regular ts t l (depth, has) = regular_laid (NameHasWithin depth ts) (within_regular ts depth) t l has
