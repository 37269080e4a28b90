-- Sizes, alignments and the places of fields, by numbers.
use Rattle.std.specs.Prelude.{◌≡◌, ◌<◌, ◌≤◌, ℕ, zero, suc, ◌+◌, ◌-◌, ◌*◌, ◌/◌, ◌==◌, Bool, nat_le, max, if◌then◌else◌, List, [], ◌∷◌}
use Rattle.ir_layout.specs.declared.sizes.Layout.{Layout}

-- the greatest size of a type, in bytes
abbrev pub most_size : ℕ
most_size = 1073741824

-- the first multiple of the alignment that isn't below the offset; an alignment of 0 moves nothing
abbrev pub next_multiple : ℕ → ℕ → ℕ
next_multiple align at = if align == 0 then at else (at + (align - 1)) / align * align

-- the size of an integer of so many bits
abbrev pub integer_size : ℕ → ℕ
integer_size bits = if nat_le bits 8 then 1 else (if nat_le bits 16 then 2 else (if nat_le bits 32 then 4 else 8))

-- an integer of so many bits: its alignment is its size
abbrev pub integer_layout : ℕ → Layout
integer_layout bits = record { size = integer_size bits; align = integer_size bits }

-- an address
abbrev pub pointer_layout : Layout
pointer_layout = record { size = 8; align = 8 }

-- so many elements in a row
abbrev pub array_layout : ℕ → Layout → Layout
array_layout count element = record { size = count * element.size; align = element.align }

-- where a field begins, after what ends at an offset: right there in a packed structure, else at the next multiple of its alignment
abbrev pub field_start : Bool → ℕ → Layout → ℕ
field_start packed at field = if packed then at else next_multiple field.align at

-- where it ends
abbrev pub field_end : Bool → ℕ → Layout → ℕ
field_end packed at field = field_start packed at field + field.size

-- where the last of the fields ends, of which the first comes after what ends at an offset
abbrev pub fields_end : Bool → ℕ → List Layout → ℕ
fields_end packed at [] = at
fields_end packed at (field ∷ fields) = fields_end packed (field_end packed at field) fields

-- the greater of an alignment and a field's; in a packed structure fields have none
abbrev pub wider_align : Bool → ℕ → Layout → ℕ
wider_align packed align field = if packed then align else max align field.align

-- the greatest of an alignment and those of the fields
abbrev pub fields_align : Bool → ℕ → List Layout → ℕ
fields_align packed align [] = align
fields_align packed align (field ∷ fields) = fields_align packed (wider_align packed align field) fields

-- what ends at an offset, rounded up to an alignment
abbrev pub rounded_up : ℕ → ℕ → Layout
rounded_up align at = record { size = next_multiple align at; align = align }

-- a structure of these fields: its alignment is the greatest of theirs, and at least 1
abbrev pub structure_layout : Bool → List Layout → Layout
structure_layout packed fields = rounded_up (fields_align packed 1 fields) (fields_end packed 0 fields)

-- where the field of a number begins, in a structure of which the first field comes after what ends at an offset
abbrev pub field_offset : Bool → ℕ → List Layout → ℕ → ℕ
field_offset packed at [] k = at
field_offset packed at (field ∷ fields) zero = field_start packed at field
field_offset packed at (field ∷ fields) (suc k) = field_offset packed (field_end packed at field) fields k

-- the first number is a multiple of the second
abbrev pub IsMultiple : ℕ → ℕ → Type 0
IsMultiple n unit = (times : ℕ) × (n ≡ times * unit)

-- what holds of each layout of a type: the alignment is 1 to 8, and the size is a multiple of it and isn't too great
pub record IsRegular (l : Layout) : Type 0 where
  pub aligned : 0 < l.align
  pub align_small : l.align ≤ 8
  pub size_small : l.size ≤ most_size
  pub in_units : IsMultiple l.size l.align
