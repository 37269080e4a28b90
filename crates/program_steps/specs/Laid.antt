-- Types as indices step into them: with the sizes of elements and the offsets of fields.
use Rattle.std.specs.Prelude.{ℕ, Bool, List, [], ◌∷◌}
use Rattle.ir_tree.specs.Shape.{TyShape, TyShapes, integer, pointer, void, array, structure, named, no_types, types, NamedTyShape}
use Rattle.ir_layout.specs.declared.sizes.Layout.{Layout}
use Rattle.ir_layout.specs.Layout.{field_start, field_end}
use Rattle.ir_program.specs.Sizes.{ty_size, row_layouts}

mutual
  -- a type that indices don't lead into, an array with the size of an element, a structure with where each field begins, or a name
  pub data LaidShape : Type 0 where
    plain : LaidShape
    elements : (size : ℕ) (element : LaidShape) → LaidShape
    fields : (starts : List ℕ) (row : LaidShapes) → LaidShape
    name_of : (name : List ℕ) → LaidShape

  pub data LaidShapes : Type 0 where
    no_laid : LaidShapes
    laid_then : (first : LaidShape) (rest : LaidShapes) → LaidShapes

-- those of a list
abbrev pub laid_row : List LaidShape → LaidShapes
laid_row [] = no_laid
laid_row (x ∷ xs) = laid_then x (laid_row xs)

-- where each of these fields begins, the first of which comes after what ends at an offset
abbrev pub starts_from : Bool → ℕ → List Layout → List ℕ
starts_from packed at [] = []
starts_from packed at (l ∷ ls) = field_start packed at l ∷ starts_from packed (field_end packed at l) ls

-- a type as indices step into it
unfoldable mutual
  pub laid_of : List NamedTyShape → TyShape → LaidShape
  laid_of ts (integer bits) = plain
  laid_of ts pointer = plain
  laid_of ts void = plain
  laid_of ts (array count element) = elements (ty_size ts element) (laid_of ts element)
  laid_of ts (structure row packed) = fields (starts_from packed 0 (row_layouts ts row)) (row_laid_of ts row)
  laid_of ts (named name) = name_of name

  pub row_laid_of : List NamedTyShape → TyShapes → LaidShapes
  row_laid_of ts no_types = no_laid
  row_laid_of ts (types t row) = laid_then (laid_of ts t) (row_laid_of ts row)
