-- How large types are, and what names of types stand for, as numbers and types that compute. A type that has no layout gets some numbers
-- too, which no proper module asks for.
use Rattle.std.specs.Prelude.{ℕ, zero, suc, List, [], ◌∷◌, length, unwrap_or}
use Rattle.std.specs.Option.{option_map_or}
use Rattle.ir_tree.specs.Shape.{TyShape, TyShapes, integer, pointer, void, array, structure, named, no_types, types, NamedTyShape}
use Rattle.ir_layout.specs.declared.sizes.Layout.{Layout}
use Rattle.ir_layout.specs.Layout.{integer_layout, pointer_layout, array_layout, structure_layout}
use Rattle.ir_layout.specs.Rules.{named_ty}

-- what stands for a layout where there is none
abbrev pub no_layout : Layout
no_layout = record { size = 0; align = 1 }

-- the layout of a type, by that of each name
unfoldable mutual
  pub laid_by : (List ℕ → Layout) → TyShape → Layout
  laid_by names (integer bits) = integer_layout bits
  laid_by names pointer = pointer_layout
  laid_by names void = no_layout
  laid_by names (array count element) = array_layout count (laid_by names element)
  laid_by names (structure fields packed) = structure_layout packed (row_laid_by names fields)
  laid_by names (named name) = names name

  pub row_laid_by : (List ℕ → Layout) → TyShapes → List Layout
  row_laid_by names no_types = []
  row_laid_by names (types t row) = laid_by names t ∷ row_laid_by names row

-- the layout of a name, in which named types nest so deep at most
unfoldable pub name_layout : ℕ → List NamedTyShape → List ℕ → Layout
name_layout zero ts name = no_layout
name_layout (suc depth) ts name = option_map_or (laid_by (name_layout depth ts)) (named_ty ts name) no_layout

-- the layout of a type, and those of a row of types: named types nest no deeper than there are any
abbrev pub layout_of : List NamedTyShape → TyShape → Layout
layout_of ts t = laid_by (name_layout (length ts) ts) t

abbrev pub row_layouts : List NamedTyShape → TyShapes → List Layout
row_layouts ts row = row_laid_by (name_layout (length ts) ts) row

-- the size of a type in bytes
abbrev pub ty_size : List NamedTyShape → TyShape → ℕ
ty_size ts t = (layout_of ts t).size

-- the type that a type is by so many names of types at most
unfoldable pub opened_within : ℕ → List NamedTyShape → TyShape → TyShape
opened_within zero ts t = t
opened_within (suc depth) ts (named name) = opened_within depth ts (unwrap_or (named_ty ts name) void)
opened_within (suc depth) ts t = t

-- the type that a type is, where names stand for theirs
abbrev pub opened : List NamedTyShape → TyShape → TyShape
opened ts t = opened_within (length ts) ts t
