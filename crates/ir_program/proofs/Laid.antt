-- A type that has a layout is laid out as programs count.
use Rattle.std.specs.Prelude.{◌≡◌, refl, ℕ, zero, suc, List, [], ◌∷◌, length, Option, Some, unwrap_or}
use Rattle.std.specs.Option.{option_map_or}
use Rattle.std.proofs.Common.{ap, sym, subst, ◌∙◌}
use Rattle.ir_tree.specs.Shape.{TyShape, TyShapes, integer, pointer, void, array, structure, named, no_types, types, NamedTyShape}
use Rattle.ir_layout.specs.declared.sizes.Layout.{Layout}
use Rattle.ir_layout.specs.Layout.{array_layout, structure_layout}
use Rattle.ir_layout.specs.Rules.{LaidBy, AreLaidBy, NameHasWithin, HasLayout, named_ty}
use Rattle.ir_rules.specs.Constants.{Opens, is_array, is_structure, is_name}
use Rattle.ir_sizes.proofs.Depth.{no_deeper}
use Rattle.ir_program.specs.Sizes.{no_layout, laid_by, row_laid_by, name_layout, layout_of, row_layouts, opened_within, opened}

-- where names have the layouts that are counted, types have them too
mutual
  unfolding LaidBy laid_by

  laid_as : (N : List ℕ → Layout → Type 0) (names : List ℕ → Layout) → ((name : List ℕ) (l : Layout) → N name l → names name ≡ l) → (t : TyShape) (l : Layout)
      → LaidBy N t l → laid_by names t ≡ l
  laid_as N names by (integer bits) l laid = sym laid
  laid_as N names by pointer l laid = sym laid
  laid_as N names by void l laid = absurd laid
  laid_as N names by (array count t) l laid = ap (array_layout count) (laid_as N names by t laid.0 laid.1) ∙ sym laid.3
  laid_as N names by (structure row packed) l laid = ap (structure_layout packed) (row_laid_as N names by row laid.0 laid.1) ∙ sym laid.3
  laid_as N names by (named name) l laid = by name l laid

  row_laid_as : (N : List ℕ → Layout → Type 0) (names : List ℕ → Layout) → ((name : List ℕ) (l : Layout) → N name l → names name ≡ l)
      → (row : TyShapes) (ls : List Layout)
      → AreLaidBy N row ls → row_laid_by names row ≡ ls
  row_laid_as N names by no_types [] laid = refl
  row_laid_as N names by no_types (l ∷ ls) laid = absurd laid
  row_laid_as N names by (types t row) [] laid = absurd laid
  row_laid_as N names by (types t row) (l ∷ ls) laid =
      ap (λ (one : Layout). one ∷ row_laid_by names row) (laid_as N names by t l laid.0)
      ∙ ap (λ (rest : List Layout). l ∷ rest) (row_laid_as N names by row ls laid.1)

-- what is counted for a name that stands for a type
name_opens : (depth : ℕ) (ts : List NamedTyShape) (name : List ℕ) (t : TyShape) → named_ty ts name ≡ Some t
    → name_layout (suc depth) ts name ≡ laid_by (name_layout depth ts) t
unfolding name_layout
name_opens depth ts name t is = ap (λ (o : Option TyShape). option_map_or (laid_by (name_layout depth ts)) o no_layout) is

name_as : (depth : ℕ) (ts : List NamedTyShape) (name : List ℕ) (l : Layout) → NameHasWithin depth ts name l → name_layout depth ts name ≡ l
unfolding NameHasWithin
name_as zero ts name l has = absurd has
name_as (suc depth) ts name l has =
    name_opens depth ts name has.0 has.1 ∙ laid_as (NameHasWithin depth ts) (name_layout depth ts) (λ other m inside. name_as depth ts other m inside)
    has.0 l has.2

pub laid_out : (ts : List NamedTyShape) (t : TyShape) (l : Layout) → HasLayout ts t l → layout_of ts t ≡ l
laid_out ts t l has =
    laid_as (NameHasWithin (length ts) ts) (name_layout (length ts) ts) (λ name m inside. name_as (length ts) ts name m inside) t l (no_deeper ts t l has)

-- the layouts of fields are those that are counted
pub rows_laid_out : (ts : List NamedTyShape) (row : TyShapes) (ls : List Layout) (depth : ℕ) → AreLaidBy (NameHasWithin depth ts) row ls
    → row_layouts ts row ≡ ls
unfolding LaidBy laid_by
rows_laid_out ts no_types [] depth laid = refl
rows_laid_out ts no_types (l ∷ ls) depth laid = absurd laid
rows_laid_out ts (types t row) [] depth laid = absurd laid
rows_laid_out ts (types t row) (l ∷ ls) depth laid =
    ap (λ (one : Layout). one ∷ row_layouts ts row) (laid_out ts t l (depth, laid.0))
    ∙ ap (λ (rest : List Layout). l ∷ rest) (rows_laid_out ts row ls depth laid.1)

-- a type in which named types nest so deep at most opens within so many names
opens_within : (depth : ℕ) (ts : List NamedTyShape) (t u : TyShape) (l : Layout) → LaidBy (NameHasWithin depth ts) t l → Opens ts t u
    → opened_within depth ts t ≡ u
unfolding LaidBy NameHasWithin opened_within
opens_within zero ts t u l laid (is_array count element) = refl
opens_within zero ts t u l laid (is_structure row packed) = refl
opens_within zero ts t u l laid (is_name name v w is opens) = absurd laid
opens_within (suc depth) ts t u l laid (is_array count element) = refl
opens_within (suc depth) ts t u l laid (is_structure row packed) = refl
opens_within (suc depth) ts t u l laid (is_name name v w is opens) =
    ap (λ (o : Option TyShape). opened_within depth ts (unwrap_or o void)) is
    ∙ opens_within depth ts v w l (subst (λ (z : TyShape). LaidBy (NameHasWithin depth ts) z l) (ap (λ (o : Option TyShape). unwrap_or o void) (sym laid.1
    ∙ is)) laid.2) opens

pub opens_as : (ts : List NamedTyShape) (t u : TyShape) (l : Layout) → HasLayout ts t l → Opens ts t u → opened ts t ≡ u
opens_as ts t u l has opens = opens_within (length ts) ts t u l (no_deeper ts t l has) opens
