-- Where an index leads from a type that is laid out.
use Rattle.std.proofs.Common.{◌≡◌, ℕ, zero, suc, ℤ, pos, ◌<◌, Bool, true, false, cond, nat_lt, List, [], ◌∷◌, length, Option, Some, slice_get, get_or, arith, refl, sym, ◌∙◌, ap, ltb-true}
use Rattle.ir_tree.specs.NameTable.{text_of}
use Rattle.ir_tree.specs.Shape.{TyShape, TyShapes, array, structure, named, no_types, types, NamedTyShape}
use Rattle.ir_layout.specs.declared.sizes.Layout.{Layout}
use Rattle.ir_layout.specs.Layout.{field_end, field_offset}
use Rattle.ir_layout.specs.Rules.{IsSized}
use Rattle.ir_rules.specs.Constants.{Opens, is_array, is_structure, is_name, StepsBy, to_element, to_field, row_at}
use Rattle.ir_model.specs.Pointers.{Stride, Scaled, Field}
use Rattle.ir_program.specs.Sizes.{laid_by, row_layouts, ty_size, opened}
use Rattle.ir_program.specs.Strides.{Index, field_number, stride_into}
use Rattle.ir_program.proofs.Laid.{opens_as}
use Rattle.program_steps.proofs.Alike.{within_list}
use Rattle.program_steps.specs.Laid.{LaidShape, LaidShapes, plain, elements, fields, name_of, laid_row, starts_from, laid_of, row_laid_of}
use Rattle.program_steps.specs.LaidShapes.{named_at}

-- the field of a number, where it is laid out, and where it begins
pub row_laid_at : (ts : List NamedTyShape) (row : TyShapes) (xs : List LaidShape) (k : ℕ) (field : TyShape) → laid_row xs ≡ row_laid_of ts row
    → row_at row k ≡ Some field → slice_get xs k ≡ Some (laid_of ts field)
unfolding row_laid_of
row_laid_at ts no_types xs k field same at = cc
row_laid_at ts (types t row) [] k field same at = cc
row_laid_at ts (types t row) (x ∷ xs) zero field same at =
    let here : x ≡ laid_of ts t = cc in
    let is : t ≡ field = cc in
    ap (λ (z : LaidShape). Some z) (here ∙ ap (laid_of ts) is)
row_laid_at ts (types t row) (x ∷ xs) (suc k) field same at =
    let rest : laid_row xs ≡ row_laid_of ts row = cc in
    row_laid_at ts row xs k field rest at

row_counts : (ts : List NamedTyShape) (row : TyShapes) (k : ℕ) (field : TyShape) → row_at row k ≡ Some field → k < length (row_layouts ts row)
unfolding laid_by
row_counts ts no_types k field at = cc
row_counts ts (types t row) zero field at = omega arith
row_counts ts (types t row) (suc k) field at = omega (arith, row_counts ts row k field at)

starts_long : (packed : Bool) (at : ℕ) (ls : List Layout) → length (starts_from packed at ls) ≡ length ls
starts_long packed at [] = refl
starts_long packed at (l ∷ ls) = ap suc (starts_long packed (field_end packed at l) ls)

start_at : (packed : Bool) (at : ℕ) (ls : List Layout) (k : ℕ) → k < length ls → get_or (starts_from packed at ls) k 0 ≡ field_offset packed at ls k
start_at packed at [] k h = absurd (omega (arith, h))
start_at packed at (l ∷ ls) zero h = refl
start_at packed at (l ∷ ls) (suc k) h = start_at packed (field_end packed at l) ls k (omega (arith, h))

-- what an index takes and leads to
pub record Leads (ts : List NamedTyShape) (t u : TyShape) (i : Index) (taken : Stride) (reached : LaidShape) : Type 0 where
  pub stride : taken ≡ stride_into ts (opened ts t) i
  pub inside : reached ≡ laid_of ts u

-- a type opens to what is laid out so
abbrev pub OpensAs : List NamedTyShape → TyShape → LaidShape → Type 0
OpensAs ts t x = (v : TyShape) → Opens ts t v → x ≡ laid_of ts v

-- into an array
pub element_leads : (ts : List NamedTyShape) (t u : TyShape) (i : Index) (size : ℕ) (inner : LaidShape) → IsSized ts t → StepsBy ts i.number t u
    → OpensAs ts t (elements size inner) → Leads ts t u i (Scaled i.width size) inner
unfolding laid_of
element_leads ts t u i size inner sized (to_element t' count element opens) lies =
    let same = lies (array count element) opens in
    let large : size ≡ ty_size ts element = cc in
    let laid : inner ≡ laid_of ts element = cc in
    record {
      stride = ap (λ (n : ℕ). Scaled i.width n) large ∙ ap (λ (z : TyShape). stride_into ts z i) (sym (opens_as ts t (array count element) sized.0 sized.1 opens));
      inside = laid;
    }
element_leads ts t u i size inner sized (to_field t' row packed k field opens is at) lies =
    let wrong = lies (structure row packed) opens in
    absurd cc

-- into a structure
pub record FieldLeads (ts : List NamedTyShape) (t u : TyShape) (i : Index) (starts : List ℕ) (row : List LaidShape) : Type 0 where
  pub number : ℕ
  pub is_number : i.number ≡ Some (pos number)
  pub has_start : number < length starts
  pub has_field : number < length row
  pub stride : Field (get_or starts number 0) ≡ stride_into ts (opened ts t) i
  pub inside : slice_get row number ≡ Some (laid_of ts u)

pub field_leads : (ts : List NamedTyShape) (t u : TyShape) (i : Index) (starts : List ℕ) (row : List LaidShape) → IsSized ts t → StepsBy ts i.number t u
    → OpensAs ts t (fields starts (laid_row row)) → FieldLeads ts t u i starts row
unfolding laid_of
field_leads ts t u i starts row sized (to_element t' count element opens) lies =
    let wrong = lies (array count element) opens in
    absurd cc
field_leads ts t u i starts row sized (to_field t' us packed k field opens is at) lies =
    let same = lies (structure us packed) opens in
    let begin : starts ≡ starts_from packed 0 (row_layouts ts us) = cc in
    let laid : laid_row row ≡ row_laid_of ts us = cc in
    let counted : k < length (row_layouts ts us) = row_counts ts us k field at in
    let there : slice_get row k ≡ Some (laid_of ts field) = row_laid_at ts us row k field laid at in
    record {
      number = k;
      is_number = is;
      has_start = omega (arith, counted, starts_long packed 0 (row_layouts ts us), ap (λ (z : List ℕ). length z) begin);
      has_field = within_list row k (laid_of ts field) there;
      stride =
          ap (λ (z : List ℕ). Field (get_or z k 0)) begin ∙ ap Field (start_at packed 0 (row_layouts ts us) k counted)
          ∙ ap (λ (o : Option ℤ). Field (field_offset packed 0 (row_layouts ts us) (field_number o))) (sym is)
          ∙ ap (λ (z : TyShape). stride_into ts z i) (sym (opens_as ts t (structure us packed) sized.0 sized.1 opens));
      inside = there;
    }

-- a type that is no array and no structure is none where it is laid out
pub plain_leads : (ts : List NamedTyShape) (t u : TyShape) (number : Option ℤ) → StepsBy ts number t u → OpensAs ts t plain → ⊥
unfolding laid_of
plain_leads ts t u number (to_element t' count element opens) lies =
    let wrong = lies (array count element) opens in
    cc
plain_leads ts t u number (to_field t' row packed k field opens is at) lies =
    let wrong = lies (structure row packed) opens in
    cc

name_no_elements : (names : List (List ℕ)) (id size : ℕ) (x : LaidShape) (known : Bool) → cond known (name_of (text_of names id)) plain ≡ elements size x → ⊥
name_no_elements names id size x true e = cc
name_no_elements names id size x false e = cc

name_no_fields : (names : List (List ℕ)) (id : ℕ) (starts : List ℕ) (row : LaidShapes) (known : Bool)
    → cond known (name_of (text_of names id)) plain ≡ fields starts row → ⊥
name_no_fields names id starts row true e = cc
name_no_fields names id starts row false e = cc

pub name_leads : (names : List (List ℕ)) (ts : List NamedTyShape) (t u : TyShape) (number : Option ℤ) (id : ℕ) → StepsBy ts number t u
    → OpensAs ts t (named_at names id) → ⊥
unfolding laid_of
name_leads names ts t u number id (to_element t' count element opens) lies =
    name_no_elements names id (ty_size ts element) (laid_of ts element) (nat_lt id (length names)) (lies (array count element) opens)
name_leads names ts t u number id (to_field t' row packed k field opens is at) lies =
    name_no_fields names id _ _ (nat_lt id (length names)) (lies (structure row packed) opens)

-- a type that opens and is laid out as a name is that name
pub record IsNamed (names : List (List ℕ)) (t : TyShape) (id : ℕ) : Type 0 where
  pub is_name : t ≡ named (text_of names id)
  pub known : id < length names

name_known : (names : List (List ℕ)) (id : ℕ) (name : List ℕ) (known : Bool) → cond known (name_of (text_of names id)) plain ≡ name_of name
    → (known ≡ true) × (name ≡ text_of names id)
name_known names id name true e = (refl, cc)
name_known names id name false e = cc

pub named_type : (names : List (List ℕ)) (ts : List NamedTyShape) (t u : TyShape) (id : ℕ) → Opens ts t u → named_at names id ≡ laid_of ts t → IsNamed names t id
unfolding laid_of
named_type names ts t u id (is_array count element) e =
    absurd (name_no_elements names id (ty_size ts element) (laid_of ts element) (nat_lt id (length names)) e)
named_type names ts t u id (is_structure row packed) e = absurd (name_no_fields names id _ _ (nat_lt id (length names)) e)
named_type names ts t u id (is_name name v w stands opens) e =
    let parts = name_known names id name (nat_lt id (length names)) e in
    record { is_name = ap named parts.1; known = ltb-true id (length names) parts.0 }

-- a type that is laid out otherwise opens to itself
pub opens_itself : (ts : List NamedTyShape) (t u : TyShape) → Opens ts t u → ((name : List ℕ) → laid_of ts t ≡ name_of name → ⊥) → u ≡ t
unfolding laid_of
opens_itself ts t u (is_array count element) other = refl
opens_itself ts t u (is_structure row packed) other = refl
opens_itself ts t u (is_name name v w stands opens) other = absurd (other name refl)
