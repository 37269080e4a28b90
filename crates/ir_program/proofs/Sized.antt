-- The bytes of a constant are as many as its type is large.
use Rattle.std.specs.Prelude.{◌≡◌, ◌≤◌, ℕ, zero, suc, ◌+◌, ◌-◌, ◌*◌, nat_le, Bool, true, false, if◌then◌else◌, List, [], ◌∷◌, ◌++◌, length, map, replicate, Option, Some, unwrap_or}
use Rattle.std.specs.Int.{bytes_low_first}
use Rattle.std.proofs.Common.{arith, refl, ap, sym, subst, ◌∙◌}
use Rattle.std.proofs.lemmas.List.{length-append, length-map, length-replicate}
use Rattle.ir_tree.specs.Shape.{TyShape, TyShapes, integer, pointer, void, array, structure, named, no_types, types, ConstShape, number, boolean, null, undef, poison, zero_value, text, elements, fields, global, address, TypedShape, typed, TypedShapes, no_values, values, NamedTyShape, ModuleShape}
use Rattle.ir_layout.specs.declared.sizes.Layout.{Layout}
use Rattle.ir_layout.specs.Layout.{next_multiple, integer_size, array_layout, structure_layout, field_start, field_end, fields_end, fields_align}
use Rattle.ir_layout.specs.Rules.{LaidBy, NameHasWithin, HasLayout, HaveLayouts, named_ty}
use Rattle.ir_layout.proofs.Found.{next_grows}
use Rattle.ir_rules.specs.Constants.{HasConst, HaveElements, HaveFields, HasTyped, Opens, is_array, is_structure, is_name}
use Rattle.ir_model.specs.declared.Access.TheVariants.{I8, I16, I32, I64, Ptr}
use Rattle.ir_model.specs.Values.{Value, Integer, Address, Poison, Pointer, Cell, Unknown, Byte, is_null}
use Rattle.ir_model.specs.Memory.{access_size, parts_from, cells_of}
use Rattle.ir_program.specs.Sizes.{layout_of, ty_size}
use Rattle.ir_program.specs.Constants.{const_value, access_of, value_cells, padded, stated_ty, gap_before, end_of, const_cells, typed_cells, elements_cells, fields_cells}
use Rattle.ir_program.proofs.Laid.{laid_out}

-- a type has the layout of what it opens to
named_within : (depth : ℕ) (ts : List NamedTyShape) (name : List ℕ) (v : TyShape) (l : Layout) → named_ty ts name ≡ Some v
    → LaidBy (NameHasWithin depth ts) (named name) l → HasLayout ts v l
unfolding LaidBy NameHasWithin
named_within zero ts name v l is laid = absurd laid
named_within (suc depth) ts name v l is laid =
    (depth, subst (λ (z : TyShape). LaidBy (NameHasWithin depth ts) z l) (ap (λ (o : Option TyShape). unwrap_or o void) (sym laid.1 ∙ is)) laid.2)

pub opened_has : (ts : List NamedTyShape) (t u : TyShape) (l : Layout) → HasLayout ts t l → Opens ts t u → HasLayout ts u l
opened_has ts t u l has (is_array count element) = has
opened_has ts t u l has (is_structure row packed) = has
opened_has ts t u l has (is_name name v w is opens) = opened_has ts v w l (named_within has.0 ts name v l is has.1) opens

-- the layouts of the parts of a type
pub array_parts : (ts : List NamedTyShape) (count : ℕ) (element : TyShape) (l : Layout) → HasLayout ts (array count element) l
    → (e : Layout) × HasLayout ts element e × (l ≡ array_layout count e)
unfolding LaidBy
array_parts ts count element l has = (has.1.0, (has.0, has.1.1), has.1.3)

pub structure_parts : (ts : List NamedTyShape) (row : TyShapes) (packed : Bool) (l : Layout) → HasLayout ts (structure row packed) l
    → (ls : List Layout) × HaveLayouts ts row ls × (l ≡ structure_layout packed ls)
unfolding LaidBy
structure_parts ts row packed l has = (has.1.0, (has.0, has.1.1), has.1.3)

integer_has : (ts : List NamedTyShape) (bits : ℕ) (l : Layout) → HasLayout ts (integer bits) l → l.size ≡ integer_size bits
unfolding LaidBy
integer_has ts bits l has = ap (λ (k : Layout). k.size) has.1

pointer_has : (ts : List NamedTyShape) (l : Layout) → HasLayout ts pointer l → l.size ≡ 8
unfolding LaidBy
pointer_has ts l has = ap (λ (k : Layout). k.size) has.1

-- the bytes of a number and of an address
bytes_long : (one two four : Bool) (n : ℕ)
    → length (map Byte (bytes_low_first 0 (access_size (if one then I8 else if two then I16 else if four then I32 else I64)) n))
    ≡ (if one then 1 else (if two then 2 else (if four then 4 else 8)))
bytes_long true two four n = refl
bytes_long false true four n = refl
bytes_long false false true n = refl
bytes_long false false false n = refl

integer_sized : (ts : List NamedTyShape) (bits width n : ℕ) (l : Layout) → HasLayout ts (integer bits) l
    → length (cells_of (access_of (integer bits)) (Integer width n)) ≡ l.size
integer_sized ts bits width n l has = bytes_long (nat_le bits 8) (nat_le bits 16) (nat_le bits 32) n ∙ sym (integer_has ts bits l has)

address_long : (q : Pointer) (null : Bool) → length (if null then replicate 8 (Byte 0) else parts_from 0 8 q) ≡ 8
address_long q true = refl
address_long q false = refl

pointer_long : (v : Value) → length (cells_of Ptr v) ≡ 8
pointer_long (Integer width n) = refl
pointer_long (Address q) = address_long q (is_null q)
pointer_long Poison = refl

-- a constant that is kept as a value, where its type is that of numbers of these bits, or that of addresses
number_fills : (m : ModuleShape) (c : ConstShape) (t : TyShape) (bits width n : ℕ) (l : Layout) → t ≡ integer bits → const_value m (integer bits) c ≡ Integer width n
    → HasLayout m.types t l → length (value_cells m t c) ≡ l.size
number_fills m c t bits width n l is gives =
    subst (λ (u : TyShape). HasLayout m.types u l → length (value_cells m u c) ≡ l.size) (sym is)
    (λ has. ap (λ (v : Value). length (cells_of (access_of (integer bits)) v)) gives ∙ integer_sized m.types bits width n l has)

address_fills : (m : ModuleShape) (c : ConstShape) (t : TyShape) (l : Layout) → t ≡ pointer → HasLayout m.types t l → length (value_cells m t c) ≡ l.size
address_fills m c t l is =
    subst (λ (u : TyShape). HasLayout m.types u l → length (value_cells m u c) ≡ l.size) (sym is)
    (λ has. pointer_long (const_value m pointer c) ∙ sym (pointer_has m.types l has))

-- so many bytes of a type's size
all_filled : (m : ModuleShape) (t : TyShape) (l : Layout) (cell : Cell) → HasLayout m.types t l → length (replicate (ty_size m.types t) cell) ≡ l.size
all_filled m t l cell has = length-replicate (ty_size m.types t) cell ∙ ap (λ (k : Layout). k.size) (laid_out m.types t l has)

-- a text fills an array of bytes
text_fills : (m : ModuleShape) (bytes : List ℕ) (t : TyShape) (l : Layout) → HasLayout m.types t l → Opens m.types t (array (length bytes) (integer 8))
    → length (map Byte bytes) ≡ l.size
text_fills m bytes t l has opens =
    let parts = array_parts m.types (length bytes) (integer 8) l (opened_has m.types t (array (length bytes) (integer 8)) l has opens) in
    let e : Layout = parts.0 in
    let one : e.size ≡ 1 = integer_has m.types 8 e parts.1 in
    let many : l.size ≡ length bytes * e.size = ap (λ (k : Layout). k.size) parts.2 in
    length-map bytes Byte ∙ omega (arith, ap (λ (k : ℕ). length bytes * k) one, many)

-- a field starts after what comes before it
pub starts_after : (packed : Bool) (at : ℕ) (l : Layout) → at ≤ field_start packed at l
starts_after true at l = omega arith
starts_after false at l = next_grows l.align at

-- a constant states the type that it has
stated_is : (ts : List NamedTyShape) (v : TypedShape) (t : TyShape) → HasTyped ts v t → stated_ty v ≡ t
unfolding HasConst
stated_is ts (typed u c) t has = has.0

-- bytes that end no later than a structure, padded to its size
padded_long : (size : ℕ) (cells : List Cell) → length cells ≤ size → length (padded size cells) ≡ size
padded_long size cells le =
    omega (arith, length-append cells (replicate (size - length cells) Unknown), length-replicate (size - length cells) Unknown)

-- where a field and those after it end, by the bytes of the gap before it, its own and theirs
field_filled : (packed : Bool) (at gap own rest : ℕ) (counted l : Layout) (ls : List Layout) → counted ≡ l → gap ≡ field_start packed at counted - at → own ≡ l.size
    → field_end packed at counted + rest ≡ fields_end packed (field_end packed at counted) ls → at + (gap + own + rest) ≡ fields_end packed (field_end packed at l) ls
field_filled packed at gap own rest counted l ls is gap_is own_is ends =
    omega (arith, starts_after packed at counted, gap_is, own_is, ap (λ (k : Layout). k.size) is, ends)
    ∙ ap (λ (k : Layout). fields_end packed (field_end packed at k) ls) is

mutual
  unfolding HasConst LaidBy const_cells const_value

  pub const_sized : (m : ModuleShape) (c : ConstShape) (t : TyShape) (l : Layout) → HasLayout m.types t l → HasConst m.types c t → length (const_cells m t c) ≡ l.size
  const_sized m (number value) t l has const = number_fills m (number value) t const.0 _ _ l const.1 refl has
  const_sized m (boolean value) t l has const = number_fills m (boolean value) t 1 _ _ l const refl has
  const_sized m null t l has const = address_fills m null t l const has
  const_sized m undef t l has const = all_filled m t l Unknown has
  const_sized m poison t l has const = all_filled m t l Unknown has
  const_sized m zero_value t l has const = all_filled m t l (Byte 0) has
  const_sized m (text bytes) t l has const = text_fills m bytes t l has const
  const_sized m (elements vs) t l has const =
      let parts = array_parts m.types const.0 const.1 l (opened_has m.types t (array const.0 const.1) l has const.2) in
      elements_sized m vs const.0 const.1 parts.0 parts.1 const.3 ∙ sym (ap (λ (k : Layout). k.size) parts.2)
  const_sized m (fields vs packed) t l has const =
      let parts = structure_parts m.types const.0 packed l (opened_has m.types t (structure const.0 packed) l has const.1) in
      let ls : List Layout = parts.0 in
      let ends : 0 + length (fields_cells m packed 0 vs) ≡ fields_end packed 0 ls = fields_sized m packed 0 vs const.0 ls parts.1 const.2 in
      let size : l.size ≡ next_multiple (fields_align packed 1 ls) (fields_end packed 0 ls) = ap (λ (k : Layout). k.size) parts.2 in
      let counted : ty_size m.types t ≡ l.size = ap (λ (k : Layout). k.size) (laid_out m.types t l has) in
      padded_long (ty_size m.types t) (fields_cells m packed 0 vs)
      (omega (arith, ends, size, counted, next_grows (fields_align packed 1 ls) (fields_end packed 0 ls))) ∙ counted
  const_sized m (global name) t l has const = address_fills m (global name) t l const has
  const_sized m (address inbounds u base indices) t l has const = address_fills m (address inbounds u base indices) t l const.0 has

  pub typed_sized : (m : ModuleShape) (v : TypedShape) (t : TyShape) (l : Layout) → HasLayout m.types t l → HasTyped m.types v t → length (typed_cells m v) ≡ l.size
  typed_sized m (typed u c) t l has const = const_sized m c u l (subst (λ (z : TyShape). HasLayout m.types z l) (sym const.0) has)
      (subst (λ (z : TyShape). HasConst m.types c z) (sym const.0) const.1)

  elements_sized : (m : ModuleShape) (vs : TypedShapes) (count : ℕ) (element : TyShape) (e : Layout) → HasLayout m.types element e
      → HaveElements m.types vs count element → length (elements_cells m vs) ≡ count * e.size
  elements_sized m no_values zero element e has have = omega arith
  elements_sized m no_values (suc count) element e has have = absurd (omega (arith, have))
  elements_sized m (values v vs) zero element e has have = absurd have
  elements_sized m (values v vs) (suc count) element e has have =
      omega (arith, length-append (typed_cells m v) (elements_cells m vs), typed_sized m v element e has have.0, elements_sized m vs count element e has have.1)

  pub fields_sized : (m : ModuleShape) (packed : Bool) (at : ℕ) (vs : TypedShapes) (row : TyShapes) (ls : List Layout) → HaveLayouts m.types row ls
      → HaveFields m.types vs row → at + length (fields_cells m packed at vs) ≡ fields_end packed at ls
  fields_sized m packed at no_values no_types [] laid have = omega arith
  fields_sized m packed at no_values no_types (l ∷ ls) laid have = absurd laid.1
  fields_sized m packed at no_values (types t row) ls laid have = absurd have
  fields_sized m packed at (values v vs) no_types ls laid have = absurd have
  fields_sized m packed at (values v vs) (types t row) [] laid have = absurd laid.1
  fields_sized m packed at (values v vs) (types t row) (l ∷ ls) laid have =
      let gap : List Cell = gap_before m packed at v in
      let own : List Cell = typed_cells m v in
      let rest : List Cell = fields_cells m packed (end_of m packed at v) vs in
      let has : HasLayout m.types t l = (laid.0, laid.1.0) in
      let counted : layout_of m.types (stated_ty v) ≡ l = ap (layout_of m.types) (stated_is m.types v t have.0) ∙ laid_out m.types t l has in
      ap (λ (n : ℕ). at + n) (length-append (gap ++ own) rest ∙ ap (λ (n : ℕ). n + length rest) (length-append gap own))
      ∙ field_filled packed at (length gap) (length own) (length rest) (layout_of m.types (stated_ty v)) l ls counted
      (length-replicate (field_start packed at (layout_of m.types (stated_ty v)) - at) Unknown)
      (typed_sized m v t l has have.0)
      (fields_sized m packed (end_of m packed at v) vs row ls (laid.0, laid.1.1) have.1)
