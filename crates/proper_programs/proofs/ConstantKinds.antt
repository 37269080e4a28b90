-- Constants are values of the kinds of their types, and no byte of a global holds a part of an address of something that isn't there.
use Rattle.std.proofs.Common.{◌≡◌, ◌≤◌, ◌<◌, ℕ, zero, suc, ◌+◌, ◌-◌, Bool, true, false, List, [], ◌∷◌, ◌++◌, map, length, Option, Some, None, refl, sym, subst, arith, replicate}
use Rattle.std.specs.Prelude.{⊤, if◌then◌else◌}
use Rattle.std.specs.List.{AllByRecursion}
use Rattle.std.specs.Int.{bytes_low_first}
use Rattle.std.specs.Str.{bytes_eq}
use Rattle.std.proofs.lemmas.Option.{slice_get_within}
use Rattle.std.proofs.lemmas.Nat.{pow_pos}
use Rattle.ir_tree.specs.Shape.{TyShape, TyShapes, integer, pointer, void, array, structure, named, no_types, types, ConstShape, number, boolean, null, undef, poison, zero_value, text, elements, fields, global, address, TypedShape, typed, TypedShapes, no_values, values, GlobalShape, ModuleShape}
use Rattle.ir_rules.specs.Constants.{HasConst, HaveElements, HaveFields, HasTyped, HasBase}
use Rattle.ir_rules.specs.Things.{global_of}
use Rattle.ir_model.specs.declared.Access.{Access}
use Rattle.ir_model.specs.Values.{Value, Integer, Address, Poison, Pointer, Cell, Unknown, Byte, Part, is_null}
use Rattle.ir_model.specs.Memory.{access_size, parts_from, cells_of}
use Rattle.ir_typed_runs.specs.Kinds.{Kind, OfWidth, OfPointer, IsPointer, IsOfKind, IsCell}
use Rattle.ir_typed_runs.proofs.Lists.{all_joined, all_replicated, all_mapped}
use Rattle.ir_typed_runs.proofs.Numbers.{bits_below}
use Rattle.ir_typed_runs.proofs.Computed.{walked_kind}
use Rattle.ir_program.specs.Strides.{strides_of, scaled_only}
use Rattle.ir_program.specs.Sizes.{ty_size}
use Rattle.ir_program.specs.Constants.{global_address, zero_of, rooms, row_indices, const_value, typed_value, row_values, access_of, value_cells, gap_before, end_of, const_cells, typed_cells, elements_cells, fields_cells}
use Rattle.ir_program.specs.Bytes.{HasByte}
use Rattle.proper_programs.specs.ModuleKinds.{kind_of_ty}
use Rattle.proper_programs.proofs.Positions.{found_at, all_of}

-- how many blocks of memory there are at the start: null's, and one for each global
abbrev pub block_count : ModuleShape → ℕ
block_count m = suc (length m.globals)

-- ---- values
null_kind : (m : ModuleShape) → IsPointer (block_count m) (record { block = 0; offset = 0 })
null_kind m = record { exists = omega arith; distance = omega arith }

zero_kind : (m : ModuleShape) (t : TyShape) → IsOfKind (block_count m) (kind_of_ty t) (zero_of t)
zero_kind m (integer width) = (refl, pow_pos width)
zero_kind m pointer = null_kind m
zero_kind m void = tt
zero_kind m (array count element) = tt
zero_kind m (structure row packed) = tt
zero_kind m (named name) = tt

global_kind : (m : ModuleShape) (name : List ℕ) (o : Option ℕ) → global_of m name ≡ o → IsOfKind (block_count m) OfPointer (global_address o)
global_kind m name None is = tt
global_kind m name (Some g) is =
    let found = found_at (λ (x : GlobalShape). bytes_eq x.name name) 0 m.globals g is in
    let within : found.index < length m.globals = slice_get_within m.globals found.index found.element found.there in
    let place : g ≡ 0 + found.index = found.place in
    record { exists = omega arith; distance = omega arith }

truth_kind : (m : ModuleShape) (value : Bool) → IsOfKind (block_count m) (OfWidth 1) (Integer 1 (if value then 1 else 0))
truth_kind m true = (refl, omega arith)
truth_kind m false = (refl, omega arith)

mutual
  unfolding HasConst const_value

  pub const_kind : (m : ModuleShape) (t : TyShape) (c : ConstShape) → HasConst m.types c t → IsOfKind (block_count m) (kind_of_ty t) (const_value m t c)
  const_kind m t (number value) is =
      subst (λ (u : TyShape). IsOfKind (block_count m) (kind_of_ty u) (const_value m u (number value))) (sym is.1) (refl, bits_below is.0 value)
  const_kind m t (boolean value) is =
      subst (λ (u : TyShape). IsOfKind (block_count m) (kind_of_ty u) (const_value m u (boolean value))) (sym is) (truth_kind m value)
  const_kind m t null is = subst (λ (u : TyShape). IsOfKind (block_count m) (kind_of_ty u) (const_value m u null)) (sym is) (null_kind m)
  const_kind m t undef is = tt
  const_kind m t poison is = tt
  const_kind m t zero_value is = zero_kind m t
  const_kind m t (text bytes) is = tt
  const_kind m t (elements vs) is = tt
  const_kind m t (fields vs packed) is = tt
  const_kind m t (global name) is =
      subst (λ (u : TyShape). IsOfKind (block_count m) (kind_of_ty u) (const_value m u (global name))) (sym is) (global_kind m name (global_of m name) refl)
  const_kind m t (address inbounds u base indices) is =
      let strides = strides_of m.types u (row_indices indices) in
      subst (λ (v : TyShape). IsOfKind (block_count m) (kind_of_ty v) (const_value m v (address inbounds u base indices))) (sym is.0)
      (walked_kind (block_count m) inbounds strides (rooms m) (typed_value m base) (scaled_only strides (row_values m indices)) (base_kind m base is.2))

  base_kind : (m : ModuleShape) (base : TypedShape) → HasBase m.types base → IsOfKind (block_count m) OfPointer (typed_value m base)
  base_kind m (typed u c) is =
      subst (λ (v : TyShape). IsOfKind (block_count m) OfPointer (const_value m v c)) (sym is.0) (const_kind m pointer c is.2)

-- ---- bytes
-- a byte that is part of an address is part of one of a block that is there
abbrev pub HasPart : ℕ → Cell → Type 0
HasPart blocks Unknown = ⊤
HasPart blocks (Byte n) = ⊤
HasPart blocks (Part q k) = IsPointer blocks q × (k < 8)

abbrev pub HaveParts : ModuleShape → List Cell → Type 0
HaveParts m cells = AllByRecursion (HasPart (block_count m)) cells

numbers_parts : (blocks : ℕ) (bytes : List ℕ) → AllByRecursion (HasPart blocks) (map Byte bytes)
numbers_parts blocks bytes = all_mapped (HasPart blocks) Byte bytes (all_of (λ (n : ℕ). HasPart blocks (Byte n)) (λ n. tt) bytes)

address_parts : (blocks k count : ℕ) (q : Pointer) → IsPointer blocks q → k + count ≤ 8 → AllByRecursion (HasPart blocks) (parts_from k count q)
address_parts blocks k zero q is few = tt
address_parts blocks k (suc count) q is few = ((is, omega arith), address_parts blocks (suc k) count q is (omega arith))

value_parts : (blocks : ℕ) (access : Access) (kind : Kind) (v : Value) → IsOfKind blocks kind v → AllByRecursion (HasPart blocks) (cells_of access v)
value_parts blocks access kind Poison is = all_replicated (HasPart blocks) (access_size access) Unknown tt
value_parts blocks access kind (Integer width n) is = numbers_parts blocks (bytes_low_first 0 (access_size access) n)
value_parts blocks access (OfWidth width) (Address q) is = absurd is
value_parts blocks access OfPointer (Address q) is = address_cells (is_null q)
  where
    address_cells : (null : Bool) → AllByRecursion (HasPart blocks) (if null then replicate 8 (Byte 0) else parts_from 0 8 q)
    address_cells true = all_replicated (HasPart blocks) 8 (Byte 0) tt
    address_cells false = address_parts blocks 0 8 q is (omega arith)

kept_parts : (m : ModuleShape) (t : TyShape) (c : ConstShape) → HasConst m.types c t → HaveParts m (value_cells m t c)
kept_parts m t c is = value_parts (block_count m) (access_of t) (kind_of_ty t) (const_value m t c) (const_kind m t c is)

mutual
  unfolding HasConst const_cells

  pub const_parts : (m : ModuleShape) (t : TyShape) (c : ConstShape) → HasConst m.types c t → HaveParts m (const_cells m t c)
  const_parts m t (number value) is = kept_parts m t (number value) is
  const_parts m t (boolean value) is = kept_parts m t (boolean value) is
  const_parts m t null is = kept_parts m t null is
  const_parts m t undef is = all_replicated (HasPart (block_count m)) (ty_size m.types t) Unknown tt
  const_parts m t poison is = all_replicated (HasPart (block_count m)) (ty_size m.types t) Unknown tt
  const_parts m t zero_value is = all_replicated (HasPart (block_count m)) (ty_size m.types t) (Byte 0) tt
  const_parts m t (text bytes) is = numbers_parts (block_count m) bytes
  const_parts m t (elements vs) is = elements_parts m vs is.0 is.1 is.3
  const_parts m t (fields vs packed) is =
      all_joined (HasPart (block_count m)) (fields_cells m packed 0 vs) _ (fields_parts m packed 0 vs is.0 is.2)
      (all_replicated (HasPart (block_count m)) (ty_size m.types t - length (fields_cells m packed 0 vs)) Unknown tt)
  const_parts m t (global name) is = kept_parts m t (global name) is
  const_parts m t (address inbounds u base indices) is = kept_parts m t (address inbounds u base indices) is

  typed_parts : (m : ModuleShape) (v : TypedShape) (t : TyShape) → HasTyped m.types v t → HaveParts m (typed_cells m v)
  typed_parts m (typed u c) t is = const_parts m u c (subst (λ (z : TyShape). HasConst m.types c z) (sym is.0) is.1)

  elements_parts : (m : ModuleShape) (vs : TypedShapes) (count : ℕ) (element : TyShape) → HaveElements m.types vs count element
      → HaveParts m (elements_cells m vs)
  elements_parts m no_values count element have = tt
  elements_parts m (values v vs) zero element have = absurd have
  elements_parts m (values v vs) (suc count) element have =
      all_joined (HasPart (block_count m)) (typed_cells m v) (elements_cells m vs) (typed_parts m v element have.0) (elements_parts m vs count element have.1)

  fields_parts : (m : ModuleShape) (packed : Bool) (at : ℕ) (vs : TypedShapes) (row : TyShapes) → HaveFields m.types vs row
      → HaveParts m (fields_cells m packed at vs)
  fields_parts m packed at no_values row have = tt
  fields_parts m packed at (values v vs) no_types have = absurd have
  fields_parts m packed at (values v vs) (types t row) have =
      all_joined (HasPart (block_count m)) (gap_before m packed at v ++ typed_cells m v) (fields_cells m packed (end_of m packed at v) vs)
      (all_joined (HasPart (block_count m)) (gap_before m packed at v) (typed_cells m v) (all_replicated (HasPart (block_count m)) _ Unknown tt)
      (typed_parts m v t have.0))
      (fields_parts m packed (end_of m packed at v) vs row have.1)

-- a byte that holds a number below 256, or a part of such an address, may be in memory
is_cell : (blocks : ℕ) (c : Cell) → HasByte c → HasPart blocks c → IsCell blocks c
is_cell blocks Unknown byte part = tt
is_cell blocks (Byte n) byte part = byte
is_cell blocks (Part q k) byte part = part

pub are_cells : (blocks : ℕ) (cells : List Cell) → AllByRecursion HasByte cells → AllByRecursion (HasPart blocks) cells → AllByRecursion (IsCell blocks) cells
are_cells blocks [] bytes parts = tt
are_cells blocks (c ∷ cells) bytes parts = (is_cell blocks c bytes.0 parts.0, are_cells blocks cells bytes.1 parts.1)
