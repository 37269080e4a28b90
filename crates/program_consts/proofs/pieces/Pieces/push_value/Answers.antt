use Rattle.std.proofs.Common.{◌≡◌, ℕ, List, ◌++◌, map, length, take, replicate, OnOk, arith, sym, ap, subst, ◌∙◌}
use Rattle.std.specs.Int.{bytes_low_first}
use Rattle.std.proofs.lemmas.List.{length-take}
use Rattle.ir_tree.specs.ShapeOf.{ty_shape}
use Rattle.ir_model.specs.Values.{Unknown, Byte}
use Rattle.ir_model.specs.Memory.{access_size, cells_of}
use Rattle.ir_program.specs.Constants.{access_of}
use Rattle.mem_cells.specs.declared.values.Value.{Value}
use Rattle.mem_cells.specs.Shapes.{value_shape}
use Rattle.program_consts.specs.Pieces.{HasCells}
use Rattle.program_consts.proofs.Added.{low_bytes}
use Rattle.program_consts.proofs.pieces.Pieces.push_value.Goals as goal

pub slice_bounds-bytes-end : goal.slice_bounds-bytes-end
slice_bounds-bytes-end c =
    let long : length c.to_le_bytes-bytes.result ≡ 8 = ap (λ (z : List ℕ). length z) c.to_le_bytes-bytes.ensures in
    omega (arith, long, c.value_size.ensures.small)

pub slice_bounds-push_bytes-end : goal.slice_bounds-push_bytes-end
slice_bounds-push_bytes-end c =
    let long : length c.to_le_bytes-bytes.result ≡ 8 = ap (λ (z : List ℕ). length z) c.to_le_bytes-bytes.ensures in
    omega (arith, length-take c.value_size.result c.to_le_bytes-bytes.result, long, c.value_size.ensures.small)

pub returns-in-Integer : goal.returns-in-Integer
returns-in-Integer c names cells has =
    let access = access_of (ty_shape names c.args.ty.now) in
    let n : ℕ = c.in-Integer.number in
    let low : take c.value_size.result c.to_le_bytes-bytes.result ≡ bytes_low_first 0 (access_size access) n =
    ap (λ (z : List ℕ). take c.value_size.result z) c.to_le_bytes-bytes.ensures
    ∙ low_bytes 0 8 c.value_size.result n c.value_size.ensures.small ∙ ap (λ (k : ℕ). bytes_low_first 0 k n) (c.value_size.ensures.size names) in
    subst (λ (v : Value). OnOk c.push_bytes.result (HasCells (cells ++ cells_of access (value_shape v)) c.push_bytes.new.self)) (sym c.in-Integer.is)
    (subst (λ (z : List ℕ). OnOk c.push_bytes.result (HasCells (cells ++ map Byte z) c.push_bytes.new.self)) low (c.push_bytes.ensures cells has))

pub returns-in-Poison : goal.returns-in-Poison
returns-in-Poison c names cells has =
    let access = access_of (ty_shape names c.args.ty.now) in
    subst (λ (v : Value). OnOk c.push_poison.result (HasCells (cells ++ cells_of access (value_shape v)) c.push_poison.new.self)) (sym c.in-Poison.is)
    (subst (λ (k : ℕ). OnOk c.push_poison.result (HasCells (cells ++ replicate k Unknown) c.push_poison.new.self))
    (c.value_size-in-Poison.ensures.size names) (c.push_poison.ensures cells has))
