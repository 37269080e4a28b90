-- The spots of the instructions of a module that was read: as many rows and spots as blocks and instructions.
use Rattle.std.proofs.Common.{◌≡◌, ℕ, zero, suc, ◌<◌, List, [], ◌∷◌, length, map, get_or, Option, Some, None, Vec, refl, sym, ◌∙◌, ap, arith, slice_get, option_and_then}
use Rattle.std.specs.declared.alloc.Global.{Global}
use Rattle.std.proofs.lemmas.List.{length-map}
use Rattle.std.proofs.lemmas.Option.{slice_get_read, slice_get_within, get_or_from_slice_get, same_Some}
use Rattle.ir_tree.specs.declared.module.Block.{Block}
use Rattle.ir_tree.specs.declared.module.Function.{Function}
use Rattle.ir_tree.specs.declared.parsed.Parsed.{Parsed}
use Rattle.ir_rules.specs.Places.{inst_at_place, spot_of}

-- the row that belongs to another one, where rows are mapped to the same
row_at : {X Y Z : Type 0} (long : X → Z) (many : Y → Z) (rows : List X) (items : List Y) → map long rows ≡ map many items → (k : ℕ) (y : Y)
    → slice_get items k ≡ Some y → (x : X) × (slice_get rows k ≡ Some x) × (long x ≡ many y)
row_at long many rows [] same k y e = cc
row_at long many [] (z ∷ items) same k y e = cc
row_at long many (w ∷ rows) (z ∷ items) same zero y e =
    let here : long w ≡ many z = cc in
    (w, refl, here ∙ ap many (same_Some z y e))
row_at long many (w ∷ rows) (z ∷ items) same (suc k) y e =
    let rest : map long rows ≡ map many items = cc in
    row_at long many rows items rest k y e

as_long : {X Y Z : Type 0} (long : X → Z) (many : Y → Z) (rows : List X) (items : List Y) → map long rows ≡ map many items → length rows ≡ length items
as_long long many rows items same = sym (length-map rows long) ∙ ap length same ∙ length-map items many

abbrev pub Rows : Type 0
Rows = Vec (Vec ℕ Global) Global

abbrev row_lengths : Rows → List ℕ
row_lengths rows = map (λ (row : Vec ℕ Global). length row.items) rows.items

abbrev block_lengths : Function → List ℕ
block_lengths f = map (λ (b : Block). length b.insts.items) f.blocks.items

-- the rows of a function, and the row of a block
pub record FunctionRows (p : Parsed) (k : ℕ) (f : Function) : Type 0 where
  pub rows : Rows
  pub has_rows : slice_get p.spots.insts.items k ≡ Some rows
  pub same : row_lengths rows ≡ block_lengths f
  pub long : length rows.items ≡ length f.blocks.items

pub record BlockRow (p : Parsed) (k b : ℕ) (f : Function) (x : Block) : Type 0 where
  pub of_function : FunctionRows p k f
  pub row : Vec ℕ Global
  pub has_row : slice_get of_function.rows.items b ≡ Some row
  pub long : length row.items ≡ length x.insts.items

pub function_rows : (p : Parsed) (k : ℕ) (f : Function) → slice_get p.«module».functions.items k ≡ Some f → FunctionRows p k f
function_rows p k f e =
    let at = row_at row_lengths block_lengths p.spots.insts.items p.«module».functions.items p.insts_spotted k f e in
    record {
      rows = at.0;
      has_rows = at.1;
      same = at.2;
      long = as_long (λ (row : Vec ℕ Global). length row.items) (λ (y : Block). length y.insts.items) at.0.items f.blocks.items at.2;
    }

pub block_row : (p : Parsed) (k b : ℕ) (f : Function) (x : Block) → slice_get p.«module».functions.items k ≡ Some f → slice_get f.blocks.items b ≡ Some x
    → BlockRow p k b f x
block_row p k b f x e h =
    let whole = function_rows p k f e in
    let at = row_at (λ (row : Vec ℕ Global). length row.items) (λ (y : Block). length y.insts.items) whole.rows.items f.blocks.items whole.same b x h in
    record { of_function = whole; row = at.0; has_row = at.1; long = at.2 }

-- what code reads
pub rows_read : (p : Parsed) (k : ℕ) (f : Function) (rows : Rows) (are : FunctionRows p k f) → rows ≡ get_or p.spots.insts.items k rows → rows ≡ are.rows
rows_read p k f rows are is = is ∙ get_or_from_slice_get p.spots.insts.items k are.rows rows are.has_rows

pub row_read : (p : Parsed) (k b : ℕ) (f : Function) (x : Block) (rows : Rows) (row : Vec ℕ Global) (are : BlockRow p k b f x)
    → rows ≡ get_or p.spots.insts.items k rows → row ≡ get_or rows.items b row → row ≡ are.row
row_read p k b f x rows row are is has =
    let same = rows_read p k f rows are.of_function is in
    has ∙ ap (λ (r : Rows). get_or r.items b row) same ∙ get_or_from_slice_get are.of_function.rows.items b are.row row are.has_row

-- the spot of an instruction is that in its row
pub spot_is : (p : Parsed) (k b i at : ℕ) (rows : Rows) (row : Vec ℕ Global) → slice_get p.spots.insts.items k ≡ Some rows → slice_get rows.items b ≡ Some row
    → slice_get row.items i ≡ Some at → spot_of p.spots (inst_at_place k b i) ≡ Some at
spot_is p k b i at rows row has_rows has_row has_spot = rw (has_rows, has_row) has_spot

-- the rows in which the spot of an instruction stands
pub record InRows (p : Parsed) (k b i at : ℕ) : Type 0 where
  pub rows : Rows
  pub row : Vec ℕ Global
  pub has_rows : slice_get p.spots.insts.items k ≡ Some rows
  pub has_row : slice_get rows.items b ≡ Some row
  pub has_spot : slice_get row.items i ≡ Some at

pub then_of : {A B : Type 0} (g : A → Option B) (o : Option A) (y : B) → option_and_then g o ≡ Some y → (a : A) × (o ≡ Some a) × (g a ≡ Some y)
then_of g None y e = cc
then_of g (Some a) y e = (a, refl, e)

pub in_rows : (p : Parsed) (k b i at : ℕ) → spot_of p.spots (inst_at_place k b i) ≡ Some at → InRows p k b i at
in_rows p k b i at e =
    let row = then_of (λ (block : Vec ℕ Global). slice_get block.items i)
    (option_and_then (λ (blocks : Rows). slice_get blocks.items b) (slice_get p.spots.insts.items k)) at e in
    let rows = then_of (λ (blocks : Rows). slice_get blocks.items b) (slice_get p.spots.insts.items k) row.0 row.1 in
    record { rows = rows.0; row = row.0; has_rows = rows.1; has_row = rows.2; has_spot = row.2 }

-- what has a spot is within its block, and its block within its function
pub inst_within : (p : Parsed) (k b i at : ℕ) (f : Function) (x : Block) → slice_get p.«module».functions.items k ≡ Some f
    → slice_get f.blocks.items b ≡ Some x → spot_of p.spots (inst_at_place k b i) ≡ Some at → i < length x.insts.items
inst_within p k b i at f x there has_block e =
    let found = in_rows p k b i at e in
    let row = block_row p k b f x there has_block in
    let rows_same : found.rows ≡ row.of_function.rows = same_Some _ _ (sym found.has_rows ∙ row.of_function.has_rows) in
    let same : found.row ≡ row.row =
    same_Some _ _ (sym found.has_row ∙ ap (λ (r : Rows). slice_get r.items b) rows_same ∙ row.has_row) in
    let within : i < length found.row.items = slice_get_within found.row.items i at found.has_spot in
    let long : length row.row.items ≡ length x.insts.items = row.long in
    let equal : length found.row.items ≡ length row.row.items = ap (λ (r : Vec ℕ Global). length r.items) same in
    omega arith

pub block_within : (p : Parsed) (k b i at : ℕ) (f : Function) → slice_get p.«module».functions.items k ≡ Some f
    → spot_of p.spots (inst_at_place k b i) ≡ Some at → b < length f.blocks.items
block_within p k b i at f there e =
    let found = in_rows p k b i at e in
    let whole = function_rows p k f there in
    let same : found.rows ≡ whole.rows = same_Some _ _ (sym found.has_rows ∙ whole.has_rows) in
    let within : b < length found.rows.items = slice_get_within found.rows.items b found.row found.has_row in
    let long : length whole.rows.items ≡ length f.blocks.items = whole.long in
    let equal : length found.rows.items ≡ length whole.rows.items = ap (λ (r : Rows). length r.items) same in
    omega arith

-- ---- what code reads of the spots
pub rows_long : (p : Parsed) (k : ℕ) (f : Function) (rows : Rows) → slice_get p.«module».functions.items k ≡ Some f
    → rows ≡ get_or p.spots.insts.items k rows → length rows.items ≡ length f.blocks.items
rows_long p k f rows there is =
    let are = function_rows p k f there in
    ap (λ (r : Rows). length r.items) (rows_read p k f rows are is) ∙ are.long

pub row_long : (p : Parsed) (k b : ℕ) (f : Function) (x : Block) (rows : Rows) (row : Vec ℕ Global) → slice_get p.«module».functions.items k ≡ Some f
    → slice_get f.blocks.items b ≡ Some x → rows ≡ get_or p.spots.insts.items k rows → row ≡ get_or rows.items b row
    → length row.items ≡ length x.insts.items
row_long p k b f x rows row there has_block is has =
    let are = block_row p k b f x there has_block in
    ap (λ (r : Vec ℕ Global). length r.items) (row_read p k b f x rows row are is has) ∙ are.long

pub spot_read : (p : Parsed) (k b i at : ℕ) (f : Function) (x : Block) (rows : Rows) (row : Vec ℕ Global) → slice_get p.«module».functions.items k ≡ Some f
    → slice_get f.blocks.items b ≡ Some x → i < length x.insts.items → rows ≡ get_or p.spots.insts.items k rows → row ≡ get_or rows.items b row
    → at ≡ get_or row.items i at → spot_of p.spots (inst_at_place k b i) ≡ Some at
spot_read p k b i at f x rows row there has_block within is has read =
    let are = block_row p k b f x there has_block in
    let same : row ≡ are.row = row_read p k b f x rows row are is has in
    let long : length are.row.items ≡ length x.insts.items = are.long in
    spot_is p k b i at are.of_function.rows are.row are.of_function.has_rows are.has_row
    (slice_get_read are.row.items (length are.row.items) i at refl (omega arith) (read ∙ ap (λ (r : Vec ℕ Global). get_or r.items i at) same))
