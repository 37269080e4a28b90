-- Where the places of a module that was read stand in the text.
use Rattle.std.proofs.Common.{◌≡◌, ℕ, zero, suc, ◌<◌, List, [], ◌∷◌, length, map, Option, Some, None, Vec, refl, sym, ◌∙◌, ap, arith, slice_get, option_and_then}
use Rattle.std.specs.declared.alloc.Global.{Global}
use Rattle.std.proofs.lemmas.List.{length-map}
use Rattle.std.proofs.lemmas.Option.{slice_get_within, same_Some}
use Rattle.ir_tree.specs.Shape.{InstShape, BlockShape, FunctionShape}
use Rattle.ir_tree.specs.ShapeOf.{inst_shape, block_shape, function_shape, module_shape}
use Rattle.ir_tree.specs.declared.module.Inst.{Inst}
use Rattle.ir_tree.specs.declared.module.Block.{Block}
use Rattle.ir_tree.specs.declared.module.Function.{Function}
use Rattle.ir_tree.specs.declared.parsed.Parsed.{Parsed}
use Rattle.ir_rules.specs.Places.{inst_at_place, spot_of}
use Rattle.ir_rules.specs.Values.{inst_at}

-- an element that a list has at a number, where the list is long enough
pub element_at : {X : Type 0} (xs : List X) (k : ℕ) → k < length xs → (x : X) × (slice_get xs k ≡ Some x)
element_at [] k within = absurd (omega arith)
element_at (x ∷ xs) zero within = (x, refl)
element_at (x ∷ xs) (suc k) within = element_at xs k (omega arith)

-- the element that another one is mapped of
pub mapped_of : {X S : Type 0} (f : X → S) (xs : List X) (k : ℕ) (s : S) → slice_get (map f xs) k ≡ Some s → (x : X) × (slice_get xs k ≡ Some x) × (f x ≡ s)
mapped_of f [] k s e = cc
mapped_of f (x ∷ xs) zero s e = (x, refl, same_Some (f x) s e)
mapped_of f (x ∷ xs) (suc k) s e = mapped_of f xs k s e

-- an item that is there has a spot
pub item_spotted : {X S : Type 0} (f : X → S) (xs : List X) (spots : List ℕ) → length spots ≡ length xs → (k : ℕ) (s : S) → slice_get (map f xs) k ≡ Some s
    → (at : ℕ) × (slice_get spots k ≡ Some at)
item_spotted f xs spots long k s e =
    let item = mapped_of f xs k s e in
    let within : k < length xs = slice_get_within xs k item.0 item.1 in
    element_at spots k (omega arith)

-- ---- rows that are as long as others
-- the row that belongs to another one, where rows are mapped to the same
pub row_at : {X Y Z : Type 0} (long : X → Z) (many : Y → Z) (rows : List X) (items : List Y) → map long rows ≡ map many items → (k : ℕ) (y : Y)
    → slice_get items k ≡ Some y → (x : X) × (slice_get rows k ≡ Some x) × (long x ≡ many y)
row_at long many rows [] same k y e = cc
row_at long many [] (z ∷ items) same k y e = cc
row_at long many (w ∷ rows) (z ∷ items) same zero y e =
    let here : long w ≡ many z = cc in
    (w, refl, here ∙ ap many (same_Some z y e))
row_at long many (w ∷ rows) (z ∷ items) same (suc k) y e =
    let rest : map long rows ≡ map many items = cc in
    row_at long many rows items rest k y e

pub as_long : {X Y Z : Type 0} (long : X → Z) (many : Y → Z) (rows : List X) (items : List Y) → map long rows ≡ map many items → length rows ≡ length items
as_long long many rows items same = sym (length-map rows long) ∙ ap length same ∙ length-map items many

abbrev pub Rows : Type 0
Rows = Vec (Vec ℕ Global) Global

-- how many spots there are in each row, and how many instructions in each block
abbrev pub row_lengths : Rows → List ℕ
row_lengths rows = map (λ (row : Vec ℕ Global). length row.items) rows.items

abbrev pub block_lengths : Function → List ℕ
block_lengths f = map (λ (b : Block). length b.insts.items) f.blocks.items

-- the spots of the instructions of a function, and of a block: as many as there are instructions
pub record FunctionSpots (p : Parsed) (k : ℕ) (f : Function) : Type 0 where
  pub rows : Rows
  pub has_rows : slice_get p.spots.insts.items k ≡ Some rows
  pub long : row_lengths rows ≡ block_lengths f

pub record BlockSpots (p : Parsed) (k b : ℕ) (x : Block) : Type 0 where
  pub rows : Rows
  pub row : Vec ℕ Global
  pub has_rows : slice_get p.spots.insts.items k ≡ Some rows
  pub has_row : slice_get rows.items b ≡ Some row
  pub long : length row.items ≡ length x.insts.items

pub function_spots : (p : Parsed) (k : ℕ) (f : Function) → slice_get p.«module».functions.items k ≡ Some f → FunctionSpots p k f
function_spots p k f e =
    let at = row_at row_lengths block_lengths p.spots.insts.items p.«module».functions.items p.insts_spotted k f e in
    record { rows = at.0; has_rows = at.1; long = at.2 }

pub block_spots : (p : Parsed) (k b : ℕ) (f : Function) (x : Block) → slice_get p.«module».functions.items k ≡ Some f → slice_get f.blocks.items b ≡ Some x
    → BlockSpots p k b x
block_spots p k b f x e h =
    let whole = function_spots p k f e in
    let at = row_at (λ (row : Vec ℕ Global). length row.items) (λ (y : Block). length y.insts.items) whole.rows.items f.blocks.items whole.long b x h in
    record { rows = whole.rows; row = at.0; has_rows = whole.has_rows; has_row = at.1; long = at.2 }

-- ---- an instruction and its spot
then_of : {A B : Type 0} (g : A → Option B) (o : Option A) (y : B) → option_and_then g o ≡ Some y → (a : A) × (o ≡ Some a) × (g a ≡ Some y)
then_of g None y e = cc
then_of g (Some a) y e = (a, refl, e)

pub inst_spot : (p : Parsed) (k b i at : ℕ) (rows : Rows) (row : Vec ℕ Global) → slice_get p.spots.insts.items k ≡ Some rows
    → slice_get rows.items b ≡ Some row → slice_get row.items i ≡ Some at → spot_of p.spots (inst_at_place k b i) ≡ Some at
inst_spot p k b i at rows row has_rows has_row has_spot = rw (has_rows, has_row) has_spot

-- the rows in which the spot of an instruction stands
pub record InRows (p : Parsed) (k b i at : ℕ) : Type 0 where
  pub rows : Rows
  pub row : Vec ℕ Global
  pub has_rows : slice_get p.spots.insts.items k ≡ Some rows
  pub has_row : slice_get rows.items b ≡ Some row
  pub has_spot : slice_get row.items i ≡ Some at

pub in_rows : (p : Parsed) (k b i at : ℕ) → spot_of p.spots (inst_at_place k b i) ≡ Some at → InRows p k b i at
in_rows p k b i at e =
    let row = then_of (λ (block : Vec ℕ Global). slice_get block.items i)
    (option_and_then (λ (blocks : Rows). slice_get blocks.items b) (slice_get p.spots.insts.items k)) at e in
    let rows = then_of (λ (blocks : Rows). slice_get blocks.items b) (slice_get p.spots.insts.items k) row.0 row.1 in
    record { rows = rows.0; row = row.0; has_rows = rows.1; has_row = rows.2; has_spot = row.2 }

-- an instruction of a function, in its block
pub record InBlock (names : List (List ℕ)) (f : Function) (b i : ℕ) (x : InstShape) : Type 0 where
  pub block : Block
  pub inst : Inst
  pub has_block : slice_get f.blocks.items b ≡ Some block
  pub has_inst : slice_get block.insts.items i ≡ Some inst
  pub shape : inst_shape names inst ≡ x

pub in_block : (names : List (List ℕ)) (f : Function) (b i : ℕ) (x : InstShape) → inst_at (function_shape names f) b i ≡ Some x → InBlock names f b i x
in_block names f b i x e =
    let shape = then_of (λ (y : BlockShape). slice_get y.insts i) (slice_get (map (block_shape names) f.blocks.items) b) x e in
    let block = mapped_of (block_shape names) f.blocks.items b shape.0 shape.1 in
    let inst = mapped_of (inst_shape names) block.0.insts.items i x (ap (λ (y : BlockShape). slice_get y.insts i) block.2 ∙ shape.2) in
    record { block = block.0; inst = inst.0; has_block = block.1; has_inst = inst.1; shape = inst.2 }

-- an instruction that is there has a spot
pub inst_spotted : (p : Parsed) (k b i : ℕ) (f : FunctionShape) (x : InstShape) → slice_get (module_shape p.«module»).functions k ≡ Some f
    → inst_at f b i ≡ Some x → (at : ℕ) × (spot_of p.spots (inst_at_place k b i) ≡ Some at)
inst_spotted p k b i f x e h =
    let names = p.«module».names in
    let function = mapped_of (function_shape names) p.«module».functions.items k f e in
    let inst = in_block names function.0 b i x (ap (λ (g : FunctionShape). inst_at g b i) function.2 ∙ h) in
    let spots = block_spots p k b function.0 inst.block function.1 inst.has_block in
    let within : i < length inst.block.insts.items = slice_get_within inst.block.insts.items i inst.inst inst.has_inst in
    let spot = element_at spots.row.items i (omega (arith, spots.long)) in
    (spot.0, inst_spot p k b i spot.0 spots.rows spots.row spots.has_rows spots.has_row spot.1)
