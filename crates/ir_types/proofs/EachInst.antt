-- Looks at the instructions of a block, of a function, of all functions.
use Rattle.std.proofs.Common.{◌≡◌, ℕ, ◌<◌, ◌≤◌, List, length, map, true, Option, Some, Vec, get_or, refl, sym, ◌∙◌, ap, subst, arith, slice_get, option_map, option_and_then}
use Rattle.std.specs.declared.alloc.Global.{Global}
use Rattle.std.proofs.lemmas.Option.{slice_get_read, slice_get_within, slice_get-map, get_or_from_slice_get, same_Some}
use Rattle.ir_tree.specs.Known.{inst_known, block_known, function_known, module_known}
use Rattle.ir_tree.specs.Shape.{BlockShape, FunctionShape}
use Rattle.ir_tree.specs.ShapeOf.{module_shape, function_shape, block_shape, inst_shape}
use Rattle.ir_tree.specs.declared.module.Inst.{Inst}
use Rattle.ir_tree.specs.declared.module.Block.{Block}
use Rattle.ir_tree.specs.declared.module.Function.{Function}
use Rattle.ir_tree.specs.declared.module.Module.{Module}
use Rattle.ir_tree.specs.declared.parsed.Parsed.{Parsed}
use Rattle.ir_tree.proofs.Grows.{and_right}
use Rattle.ir_names.proofs.AllKnown.{one_of_all}
use Rattle.ir_names.proofs.Entered.{functions_known}
use Rattle.ir_rules.specs.Places.{inst_at_place, spot_of}
use Rattle.ir_rules.specs.Values.{inst_at}
use Rattle.ir_rules.specs.Instructions.{Around}
use Rattle.ir_rules.specs.TypeRules.{IsProperInst}
use Rattle.ir_types.specs.Looks.{IsInBlock, IsInFunction, IsInstPlace, HasLooked}
use Rattle.ir_types.proofs.Looking.{Below, looked_all}
use Rattle.ir_types.proofs.Spotted.{Rows, row_lengths, block_lengths, row_at, as_long, function_spots, in_rows}
use Rattle.ir_types.proofs.EachItem.{AreItems}

-- the rows of spots that belong to a function
pub record AreRowsOf (p : Parsed) (k : ℕ) (f : Function) (rows : Rows) : Type 0 where
  pub has_rows : slice_get p.spots.insts.items k ≡ Some rows
  pub long : row_lengths rows ≡ block_lengths f

pub rows_read : (p : Parsed) (k : ℕ) (f : Function) (rows : Rows) → slice_get p.«module».functions.items k ≡ Some f → rows ≡ get_or p.spots.insts.items k rows
    → AreRowsOf p k f rows
rows_read p k f rows there are =
    let whole = function_spots p k f there in
    let same : rows ≡ whole.rows = are ∙ get_or_from_slice_get p.spots.insts.items k whole.rows rows whole.has_rows in
    record { has_rows = whole.has_rows ∙ ap (λ (r : Rows). Some r) (sym same); long = ap row_lengths same ∙ whole.long }

-- there are as many rows as blocks
pub as_many_rows : (p : Parsed) (k : ℕ) (f : Function) (rows : Rows) → AreRowsOf p k f rows → length rows.items ≡ length f.blocks.items
as_many_rows p k f rows are = as_long (λ (row : Vec ℕ Global). length row.items) (λ (x : Block). length x.insts.items) rows.items f.blocks.items are.long

-- a block that was read, with the spots of its instructions
pub record IsBlockAt (p : Parsed) (k b : ℕ) (f : Function) (x : Block) (row : Vec ℕ Global) : Type 0 where
  pub there : slice_get p.«module».functions.items k ≡ Some f
  pub has_block : slice_get f.blocks.items b ≡ Some x
  pub rows : Rows
  pub has_rows : slice_get p.spots.insts.items k ≡ Some rows
  pub has_row : slice_get rows.items b ≡ Some row
  pub long : length row.items ≡ length x.insts.items

pub block_read : (p : Parsed) (k b : ℕ) (f : Function) (x : Block) (rows : Rows) (row : Vec ℕ Global) → slice_get p.«module».functions.items k ≡ Some f
    → b < length f.blocks.items → x ≡ get_or f.blocks.items b x → AreRowsOf p k f rows → row ≡ get_or rows.items b row → IsBlockAt p k b f x row
block_read p k b f x rows row there within is are row_is =
    let has_block = slice_get_read f.blocks.items (length f.blocks.items) b x refl within is in
    let at = row_at (λ (r : Vec ℕ Global). length r.items) (λ (y : Block). length y.insts.items) rows.items f.blocks.items are.long b x has_block in
    let same : row ≡ at.0 = row_is ∙ get_or_from_slice_get rows.items b at.0 row at.1 in
    record {
      there = there;
      has_block = has_block;
      rows = rows;
      has_rows = are.has_rows;
      has_row = at.1 ∙ ap (λ (r : Vec ℕ Global). Some r) (sym same);
      long = ap (λ (r : Vec ℕ Global). length r.items) same ∙ at.2;
    }

-- what is around the instructions of a function
abbrev pub around_of : Parsed → Function → Around
around_of p f = record { within = module_shape p.«module»; function = function_shape p.«module».names f }

-- the instructions of a block are items of one kind
pub are_insts : (p : Parsed) (k b : ℕ) (f : Function) (x : Block) (row : Vec ℕ Global) → IsBlockAt p k b f x row
    → AreItems p (λ i. inst_at_place k b i) (inst_shape p.«module».names) (IsProperInst (around_of p f) b) x.insts.items row.items
are_insts p k b f x row is = record {
  long = is.long;
  spotted = λ i. rw (is.has_rows, is.has_row) refl;
  proper = λ i. (
    λ all g y e h.
        let same = same_Some _ g (sym there ∙ e) in
        subst (λ (z : FunctionShape). IsProperInst (record { within = module_shape p.«module»; function = z }) b y) same
        (all y (sym (inst_is i) ∙ ap (λ (z : FunctionShape). inst_at z b i) same ∙ h)),
    λ proper y e. proper (function_shape names f) y there (inst_is i ∙ e),
  );
}
  where
    names : List (List ℕ)
    names = p.«module».names

    there : slice_get (module_shape p.«module»).functions k ≡ Some (function_shape p.«module».names f)
    there = slice_get-map (function_shape p.«module».names) p.«module».functions.items k ∙ ap (option_map (function_shape p.«module».names)) is.there

    inst_is : (i : ℕ) → inst_at (function_shape p.«module».names f) b i ≡ slice_get (map (inst_shape p.«module».names) x.insts.items) i
    inst_is i =
        ap (option_and_then (λ (y : BlockShape). slice_get y.insts i))
        (slice_get-map (block_shape p.«module».names) f.blocks.items b ∙ ap (option_map (block_shape p.«module».names)) is.has_block)

-- the names of a function, and of an instruction of it, are known
pub function_is_known : (m : Module) (k : ℕ) (f : Function) → module_known m ≡ true → k < length m.functions.items → f ≡ get_or m.functions.items k f
    → function_known (length m.names) f ≡ true
function_is_known m k f known within is =
    subst (λ (g : Function). function_known (length m.names) g ≡ true) (sym is)
    (one_of_all (function_known (length m.names)) m.functions.items k f within (functions_known m known))

pub inst_is_known : (n : ℕ) (f : Function) (b i : ℕ) (x : Block) (y : Inst) → function_known n f ≡ true → b < length f.blocks.items
    → x ≡ get_or f.blocks.items b x → i < length x.insts.items → y ≡ get_or x.insts.items i y → inst_known n y ≡ true
inst_is_known n f b i x y known within is inside has =
    let block = subst (λ (z : Block). block_known n z ≡ true) (sym is) (one_of_all (block_known n) f.blocks.items b x within (and_right _ _ known)) in
    subst (λ (z : Inst). inst_known n z ≡ true) (sym has) (one_of_all (inst_known n) x.insts.items i y inside (and_right _ _ block))

-- all blocks of a function, and all functions
pub blocks_all : (p : Parsed) (k : ℕ) (f : Function) (n : ℕ) (found : Option ℕ) → slice_get p.«module».functions.items k ≡ Some f
    → length f.blocks.items ≤ n → HasLooked p (Below (IsInBlock k) n) found → HasLooked p (IsInFunction k) found
blocks_all p k f n found there past =
    looked_all p (Below (IsInBlock k) n) (IsInFunction k) found
    (λ q at h e.
    let rows = in_rows p k h.0 h.1.0 at (ap (spot_of p.spots) (sym h.1.1) ∙ e) in
    let whole = function_spots p k f there in
    let same : whole.rows ≡ rows.rows = same_Some _ _ (sym whole.has_rows ∙ rows.has_rows) in
    let many = as_many_rows p k f rows.rows (record { has_rows = rows.has_rows; long = ap row_lengths (sym same) ∙ whole.long }) in
    let within = slice_get_within rows.rows.items h.0 rows.row rows.has_row in
    (h.0, h.1, omega arith))

pub functions_all : (p : Parsed) (n : ℕ) (found : Option ℕ) → length p.«module».functions.items ≤ n → HasLooked p (Below IsInFunction n) found
    → HasLooked p IsInstPlace found
functions_all p n found past =
    looked_all p (Below IsInFunction n) IsInstPlace found
    (λ q at h e.
    let rows = in_rows p h.0 h.1.0 h.1.1.0 at (ap (spot_of p.spots) (sym h.1.1.1) ∙ e) in
    let many = as_long row_lengths block_lengths p.spots.insts.items p.«module».functions.items p.insts_spotted in
    let within = slice_get_within p.spots.insts.items h.0 rows.rows rows.has_rows in
    (h.0, h.1, omega arith))
