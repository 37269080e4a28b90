-- The instruction that stands at an offset.
use Rattle.std.proofs.Common.{◌≡◌, ℕ, ◌<◌, ◌≤◌, zero, suc, Bool, true, false, List, [], ◌∷◌, length, map, Option, Some, None, refl, sym, ◌∙◌, ap, subst, arith, slice_get, get_or, Vec}
use Rattle.std.specs.Prelude.{IsSome}
use Rattle.std.specs.Option.{option_and_then, option_map}
use Rattle.std.specs.declared.alloc.Global.{Global}
use Rattle.std.proofs.lemmas.Option.{slice_get-map, slice_get-get_or, slice_get_within}
use Rattle.std.specs.List.{list_all}
use Rattle.ir_tree.specs.Shape.{FunctionShape, BlockShape, InstShape}
use Rattle.ir_tree.specs.ShapeOf.{module_shape, function_shape, block_shape, inst_shape, body_shape}
use Rattle.ir_tree.specs.Known.{module_known, function_known, block_known, inst_known, body_known}
use Rattle.ir_tree.proofs.Grows.{and_left, and_right}
use Rattle.ir_tree.specs.declared.module.Function.{Function}
use Rattle.ir_tree.specs.declared.module.Block.{Block}
use Rattle.ir_tree.specs.declared.module.Inst.{Inst}
use Rattle.ir_tree.specs.declared.parsed.Parsed.{Parsed}
use Rattle.ir_tree.specs.declared.parsed.Spots.{Spots}
use Rattle.ir_rules.specs.Places.{inst_at_place, spot_of}
use Rattle.ir_rules.specs.Values.{inst_at}
use Rattle.ir_rules.specs.Uses.{body_uses}
use Rattle.ir_rules.specs.Things.{is_there}
use Rattle.ir_rules.specs.NameRules.{AreThere}
use Rattle.ir_names.specs.declared.scopes.Scopes.{Scopes}
use Rattle.ir_names.specs.Tables.{FunctionTable}
use Rattle.ir_names.specs.Scopes.{AreScopesOf}
use Rattle.ir_missing.specs.Tells.{Inside, Tells}
use Rattle.ir_names.proofs.Entered.{functions_known}
use Rattle.ir_missing.specs.Missing.{block_spots}

pub some_of : {X : Type 0} (o : Option X) → IsSome o → (x : X) × (o ≡ Some x)
some_of None is = cc
some_of (Some x) is = (x, refl)

pub is_some_of : {X : Type 0} (o : Option X) (x : X) → o ≡ Some x → IsSome o
is_some_of None x e = cc
is_some_of (Some y) x e = refl

and_then : {X Y : Type 0} (f : X → Option Y) (o : Option X) (y : Y) → option_and_then f o ≡ Some y → (x : X) × (o ≡ Some x) × (f x ≡ Some y)
and_then f None y e = cc
and_then f (Some x) y e = (x, refl, e)

-- an element of a list whose measures are those of another list
beside : {X Y Z : Type 0} (f : X → Z) (g : Y → Z) (xs : List X) (ys : List Y) (k : ℕ) (x : X) → map f xs ≡ map g ys → slice_get xs k ≡ Some x
    → (y : Y) × (slice_get ys k ≡ Some y) × (f x ≡ g y)
beside f g [] ys k x same at = cc
beside f g (x' ∷ xs) [] k x same at = cc
beside f g (x' ∷ xs) (y ∷ ys) zero x same at =
    let item : x' ≡ x = cc in
    let measure : f x' ≡ g y = cc in
    (y, refl, ap f (sym item) ∙ measure)
beside f g (x' ∷ xs) (y ∷ ys) (suc k) x same at =
    let rest : map f xs ≡ map g ys = cc in
    beside f g xs ys k x rest at

-- an element within a list as long as another one
element : {X : Type 0} (xs : List X) (k : ℕ) → k < length xs → (x : X) × (slice_get xs k ≡ Some x)
element [] k within = absurd (omega arith)
element (x ∷ xs) zero within = (x, refl)
element (x ∷ xs) (suc k) within = element xs k (omega arith)

-- the offsets of the instructions of a function
abbrev pub FunctionSpots : Type 0
FunctionSpots = Vec (Vec ℕ Global) Global

-- the lists in which an offset stands
pub spot_parts : (s : Spots) (f b i at : ℕ) → spot_of s (inst_at_place f b i) ≡ Some at
    → (blocks : FunctionSpots) × (block : Vec ℕ Global) × (slice_get s.insts.items f ≡ Some blocks) × (slice_get blocks.items b ≡ Some block)
    × (slice_get block.items i ≡ Some at)
spot_parts s f b i at is =
    let inner = and_then (λ (block : Vec ℕ Global). slice_get block.items i) (block_spots s f b) at is in
    let outer = and_then (λ (blocks : FunctionSpots). slice_get blocks.items b) (slice_get s.insts.items f) inner.0 inner.1 in
    (outer.0, inner.0, outer.1, outer.2, inner.2)

pub block_parts : (s : Spots) (f b : ℕ) → IsSome (block_spots s f b)
    → (blocks : FunctionSpots) × (block : Vec ℕ Global) × (slice_get s.insts.items f ≡ Some blocks) × (slice_get blocks.items b ≡ Some block)
block_parts s f b is =
    let whole = some_of (block_spots s f b) is in
    let outer = and_then (λ (blocks : FunctionSpots). slice_get blocks.items b) (slice_get s.insts.items f) whole.0 whole.1 in
    (outer.0, whole.0, outer.1, outer.2)

-- a block and an instruction within these lists
pub block_there : (s : Spots) (f b : ℕ) (blocks : FunctionSpots) → slice_get s.insts.items f ≡ Some blocks → b < length blocks.items → IsSome (block_spots s f b)
block_there s f b blocks at within =
    let one = element blocks.items b within in
    rw at (is_some_of (slice_get blocks.items b) one.0 one.1)

pub inst_there : (s : Spots) (f b i : ℕ) (blocks : FunctionSpots) (block : Vec ℕ Global) → slice_get s.insts.items f ≡ Some blocks
    → slice_get blocks.items b ≡ Some block → i < length block.items → IsSome (spot_of s (inst_at_place f b i))
inst_there s f b i blocks block at here within =
    let one = element block.items i within in
    rw at (rw here (is_some_of (slice_get block.items i) one.0 one.1))

-- what stands at the numbers of an instruction
pub record InstAt (p : Parsed) (f b i : ℕ) : Type 0 where
  pub function : Function
  pub block : Block
  pub inst : Inst
  pub spots : Vec (Vec ℕ Global) Global
  pub in_block : Vec ℕ Global
  pub spot : ℕ
  pub function_is : slice_get p.«module».functions.items f ≡ Some function
  pub block_is : slice_get function.blocks.items b ≡ Some block
  pub inst_is : slice_get block.insts.items i ≡ Some inst
  pub spots_are : slice_get p.spots.insts.items f ≡ Some spots
  pub in_block_is : slice_get spots.items b ≡ Some in_block
  pub spot_is : slice_get in_block.items i ≡ Some spot

pub inst_spotted : (p : Parsed) (f b i : ℕ) → IsSome (spot_of p.spots (inst_at_place f b i)) → InstAt p f b i
inst_spotted p f b i is =
    let whole = some_of (spot_of p.spots (inst_at_place f b i)) is in
    let lists = spot_parts p.spots f b i whole.0 whole.1 in
    let function = beside (λ (s : FunctionSpots). map (λ (t : Vec ℕ Global). length t.items) s.items)
    (λ (g : Function). map (λ (x : Block). length x.insts.items) g.blocks.items) p.spots.insts.items p.«module».functions.items f lists.0 p.insts_spotted lists.2 in
    let block = beside (λ (t : Vec ℕ Global). length t.items) (λ (x : Block). length x.insts.items) lists.0.items function.0.blocks.items b lists.1 function.2 lists.3 in
    let inst = element block.0.insts.items i (omega (arith, block.2, slice_get_within lists.1.items i whole.0 lists.4)) in
    record {
      function = function.0;
      block = block.0;
      inst = inst.0;
      spots = lists.0;
      in_block = lists.1;
      spot = whole.0;
      function_is = function.1;
      block_is = block.1;
      inst_is = inst.1;
      spots_are = lists.2;
      in_block_is = lists.3;
      spot_is = lists.4;
    }

some_same : {Y : Type 0} (y z : Y) → Some y ≡ Some z → y ≡ z
some_same y z e = cc

-- what is read at a number is what stands there
pub read_is : {X : Type 0} (xs : List X) (k : ℕ) (x r : X) → slice_get xs k ≡ Some x → r ≡ get_or xs k r → r ≡ x
read_is xs k x r at read = read ∙ some_same (get_or xs k r) x (sym (slice_get-get_or xs k r (slice_get_within xs k x at)) ∙ at)

-- two that stand at one number are one
pub one_at : {X : Type 0} (xs : List X) (k : ℕ) (x y : X) → slice_get xs k ≡ Some x → slice_get xs k ≡ Some y → x ≡ y
one_at xs k x y at also = some_same x y (sym at ∙ also)

-- the shape of the instruction
inst_shaped : (names : List (List ℕ)) (g : Function) (x : Block) (y : Inst) (b i : ℕ) → slice_get g.blocks.items b ≡ Some x → slice_get x.insts.items i ≡ Some y
    → inst_at (function_shape names g) b i ≡ Some (inst_shape names y)
inst_shaped names g x y b i block inst =
    ap (option_and_then (λ (z : BlockShape). slice_get z.insts i)) (slice_get-map (block_shape names) g.blocks.items b ∙ ap (option_map (block_shape names)) block)
    ∙ slice_get-map (inst_shape names) x.insts.items i ∙ ap (option_map (inst_shape names)) inst

-- whether the names that it uses are there
abbrev pub inst_passes : (p : Parsed) (f b i : ℕ) → InstAt p f b i → Bool
inst_passes p f b i at =
    list_all (is_there (module_shape p.«module») (Some (function_shape p.«module».names at.function))) (body_uses (body_shape p.«module».names at.inst.body))

pub inst_whole : (p : Parsed) (f b i : ℕ) (at : InstAt p f b i) → inst_passes p f b i at ≡ true → AreThere (module_shape p.«module») (inst_at_place f b i)
inst_whole p f b i at passes g x function inst =
    let names = p.«module».names in
    let same : function_shape names at.function ≡ g =
    some_same (function_shape names at.function) g
    (sym (slice_get-map (function_shape names) p.«module».functions.items f ∙ ap (option_map (function_shape names)) at.function_is) ∙ function) in
    let one : inst_shape names at.inst ≡ x =
    some_same (inst_shape names at.inst) x
    (sym (inst_shaped names at.function at.block at.inst b i at.block_is at.inst_is) ∙ ap (λ (z : FunctionShape). inst_at z b i) same ∙ inst) in
    subst (λ (z : FunctionShape). list_all (is_there (module_shape p.«module») (Some z)) (body_uses x.body) ≡ true) same
    (subst (λ (z : InstShape). list_all (is_there (module_shape p.«module») (Some (function_shape names at.function))) (body_uses z.body) ≡ true) one passes)

true_false : (b : Bool) → b ≡ true → b ≡ false → ⊥
true_false b e f = cc

pub inst_faulty : (p : Parsed) (f b i : ℕ) (at : InstAt p f b i) → inst_passes p f b i at ≡ false → AreThere (module_shape p.«module») (inst_at_place f b i) → ⊥
inst_faulty p f b i at fails are =
    let names = p.«module».names in
    true_false (inst_passes p f b i at)
    (are (function_shape names at.function) (inst_shape names at.inst)
    (slice_get-map (function_shape names) p.«module».functions.items f ∙ ap (option_map (function_shape names)) at.function_is)
    (inst_shaped names at.function at.block at.inst b i at.block_is at.inst_is)) fails

-- an element of known ones
known_there : {X : Type 0} (known : X → Bool) (xs : List X) (k : ℕ) (x : X) → slice_get xs k ≡ Some x → list_all known xs ≡ true → known x ≡ true
known_there known [] k x at all = cc
known_there known (y ∷ ys) zero x at all = let same : y ≡ x = cc in ap known (sym same) ∙ and_left _ _ all
known_there known (y ∷ ys) (suc k) x at all = known_there known ys k x at (and_right _ _ all)

pub inst_body_known : (p : Parsed) (f b i : ℕ) (at : InstAt p f b i) → module_known p.«module» ≡ true → body_known (length p.«module».names) at.inst.body ≡ true
inst_body_known p f b i at known =
    let n = length p.«module».names in
    let function = known_there (function_known n) p.«module».functions.items f at.function at.function_is (functions_known p.«module» known) in
    let block = known_there (block_known n) at.function.blocks.items b at.block at.block_is (and_right _ _ function) in
    and_right _ _ (known_there (inst_known n) at.block.insts.items i at.inst at.inst_is (and_right _ _ block))

-- what is read at the numbers of an instruction is what stands there
pub insts_read : (p : Parsed) (f b i : ℕ) (at : InstAt p f b i) (g : Function) (x : Block) (y : Inst) → g ≡ get_or p.«module».functions.items f g
    → x ≡ get_or g.blocks.items b x → y ≡ get_or x.insts.items i y → (g ≡ at.function) × (x ≡ at.block) × (y ≡ at.inst)
insts_read p f b i at g x y function block inst =
    let one = read_is p.«module».functions.items f at.function g at.function_is function in
    let two = read_is at.function.blocks.items b at.block x at.block_is (block ∙ ap (λ (z : Function). get_or z.blocks.items b x) one) in
    (one, two, read_is at.block.insts.items i at.inst y at.inst_is (inst ∙ ap (λ (z : Block). get_or z.insts.items i y) two))

pub spots_read : (p : Parsed) (f b i : ℕ) (at : InstAt p f b i) (s : FunctionSpots) (t : Vec ℕ Global) (spot : ℕ) → s ≡ get_or p.spots.insts.items f s
    → t ≡ get_or s.items b t → spot ≡ get_or t.items i spot → (s ≡ at.spots) × (t ≡ at.in_block) × (spot ≡ at.spot)
spots_read p f b i at s t spot all list one =
    let first = read_is p.spots.insts.items f at.spots s at.spots_are all in
    let second = read_is at.spots.items b at.in_block t at.in_block_is (list ∙ ap (λ (z : FunctionSpots). get_or z.items b t) first) in
    (first, second, read_is at.in_block.items i at.spot spot at.spot_is (one ∙ ap (λ (z : Vec ℕ Global). get_or z.items i spot) second))

pub spot_at : (p : Parsed) (f b i : ℕ) (at : InstAt p f b i) → spot_of p.spots (inst_at_place f b i) ≡ Some at.spot
spot_at p f b i at = rw at.spots_are (rw at.in_block_is at.spot_is)

-- what is told of the instruction
pub inst_told : (p : Parsed) (scopes : Scopes) (f b i : ℕ) → module_known p.«module» ≡ true → AreScopesOf p.«module» scopes → (at : InstAt p f b i) (u : FunctionTable)
    → u ≡ get_or scopes.functions.items f u → (y : Inst) → y ≡ at.inst → (answer : Bool)
    → Tells (Inside scopes.«module» u) (λ n. body_known n y.body) (λ names. body_uses (body_shape names y.body)) answer → answer ≡ inst_passes p f b i at
inst_told p scopes f b i known are at u table y is answer told =
    let m = p.«module» in
    let within : f < length scopes.functions.items =
    omega (arith, slice_get_within m.functions.items f at.function at.function_is, are.inside.long) in
    let there = slice_get-get_or scopes.functions.items f u within ∙ ap (λ (z : FunctionTable). Some z) (sym table) in
    let here = subst (λ (z : Inst). Tells (Inside scopes.«module» u) (λ n. body_known n z.body) (λ names. body_uses (body_shape names z.body)) answer) is told in
    here.tells m (Some (function_shape m.names at.function))
    (are.outside, (at.function, refl, are.inside.each f at.function u at.function_is there)) (inst_body_known p f b i at known)

-- the numbers of an offset are within the lists
pub inst_within : (s : Spots) (f b i at : ℕ) (blocks : FunctionSpots) (block : Vec ℕ Global) → slice_get s.insts.items f ≡ Some blocks → slice_get blocks.items b ≡ Some block
    → spot_of s (inst_at_place f b i) ≡ Some at → (n : ℕ) → length block.items ≤ n → i < n
inst_within s f b i at blocks block here there is n few =
    let lists = spot_parts s f b i at is in
    let first = one_at s.insts.items f lists.0 blocks lists.2 here in
    let second = one_at blocks.items b lists.1 block (subst (λ (z : FunctionSpots). slice_get z.items b ≡ Some lists.1) first lists.3) there in
    omega (arith, slice_get_within lists.1.items i at lists.4, ap (λ (z : Vec ℕ Global). length z.items) second)

pub block_within : (s : Spots) (f b i at : ℕ) (blocks : FunctionSpots) → slice_get s.insts.items f ≡ Some blocks
    → spot_of s (inst_at_place f b i) ≡ Some at → (n : ℕ) → length blocks.items ≤ n → b < n
block_within s f b i at blocks here is n few =
    let lists = spot_parts s f b i at is in
    let first = one_at s.insts.items f lists.0 blocks lists.2 here in
    omega (arith, slice_get_within lists.0.items b lists.1 lists.3, ap (λ (z : FunctionSpots). length z.items) first)

pub function_within : (s : Spots) (f b i at : ℕ) → spot_of s (inst_at_place f b i) ≡ Some at → (n : ℕ) → length s.insts.items ≤ n → f < n
function_within s f b i at is n few =
    let lists = spot_parts s f b i at is in
    omega (arith, slice_get_within s.insts.items f lists.0 lists.2)
