-- Where nothing was found, the flow is proper everywhere: each instruction of a module that was read has a spot.
use Rattle.std.proofs.Common.{◌≡◌, ℕ, zero, suc, ◌<◌, ◌≤◌, inl, inr, List, [], ◌∷◌, length, map, Option, Some, None, refl, sym, ◌∙◌, ap, arith, slice_get}
use Rattle.std.specs.Prelude.{IfNone}
use Rattle.std.proofs.lemmas.List.{length-map}
use Rattle.std.proofs.lemmas.Option.{slice_get_within, same_Some}
use Rattle.ir_tree.specs.Shape.{InstShape, BlockShape, FunctionShape}
use Rattle.ir_tree.specs.ShapeOf.{inst_shape, block_shape, function_shape, module_shape}
use Rattle.ir_tree.specs.declared.parsed.Parsed.{Parsed}
use Rattle.ir_rules.specs.Places.{inst_at_place, spot_of}
use Rattle.ir_rules.specs.Values.{inst_at}
use Rattle.ir_proper.specs.FlowRules.{HasProperFlow, HasFlow}
use Rattle.ir_flow.specs.Looks.{HasLooked, AreBefore}
use Rattle.ir_flow.proofs.Rows.{then_of, block_row, spot_is}

element_at : {X : Type 0} (xs : List X) (k : ℕ) → k < length xs → (x : X) × (slice_get xs k ≡ Some x)
element_at [] k within = absurd (omega arith)
element_at (x ∷ xs) zero within = (x, refl)
element_at (x ∷ xs) (suc k) within = element_at xs k (omega arith)

-- the element that another one is mapped of
mapped_of : {X S : Type 0} (f : X → S) (xs : List X) (k : ℕ) (s : S) → slice_get (map f xs) k ≡ Some s → (x : X) × (slice_get xs k ≡ Some x) × (f x ≡ s)
mapped_of f [] k s e = cc
mapped_of f (x ∷ xs) zero s e = (x, refl, same_Some (f x) s e)
mapped_of f (x ∷ xs) (suc k) s e = mapped_of f xs k s e

-- an instruction that is there has a spot
spotted : (p : Parsed) (k b i : ℕ) (f : FunctionShape) (x : InstShape) → slice_get (module_shape p.«module»).functions k ≡ Some f → inst_at f b i ≡ Some x
    → (at : ℕ) × (spot_of p.spots (inst_at_place k b i) ≡ Some at)
spotted p k b i f x there inside =
    let names = p.«module».names in
    let fun = mapped_of (function_shape names) p.«module».functions.items k f there in
    let shape = then_of (λ (y : BlockShape). slice_get y.insts i) (slice_get f.blocks b) x inside in
    let block = mapped_of (block_shape names) fun.0.blocks.items b shape.0 (ap (λ (g : FunctionShape). slice_get g.blocks b) fun.2 ∙ shape.1) in
    let inst = mapped_of (inst_shape names) block.0.insts.items i x (ap (λ (y : BlockShape). slice_get y.insts i) block.2 ∙ shape.2) in
    let row = block_row p k b fun.0 block.0 fun.1 block.1 in
    let within : i < length block.0.insts.items = slice_get_within block.0.insts.items i inst.0 inst.1 in
    let long : length row.row.items ≡ length block.0.insts.items = row.long in
    let spot = element_at row.row.items i (omega arith) in
    (spot.0, spot_is p k b i spot.0 row.of_function.rows row.row row.of_function.has_rows row.has_row spot.1)

-- where nothing was found, the flow at each instruction is proper
pub none_found : (p : Parsed) (n : ℕ) (found : Option ℕ) → length p.«module».functions.items ≤ n → HasLooked p (AreBefore n 0 0) found
    → IfNone found (HasFlow (module_shape p.«module»))
none_found p n (Some at) long looked = tt
none_found p n None long looked = λ k b i f x there inside.
    let spot = spotted p k b i f x there inside in
    let within : k < length (module_shape p.«module»).functions = slice_get_within _ k f there in
    let many : length (module_shape p.«module»).functions ≡ length p.«module».functions.items = length-map p.«module».functions.items _ in
    elim (looked.all k b i spot.0 (inl (omega arith)) spot.1) [
      | inl proper ↦ proper f x there inside
      | inr by ↦ let no : ◌≡◌ {A = Option ℕ} None (Some by.0) = by.1 in absurd cc
    ]
