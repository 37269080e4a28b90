-- An instruction of a module that was read, and its flow.
use Rattle.std.proofs.Common.{◌≡◌, ℕ, ◌<◌, true, length, get_or, Some, sym, ◌∙◌, ap, subst, slice_get, option_and_then}
use Rattle.std.proofs.lemmas.Option.{same_Some}
use Rattle.ir_tree.specs.Known.{inst_known, block_known, function_known, module_known}
use Rattle.ir_tree.specs.Shape.{InstShape, BlockShape, FunctionShape}
use Rattle.ir_tree.specs.ShapeOf.{module_shape, function_shape, block_shape, inst_shape}
use Rattle.ir_tree.specs.declared.module.Inst.{Inst}
use Rattle.ir_tree.specs.declared.module.Block.{Block}
use Rattle.ir_tree.specs.declared.module.Function.{Function}
use Rattle.ir_tree.specs.declared.module.Module.{Module}
use Rattle.ir_tree.specs.declared.parsed.Parsed.{Parsed}
use Rattle.ir_tree.proofs.Grows.{and_right}
use Rattle.ir_names.proofs.AllKnown.{one_of_all}
use Rattle.ir_names.proofs.Entered.{functions_known}
use Rattle.ir_rules.specs.Places.{inst_at_place, spot_of}
use Rattle.ir_rules.specs.Values.{inst_at}
use Rattle.ir_proper.specs.FlowRules.{HasProperFlow, FlowFault}
use Rattle.ir_flow.specs.Looks.{IsProperAt}
use Rattle.ir_flow.proofs.OneByOne.{mapped_to}

-- the names of a function, and of an instruction of it, are known
pub function_is_known : (m : Module) (k : ℕ) (f : Function) → module_known m ≡ true → k < length m.functions.items → f ≡ get_or m.functions.items k f
    → function_known (length m.names) f ≡ true
function_is_known m k f known within is =
    ap (function_known (length m.names)) is ∙ one_of_all (function_known (length m.names)) m.functions.items k f within (functions_known m known)

pub inst_is_known : (n : ℕ) (f : Function) (b i : ℕ) (x : Block) (y : Inst) → function_known n f ≡ true → b < length f.blocks.items
    → x ≡ get_or f.blocks.items b x → i < length x.insts.items → y ≡ get_or x.insts.items i y → inst_known n y ≡ true
inst_is_known n f b i x y known within is inside has =
    let block = ap (block_known n) is ∙ one_of_all (block_known n) f.blocks.items b x within (and_right _ _ known) in
    ap (inst_known n) has ∙ one_of_all (inst_known n) x.insts.items i y inside (and_right _ _ block)

-- the instruction of these numbers
pub record IsInst (p : Parsed) (k b i : ℕ) (m : Module) (f : Function) (x : Block) (y : Inst) : Type 0 where
  pub within : m ≡ p.«module»
  pub there : slice_get p.«module».functions.items k ≡ Some f
  pub has_block : slice_get f.blocks.items b ≡ Some x
  pub has_inst : slice_get x.insts.items i ≡ Some y

shape_there : (p : Parsed) (k b i : ℕ) (m : Module) (f : Function) (x : Block) (y : Inst) → IsInst p k b i m f x y
    → slice_get (module_shape p.«module»).functions k ≡ Some (function_shape p.«module».names f)
shape_there p k b i m f x y is = mapped_to (function_shape p.«module».names) p.«module».functions.items k f is.there

shape_inside : (p : Parsed) (k b i : ℕ) (m : Module) (f : Function) (x : Block) (y : Inst) → IsInst p k b i m f x y
    → inst_at (function_shape p.«module».names f) b i ≡ Some (inst_shape p.«module».names y)
shape_inside p k b i m f x y is =
    ap (option_and_then (λ (z : BlockShape). slice_get z.insts i)) (mapped_to (block_shape p.«module».names) f.blocks.items b x is.has_block)
    ∙ mapped_to (inst_shape p.«module».names) x.insts.items i y is.has_inst

-- its flow is proper
pub proper_at : (p : Parsed) (k b i : ℕ) (m : Module) (f : Function) (x : Block) (y : Inst) → IsInst p k b i m f x y
    → HasProperFlow (function_shape m.names f) b i (inst_shape m.names y) → IsProperAt p k b i
proper_at p k b i m f x y is flow = λ g z there inside.
    let names = p.«module».names in
    let flows = subst (λ (n : Module). HasProperFlow (function_shape n.names f) b i (inst_shape n.names y)) is.within flow in
    let same : function_shape names f ≡ g = same_Some (function_shape names f) g (sym (shape_there p k b i m f x y is) ∙ there) in
    let equal : inst_shape names y ≡ z =
    same_Some (inst_shape names y) z (sym (shape_inside p k b i m f x y is) ∙ ap (λ (h : FunctionShape). inst_at h b i) same ∙ inside) in
    subst (λ (h : InstShape). HasProperFlow g b i h) equal (subst (λ (h : FunctionShape). HasProperFlow h b i (inst_shape names y)) same flows)

-- it isn't
pub fault_at : (p : Parsed) (k b i spot : ℕ) (m : Module) (f : Function) (x : Block) (y : Inst) → IsInst p k b i m f x y
    → spot_of p.spots (inst_at_place k b i) ≡ Some spot → (HasProperFlow (function_shape m.names f) b i (inst_shape m.names y) → ⊥) → FlowFault p spot
fault_at p k b i spot m f x y is spotted wrong = record {
  number = k;
  block = b;
  index = i;
  function = function_shape p.«module».names f;
  inst = inst_shape p.«module».names y;
  at_spot = spotted;
  there = shape_there p k b i m f x y is;
  inside = shape_inside p k b i m f x y is;
  wrong = λ flow. wrong (subst (λ (n : Module). HasProperFlow (function_shape n.names f) b i (inst_shape n.names y)) (sym is.within) flow);
}
