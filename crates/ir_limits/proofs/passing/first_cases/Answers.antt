use Rattle.std.proofs.Common.{List, map, sym, ◌∙◌, ap}
use Rattle.std.specs.Prelude.{flat_map}
use Rattle.ir_tree.specs.Shape.{BlockShape, FunctionShape}
use Rattle.ir_tree.specs.ShapeOf.{block_shape, function_shape}
use Rattle.ir_tree.specs.declared.module.Block.{Block}
use Rattle.ir_proper.specs.declared.Which.TheVariants.{Cases}
use Rattle.ir_proper.specs.Limits.{case_counts, most_of}
use Rattle.ir_limits.specs.Passing.{first_above}
use Rattle.ir_limits.proofs.Above.{none_left, rest_here, rest_next}
use Rattle.ir_limits.proofs.passing.first_cases.Goals as goal

pub returns-in-Some : goal.returns-in-Some
returns-in-Some c names =
    let one = ap
    (λ (bs : List Block). first_above (most_of Cases) (flat_map (λ (b : BlockShape). flat_map (λ x. case_counts x.body) b.insts) (map (block_shape names) bs)))
    (sym c.deref.ensures.value) ∙ sym (c.in-Some.ensures names) in
    sym
    (rest_here (λ (f : FunctionShape). flat_map (λ b. flat_map (λ x. case_counts x.body) b.insts) f.blocks) (function_shape names) (most_of Cases)
    c.in-Some.found c.args.functions.now c.loop-f.f-index c.f-item.result c.loop-f-test.true c.f-item.is one (c.loop-f.invariant names))

pub loop-f-preserved : goal.loop-f-preserved
loop-f-preserved c names =
    let one = ap
    (λ (bs : List Block). first_above (most_of Cases) (flat_map (λ (b : BlockShape). flat_map (λ x. case_counts x.body) b.insts) (map (block_shape names) bs)))
    (sym c.deref.ensures.value) ∙ sym (c.first_cases_of_blocks.ensures names) ∙ none_left c.first_cases_of_blocks.result c.in_default.not-Some in
    rest_next (λ (f : FunctionShape). flat_map (λ b. flat_map (λ x. case_counts x.body) b.insts) f.blocks) (function_shape names) (most_of Cases)
    c.args.functions.now c.loop-f.f-index c.f-item.result c.loop-f-test.true c.f-item.is one (c.loop-f.invariant names)
