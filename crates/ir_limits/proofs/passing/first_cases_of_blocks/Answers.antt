use Rattle.std.proofs.Common.{List, map, sym, ◌∙◌, ap}
use Rattle.std.specs.Prelude.{flat_map}
use Rattle.ir_tree.specs.Shape.{InstShape, BlockShape}
use Rattle.ir_tree.specs.ShapeOf.{inst_shape, block_shape}
use Rattle.ir_tree.specs.declared.module.Inst.{Inst}
use Rattle.ir_proper.specs.declared.Which.TheVariants.{Cases}
use Rattle.ir_proper.specs.Limits.{case_counts, most_of}
use Rattle.ir_limits.specs.Passing.{first_above}
use Rattle.ir_limits.proofs.Above.{none_left, rest_here, rest_next}
use Rattle.ir_limits.proofs.passing.first_cases_of_blocks.Goals as goal

pub returns-in-Some : goal.returns-in-Some
returns-in-Some c names =
    let one = ap (λ (xs : List Inst). first_above (most_of Cases) (flat_map (λ (x : InstShape). case_counts x.body) (map (inst_shape names) xs)))
    (sym c.deref.ensures.value) ∙ sym (c.in-Some.ensures names) in
    sym
    (rest_here (λ (b : BlockShape). flat_map (λ x. case_counts x.body) b.insts) (block_shape names) (most_of Cases) c.in-Some.found c.args.blocks.now
    c.loop-block.block-index c.block-item.result c.loop-block-test.true c.block-item.is one (c.loop-block.invariant names))

pub loop-block-preserved : goal.loop-block-preserved
loop-block-preserved c names =
    let one = ap (λ (xs : List Inst). first_above (most_of Cases) (flat_map (λ (x : InstShape). case_counts x.body) (map (inst_shape names) xs)))
    (sym c.deref.ensures.value) ∙ sym (c.first_cases_of_insts.ensures names) ∙ none_left c.first_cases_of_insts.result c.in_default.not-Some in
    rest_next (λ (b : BlockShape). flat_map (λ x. case_counts x.body) b.insts) (block_shape names) (most_of Cases) c.args.blocks.now
    c.loop-block.block-index c.block-item.result c.loop-block-test.true c.block-item.is one (c.loop-block.invariant names)
