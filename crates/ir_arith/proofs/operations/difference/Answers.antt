use Rattle.std.proofs.Common.{sym, ◌∙◌}
use Rattle.ir_tree.specs.declared.module.Bin.TheVariants.{Sub}
use Rattle.ir_arith.proofs.Cuts.{cut_difference}
use Rattle.ir_arith.proofs.Answered.{kept}
use Rattle.ir_arith.proofs.operations.difference.Goals as goal

pub returns : goal.returns
returns c =
    let w = c.args.width in
    kept Sub c.args.flags w c.args.a c.args.b c.cut.result (sym c.is_difference_lost.ensures ∙ c.if-is_difference_lost.false)
    (c.cut.ensures ∙ cut_difference w c.args.a c.args.b c.requires.bits.most c.requires.right)
