use Rattle.std.proofs.Common.{◌*◌, ◌^◌, sym, ◌∙◌}
use Rattle.ir_tree.specs.declared.module.Bin.TheVariants.{Shl}
use Rattle.ir_arith.proofs.Cuts.{cut_twice}
use Rattle.ir_arith.proofs.Answered.{kept}
use Rattle.ir_arith.proofs.operations.left_shift.Goals as goal

pub returns : goal.returns
returns c =
    let w = c.args.width in
    kept Shl c.args.flags w c.args.a c.args.b c.cut.result (sym c.is_left_shift_lost.ensures ∙ c.if-is_left_shift_lost.false)
    (c.cut.ensures ∙ cut_twice w (c.args.a * 2 ^ c.args.b) c.requires.bits.most)
