use Rattle.std.proofs.Common.{[]}
use Rattle.std.proofs.lemmas.Result.{IfOk-weaker}
use Rattle.std.proofs.Common.{sym, subst}
use Rattle.ir_program.specs.Constants.{const_cells}
use Rattle.program_consts.specs.Constants.{shape_of, ty_of, const_of}
use Rattle.program_consts.specs.Pieces.{AreBytes}
use Rattle.program_consts.proofs.values.Constants.bytes_of.Goals as goal

pub returns-clause-cells : goal.returns-clause-cells
returns-clause-cells c =
    let m = shape_of c.args.self.now in
    IfOk-weaker c.finish.result _ _ (λ b h. h.holds)
    (c.finish.ensures (const_cells m (ty_of c.args.self.now c.args.global.now.ty) (const_of c.args.self.now c.args.global.now.init))
    (c.in_ok-push_const.ensures [] c.new-out.ensures))

pub returns-clause-bytes : goal.returns-clause-bytes
returns-clause-bytes c =
    let m = shape_of c.args.self.now in
    IfOk-weaker c.finish.result _ _ (λ b h. subst AreBytes (sym h.holds) h.bytes)
    (c.finish.ensures (const_cells m (ty_of c.args.self.now c.args.global.now.ty) (const_of c.args.self.now c.args.global.now.init))
    (c.in_ok-push_const.ensures [] c.new-out.ensures))
