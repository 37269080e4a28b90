use Rattle.ir_same.proofs.SameRows.{one_row, same_row}
use Rattle.ir_same.proofs.types.same_tys.Goals as goal

pub returns : goal.returns
returns c names distinct known also = (
  (λ yes. one_row names c.args.row.now c.args.others.now (c.equal_tys.ensures.0 yes)),
  λ e. c.equal_tys.ensures.1 (same_row names distinct c.args.row.now c.args.others.now known also e),
)
