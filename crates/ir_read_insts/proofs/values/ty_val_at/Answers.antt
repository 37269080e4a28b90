use Rattle.ir_read_consts.proofs.NamedItems.{tys_keep}
use Rattle.ir_read_insts.proofs.ValueParts.{both_known, ty_val_read}
use Rattle.ir_read_insts.proofs.values.ty_val_at.Goals as goal

pub returns-clause-known : goal.returns-clause-known
returns-clause-known c = both_known tys_keep c.in_ok-val.ensures.grows c.in_ok-ty.ty c.in_ok-ty.ensures.known c.in_ok-val.ensures.known

pub returns-clause-reads : goal.returns-clause-reads
returns-clause-reads c = (
  ty_val_read c.in_ok-val.ensures.grows c.args.budget _ c.in_ok-ty.ty c.in_ok-val.val c.in_ok-ty.ensures.known c.in_ok-ty.ensures.reads.0 c.in_ok-val.ensures.reads.0,
  c.in_ok-val.ensures.reads.1,
)
