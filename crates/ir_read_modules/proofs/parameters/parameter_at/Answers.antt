use Rattle.ir_read_consts.proofs.NamedItems.{tys_keep}
use Rattle.ir_read_insts.proofs.ValueParts.{both_known}
use Rattle.ir_read_modules.proofs.ItemParts.{parameter_read}
use Rattle.ir_read_modules.proofs.parameters.parameter_at.Goals as goal

pub returns-clause-known : goal.returns-clause-known
returns-clause-known c = both_known tys_keep c.in_ok-name.ensures.grows c.in_ok-ty.ty c.in_ok-ty.ensures.known c.in_ok-name.ensures.known

pub returns-clause-reads : goal.returns-clause-reads
returns-clause-reads c = (
  parameter_read c.in_ok-name.ensures.grows c.args.budget _ _ _ c.in_ok-ty.ty c.in_ok-name.name c.in_ok-ty.ensures.known c.in_ok-ty.ensures.reads.0 c.in_ok-name.ensures.reads.0,
  c.in_ok-name.ensures.reads.1,
)
