use Rattle.ir_read_modules.proofs.ItemParts.{declare_known_of, declare_read}
use Rattle.ir_read_modules.proofs.items.declare_line_at.Goals as goal

pub returns-clause-known : goal.returns-clause-known
returns-clause-known c = declare_known_of _ c.in_ok-signature.signature c.in_ok-params.params c.in_ok-params.ensures c.in_ok-signature.ensures.known

pub returns-clause-reads : goal.returns-clause-reads
returns-clause-reads c = (
  declare_read _ c.args.budget _ _ _ _ c.in_ok-signature.signature c.in_ok-params.params c.in_ok-params.ensures c.in_ok-next.ensures.steps.0 c.in_ok-signature.ensures.reads.0,
  c.in_ok-signature.ensures.reads.1,
)
