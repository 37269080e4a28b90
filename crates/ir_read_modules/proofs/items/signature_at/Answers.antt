use Rattle.ir_read_modules.proofs.ItemParts.{signature_known_of, signature_read}
use Rattle.ir_read_modules.proofs.items.signature_at.Goals as goal

pub returns-clause-known : goal.returns-clause-known
returns-clause-known c =
    signature_known_of c.in_ok-name.ensures.grows c.in_ok-params.ensures.grows c.in_ok-ret.ret c.in_ok-name.name c.in_ok-params.params c.in_ok-ret.ensures.known c.in_ok-name.ensures.known c.in_ok-params.ensures.known

pub returns-clause-reads : goal.returns-clause-reads
returns-clause-reads c = (
  signature_read c.in_ok-name.ensures.grows c.in_ok-params.ensures.grows c.args.budget _ _ _ _ c.in_ok-ret.ret c.in_ok-name.name c.in_ok-params.params c.in_ok-ret.ensures.known c.in_ok-name.ensures.known
      c.in_ok-ret.ensures.reads.0 c.in_ok-name.ensures.reads.0 c.in_ok-params.ensures.reads.0,
  c.in_ok-params.ensures.reads.1,
)
