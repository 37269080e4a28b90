use Rattle.ir_read_insts.proofs.TermParts.{switch_known, switch_read}
use Rattle.ir_read_insts.proofs.terms.switch_at.Goals as goal

pub returns-clause-known : goal.returns-clause-known
returns-clause-known c =
    switch_known c.in_ok-other.ensures.grows c.in_ok-cases.ensures.grows c.in_ok-value.value c.in_ok-other.other c.in_ok-cases.cases c.in_ok-value.ensures.known c.in_ok-other.ensures.known c.in_ok-cases.ensures.known

pub returns-clause-reads : goal.returns-clause-reads
returns-clause-reads c = (
  switch_read c.in_ok-other.ensures.grows c.in_ok-cases.ensures.grows c.args.budget _ _ _ _ _ c.in_ok-value.value c.in_ok-other.other _ c.in_ok-cases.cases c.in_ok-value.ensures.known c.in_ok-other.ensures.known
      c.in_ok-value.ensures.reads.0 c.in_ok-other.ensures.reads.0 c.in_ok-next.ensures.steps.0 c.in_ok-cases.ensures.reads.0,
  c.in_ok-cases.ensures.reads.1,
)
