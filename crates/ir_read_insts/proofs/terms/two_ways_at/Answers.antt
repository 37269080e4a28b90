use Rattle.ir_read_insts.proofs.TermParts.{branch_known, branch_read}
use Rattle.ir_read_insts.proofs.terms.two_ways_at.Goals as goal

pub returns-clause-known : goal.returns-clause-known
returns-clause-known c =
    branch_known c.in_ok-yes.ensures.grows c.in_ok-no.ensures.grows c.in_ok-condition.condition c.in_ok-yes.yes c.in_ok-no.no c.in_ok-condition.ensures.known c.in_ok-yes.ensures.known c.in_ok-no.ensures.known

pub returns-clause-reads : goal.returns-clause-reads
returns-clause-reads c = (
  branch_read c.in_ok-yes.ensures.grows c.in_ok-no.ensures.grows c.args.budget _ _ _ _ c.in_ok-condition.condition c.in_ok-yes.yes c.in_ok-no.no c.in_ok-condition.ensures.known c.in_ok-yes.ensures.known
      c.in_ok-condition.ensures.reads.0 c.in_ok-yes.ensures.reads.0 c.in_ok-no.ensures.reads.0,
  c.in_ok-no.ensures.reads.1,
)
