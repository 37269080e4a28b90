use Rattle.std.proofs.Common.{SFits, rules}
use Rattle.std.specs.Int.{w128}
use Rattle.std.proofs.lemmas.Int.{to_z-of_z}
use Rattle.ir_read_consts.proofs.NamedItems.{tys_keep}
use Rattle.ir_read_insts.proofs.ValueParts.{both_known}
use Rattle.ir_read_insts.proofs.TermParts.{case_read}
use Rattle.ir_read_insts.proofs.terms.case_at.Goals as goal

pub returns-clause-known : goal.returns-clause-known
returns-clause-known c = both_known tys_keep c.in_ok-to.ensures.grows c.in_ok-ty.ty c.in_ok-ty.ensures.known c.in_ok-to.ensures.known

pub returns-clause-reads : goal.returns-clause-reads
returns-clause-reads c =
    let fits : SFits w128 c.in_ok-value.value = search rules in (
      rw to_z-of_z (case_read c.in_ok-to.ensures.grows c.args.budget _ _ _ _ c.in_ok-ty.ty c.in_ok-value.value c.in_ok-to.to c.in_ok-ty.ensures.known c.in_ok-ty.ensures.reads.0 c.in_ok-value.ensures.reads.0 c.in_ok-to.ensures.reads.0),
      c.in_ok-to.ensures.reads.1,
    )
