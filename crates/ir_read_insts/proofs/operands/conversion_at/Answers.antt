use Rattle.grammar.specs.Reader.{run_skip}
use Rattle.ir_grammar_consts.specs.Types.{run_ty}
use Rattle.ir_grammar_insts.specs.Operands.{into, run_val}
use Rattle.ir_read_consts.proofs.NamedItems.{tys_keep}
use Rattle.ir_read_insts.proofs.ValueParts.{vals_keep, skip_read}
use Rattle.ir_read_insts.proofs.InstParts.{three_known, three_read}
use Rattle.ir_read_insts.proofs.operands.conversion_at.Goals as goal

pub returns-clause-known : goal.returns-clause-known
returns-clause-known c =
    three_known tys_keep vals_keep c.in_ok-val.ensures.grows c.in_ok-to.ensures.grows c.in_ok-ty.ty c.in_ok-val.val c.in_ok-ty.ensures.known c.in_ok-val.ensures.known c.in_ok-to.ensures.known

pub returns-clause-reads : goal.returns-clause-reads
returns-clause-reads c = (
  three_read tys_keep vals_keep c.in_ok-val.ensures.grows c.in_ok-to.ensures.grows c.in_ok-ty.ty c.in_ok-val.val c.in_ok-ty.ensures.known c.in_ok-val.ensures.known
      (run_ty c.args.budget) (run_val c.args.budget) (run_skip into (run_ty c.args.budget)) _ c.in_ok-ty.ensures.reads.0 c.in_ok-val.ensures.reads.0
      (skip_read into (run_ty c.args.budget) _ c.in_ok-next.ensures.steps.0 c.in_ok-to.ensures.reads.0),
  c.in_ok-to.ensures.reads.1,
)
