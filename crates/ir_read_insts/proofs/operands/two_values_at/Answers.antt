use Rattle.std.proofs.Common.{drop}
use Rattle.ir_lex.specs.Symbols.{symbols_of}
use Rattle.grammar.specs.Reader.{run_skip}
use Rattle.ir_cursor.specs.Marks.{punct}
use Rattle.ir_grammar_consts.specs.Types.{run_ty}
use Rattle.ir_grammar_insts.specs.Operands.{run_val}
use Rattle.ir_read_consts.proofs.NamedItems.{tys_keep}
use Rattle.ir_read_insts.proofs.ValueParts.{vals_keep, skip_read}
use Rattle.ir_read_insts.proofs.InstParts.{three_known, three_read}
use Rattle.ir_read_insts.proofs.operands.two_values_at.Goals as goal

pub returns-clause-known : goal.returns-clause-known
returns-clause-known c =
    three_known tys_keep vals_keep c.in_ok-left.ensures.grows c.in_ok-right.ensures.grows c.in_ok-ty.ty c.in_ok-left.left c.in_ok-ty.ensures.known c.in_ok-left.ensures.known c.in_ok-right.ensures.known

pub returns-clause-reads : goal.returns-clause-reads
returns-clause-reads c = (
  three_read tys_keep vals_keep c.in_ok-left.ensures.grows c.in_ok-right.ensures.grows c.in_ok-ty.ty c.in_ok-left.left c.in_ok-ty.ensures.known c.in_ok-left.ensures.known
      (run_ty c.args.budget) (run_val c.args.budget) (run_skip (punct 44) (run_val c.args.budget)) _ c.in_ok-ty.ensures.reads.0 c.in_ok-left.ensures.reads.0
      (skip_read (punct 44) (run_val c.args.budget) (drop c.in_ok-left.next (symbols_of c.args.text.now c.args.toks.now)) c.in_ok-next.ensures.steps.0 c.in_ok-right.ensures.reads.0),
  c.in_ok-right.ensures.reads.1,
)
