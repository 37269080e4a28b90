use Rattle.std.proofs.Common.{drop}
use Rattle.ir_lex.specs.Symbols.{symbols_of}
use Rattle.ir_grammar_insts.specs.Instructions.{run_inst}
use Rattle.ir_read_modules.proofs.LineParts.{line_known, line_read}
use Rattle.ir_read_modules.proofs.single.inst_line_at.Goals as goal

pub returns-clause-known : goal.returns-clause-known
returns-clause-known c = line_known c.in_ok-body.ensures.grows c.in_ok-result.result c.in_ok-body.body c.in_ok-result.ensures.known c.in_ok-body.ensures.known

pub returns-clause-reads : goal.returns-clause-reads
returns-clause-reads c = (
  line_read c.in_ok-body.ensures.grows (run_inst c.args.budget) (drop c.args.at (symbols_of c.args.text.now c.args.toks.now)) _ _ c.in_ok-result.result c.in_ok-body.body c.in_ok-result.ensures.known c.in_ok-result.ensures.reads.0 c.in_ok-body.ensures.reads.0,
  c.in_ok-body.ensures.reads.1,
)
