use Rattle.std.proofs.Common.{drop}
use Rattle.grammar.specs.Reader.{run_seq}
use Rattle.ir_lex.specs.Symbols.{symbols_of}
use Rattle.ir_grammar_insts.specs.Operands.{run_ty_val, run_more_ty_val}
use Rattle.ir_grammar_insts.specs.Arithmetic.{select_of}
use Rattle.ir_read_insts.proofs.ValueParts.{ty_vals_keep, map_read}
use Rattle.ir_read_insts.proofs.InstParts.{three_known, three_read}
use Rattle.ir_read_insts.proofs.arithmetic.select_at.Goals as goal

pub returns-clause-known : goal.returns-clause-known
returns-clause-known c =
    three_known ty_vals_keep ty_vals_keep c.in_ok-yes.ensures.grows c.in_ok-no.ensures.grows c.in_ok-condition.condition c.in_ok-yes.yes c.in_ok-condition.ensures.known c.in_ok-yes.ensures.known c.in_ok-no.ensures.known

pub returns-clause-reads : goal.returns-clause-reads
returns-clause-reads c =
    let n = c.args.budget in
    let ts = drop c.args.at (symbols_of c.args.text.now c.args.toks.now) in (
      map_read select_of (run_seq (run_ty_val n) (run_seq (run_more_ty_val n) (run_more_ty_val n))) ts
          (three_read ty_vals_keep ty_vals_keep c.in_ok-yes.ensures.grows c.in_ok-no.ensures.grows c.in_ok-condition.condition c.in_ok-yes.yes c.in_ok-condition.ensures.known c.in_ok-yes.ensures.known
          (run_ty_val n) (run_more_ty_val n) (run_more_ty_val n) ts c.in_ok-condition.ensures.reads.0 c.in_ok-yes.ensures.reads.0 c.in_ok-no.ensures.reads.0),
      c.in_ok-no.ensures.reads.1,
    )
