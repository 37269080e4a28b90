use Rattle.std.proofs.Common.{drop}
use Rattle.grammar.specs.Reader.{run_seq}
use Rattle.ir_lex.specs.Symbols.{symbols_of}
use Rattle.ir_tree.specs.Shape as shape
use Rattle.ir_grammar_insts.specs.Operands.{run_ty_val, run_more_ty_val}
use Rattle.ir_read_insts.proofs.ValueParts.{ty_vals_keep, both_known, seq_read, map_read}
use Rattle.ir_read_insts.proofs.memory.store_at.Goals as goal

pub returns-clause-known : goal.returns-clause-known
returns-clause-known c = both_known ty_vals_keep c.in_ok-address.ensures.grows c.in_ok-value.value c.in_ok-value.ensures.known c.in_ok-address.ensures.known

pub returns-clause-reads : goal.returns-clause-reads
returns-clause-reads c =
    let n = c.args.budget in
    let ts = drop c.args.at (symbols_of c.args.text.now c.args.toks.now) in (
      map_read (λ v. shape.store v.0 v.1) (run_seq (run_ty_val n) (run_more_ty_val n)) ts
          (seq_read ty_vals_keep c.in_ok-address.ensures.grows (run_ty_val n) (run_more_ty_val n) ts c.in_ok-value.value c.in_ok-value.ensures.known c.in_ok-value.ensures.reads.0 c.in_ok-address.ensures.reads.0),
      c.in_ok-address.ensures.reads.1,
    )
