use Rattle.std.proofs.Common.{drop}
use Rattle.grammar.specs.Reader.{run_one, run_map, run_seq, run_skip, run_up_to}
use Rattle.ir_lex.specs.Symbols.{symbols_of}
use Rattle.ir_cursor.specs.Marks.{punct}
use Rattle.ir_grammar_insts.specs.Operands.{local_name, run_val}
use Rattle.ir_grammar_insts.specs.Instructions.{phi_input_of}
use Rattle.ir_read_insts.proofs.ValueParts.{vals_keep, both_known, seq_read, map_read, skip_read, up_to_read}
use Rattle.ir_read_insts.proofs.phi.input_at.Goals as goal

pub returns-clause-known : goal.returns-clause-known
returns-clause-known c = both_known vals_keep c.in_ok-from.ensures.grows c.in_ok-val.val c.in_ok-val.ensures.known c.in_ok-from.ensures.known

pub returns-clause-reads : goal.returns-clause-reads
returns-clause-reads c =
    let n = c.args.budget in
    let ss = symbols_of c.args.text.now c.args.toks.now in
    let from = run_skip (punct 44) (run_one local_name) in
    let both = run_map phi_input_of (run_seq (run_val n) from) in
    let ts = drop c.in_ok-next.next ss in (
      skip_read (punct 91) (run_up_to (punct 93) both) (drop c.args.at ss) c.in_ok-next.ensures.steps.0
          (up_to_read (punct 93) both ts
          (map_read phi_input_of (run_seq (run_val n) from) ts
          (seq_read vals_keep c.in_ok-from.ensures.grows (run_val n) from ts c.in_ok-val.val c.in_ok-val.ensures.known c.in_ok-val.ensures.reads.0
          (skip_read (punct 44) (run_one local_name) (drop c.in_ok-val.next ss) c.in_ok-next-2.ensures.steps.0 c.in_ok-from.ensures.reads.0)))
          c.in_ok-end.ensures.steps.0),
      c.in_ok-end.ensures.steps.1,
    )
