use Rattle.std.proofs.Common.{drop}
use Rattle.grammar.specs.Reader.{heads, run_many, run_seq}
use Rattle.ir_lex.specs.Symbols.{symbols_of}
use Rattle.ir_cursor.specs.Marks.{punct}
use Rattle.ir_grammar_consts.specs.Types.{run_ty}
use Rattle.ir_grammar_consts.specs.Constants.{run_address_flags}
use Rattle.ir_grammar_insts.specs.Operands.{run_more_ty_val}
use Rattle.ir_grammar_insts.specs.Memory.{element_of}
use Rattle.ir_read_consts.proofs.NamedItems.{tys_keep}
use Rattle.ir_read_insts.proofs.ValueParts.{ty_vals_keep, seq_plain, map_read}
use Rattle.ir_read_insts.proofs.InstParts.{three_known, three_read}
use Rattle.ir_read_insts.proofs.memory.element_at.Goals as goal

pub returns-clause-known : goal.returns-clause-known
returns-clause-known c =
    three_known tys_keep ty_vals_keep c.in_ok-base.ensures.grows c.in_ok-indices.ensures.grows c.in_ok-ty.ty c.in_ok-base.base c.in_ok-ty.ensures.known c.in_ok-base.ensures.known c.in_ok-indices.ensures.known

pub returns-clause-reads : goal.returns-clause-reads
returns-clause-reads c =
    let n = c.args.budget in
    let ss = symbols_of c.args.text.now c.args.toks.now in
    let rest = run_many n (heads (punct 44)) (run_more_ty_val n) in
    let parts = run_seq (run_ty n) (run_seq (run_more_ty_val n) rest) in (
      map_read element_of (run_seq (run_address_flags n) parts) (drop c.args.at ss)
          (seq_plain (run_address_flags n) parts (drop c.args.at ss) c.flags_at-inbounds.ensures.reads
          (three_read tys_keep ty_vals_keep c.in_ok-base.ensures.grows c.in_ok-indices.ensures.grows c.in_ok-ty.ty c.in_ok-base.base c.in_ok-ty.ensures.known c.in_ok-base.ensures.known
          (run_ty n) (run_more_ty_val n) rest (drop c.flags_at-inbounds.result.1 ss) c.in_ok-ty.ensures.reads.0 c.in_ok-base.ensures.reads.0 c.in_ok-indices.ensures.reads.0)),
      c.in_ok-indices.ensures.reads.1,
    )
