use Rattle.std.proofs.Common.{drop}
use Rattle.grammar.specs.Reader.{run_seq}
use Rattle.ir_lex.specs.Symbols.{symbols_of}
use Rattle.ir_tree.specs.Shape as shape
use Rattle.ir_grammar_consts.specs.Types.{run_ty}
use Rattle.ir_grammar_insts.specs.Operands.{run_val}
use Rattle.ir_read_consts.proofs.NamedItems.{tys_keep}
use Rattle.ir_read_insts.proofs.ValueParts.{both_known, seq_read, map_read}
use Rattle.ir_read_insts.proofs.arithmetic.freeze_at.Goals as goal

pub returns-clause-known : goal.returns-clause-known
returns-clause-known c = both_known tys_keep c.in_ok-val.ensures.grows c.in_ok-ty.ty c.in_ok-ty.ensures.known c.in_ok-val.ensures.known

pub returns-clause-reads : goal.returns-clause-reads
returns-clause-reads c =
    let n = c.args.budget in
    let ts = drop c.args.at (symbols_of c.args.text.now c.args.toks.now) in (
      map_read (λ v. shape.freeze v.0 v.1) (run_seq (run_ty n) (run_val n)) ts
          (seq_read tys_keep c.in_ok-val.ensures.grows (run_ty n) (run_val n) ts c.in_ok-ty.ty c.in_ok-ty.ensures.known c.in_ok-ty.ensures.reads.0 c.in_ok-val.ensures.reads.0),
      c.in_ok-val.ensures.reads.1,
    )
