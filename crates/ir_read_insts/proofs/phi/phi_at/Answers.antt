use Rattle.std.proofs.Common.{drop}
use Rattle.grammar.specs.Reader.{run_map, run_seq}
use Rattle.ir_lex.specs.Symbols.{symbols_of}
use Rattle.ir_tree.specs.Shape as shape
use Rattle.ir_grammar_consts.specs.Types.{run_ty}
use Rattle.ir_grammar_insts.specs.Instructions.{phi_word, run_phi_inputs}
use Rattle.ir_read_consts.proofs.NamedItems.{tys_keep}
use Rattle.ir_read_insts.proofs.ValueParts.{both_known, seq_read, map_read, skip_read}
use Rattle.ir_read_insts.proofs.phi.phi_at.Goals as goal

pub returns-clause-known : goal.returns-clause-known
returns-clause-known c = both_known tys_keep c.in_ok-inputs.ensures.grows c.in_ok-ty.ty c.in_ok-ty.ensures.known c.in_ok-inputs.ensures.known

pub returns-clause-reads : goal.returns-clause-reads
returns-clause-reads c =
    let n = c.args.budget in
    let ss = symbols_of c.args.text.now c.args.toks.now in
    let parts = run_seq (run_ty n) (run_phi_inputs n) in (
      skip_read phi_word (run_map (λ v. shape.phi v.0 v.1) parts) (drop c.args.at ss) c.in_ok-next.ensures.steps.0
          (map_read (λ v. shape.phi v.0 v.1) parts (drop c.in_ok-next.next ss)
          (seq_read tys_keep c.in_ok-inputs.ensures.grows (run_ty n) (run_phi_inputs n) (drop c.in_ok-next.next ss) c.in_ok-ty.ty c.in_ok-ty.ensures.known c.in_ok-ty.ensures.reads.0 c.in_ok-inputs.ensures.reads.0)),
      c.in_ok-inputs.ensures.reads.1,
    )
