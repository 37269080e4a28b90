use Rattle.std.proofs.Common.{map, drop, sym, ◌∙◌, ap}
use Rattle.grammar.specs.Reader.{Got, run_one, run_skip, run_seq, run_listed}
use Rattle.ir_lex.specs.Symbols.{symbols_of}
use Rattle.ir_cursor.specs.Marks.{punct}
use Rattle.ir_tree.specs.Shape as shape
use Rattle.ir_tree.specs.Shape.{fixed}
use Rattle.ir_tree.specs.ShapeOf.{ty_shape, ty_val_shape}
use Rattle.ir_grammar_consts.specs.Types.{run_ty}
use Rattle.ir_grammar_insts.specs.Operands.{global_name, run_ty_val}
use Rattle.ir_grammar_insts.specs.Memory.{call_of}
use Rattle.ir_tree.proofs.Grows.{and_both}
use Rattle.ir_read_consts.proofs.NamedItems.{tys_keep}
use Rattle.ir_tree.proofs.Table.{grows_on}
use Rattle.ir_read_insts.proofs.ValueParts.{names_keep, stays_one, both_known, map_read, skip_read}
use Rattle.ir_read_insts.proofs.InstParts.{three_read}
use Rattle.ir_read_insts.proofs.Callee.{callee_shape, callee_known}
use Rattle.ir_read_insts.proofs.memory.call_at.Goals as goal

pub returns-clause-known : goal.returns-clause-known
returns-clause-known c =
    and_both
    (both_known tys_keep (grows_on c.in_ok-callee.ensures.grows c.in_ok-arguments.ensures.grows) c.in_ok-ty.ty c.in_ok-ty.ensures.known
    (callee_known _ c.in_ok-callee.callee (stays_one names_keep c.in_ok-arguments.ensures.grows c.in_ok-callee.callee c.in_ok-callee.ensures.known)))
    c.in_ok-arguments.ensures.known

pub returns-clause-reads : goal.returns-clause-reads
returns-clause-reads c =
    let n = c.args.budget in
    let ss = symbols_of c.args.text.now c.args.toks.now in
    let ts = drop c.args.at ss in
    let names = c.arguments_at.new.names in
    let rest = run_skip (punct 40) (run_listed n (punct 44) (punct 41) (run_ty_val n)) in (
      map_read call_of (run_seq (run_ty n) (run_seq (run_one global_name) rest)) ts
          (three_read tys_keep names_keep c.in_ok-callee.ensures.grows c.in_ok-arguments.ensures.grows c.in_ok-ty.ty c.in_ok-callee.callee c.in_ok-ty.ensures.known c.in_ok-callee.ensures.known
          (run_ty n) (run_one global_name) rest ts c.in_ok-ty.ensures.reads.0 c.in_ok-callee.ensures.reads.0
          (skip_read (punct 40) (run_listed n (punct 44) (punct 41) (run_ty_val n)) (drop c.in_ok-callee.next ss) c.in_ok-next.ensures.steps.0 c.in_ok-arguments.ensures.reads.0))
          ∙ ap (λ z. Got (shape.call (ty_shape names c.in_ok-ty.ty) (fixed z) (map (ty_val_shape names) c.in_ok-arguments.arguments.items)) (drop c.in_ok-arguments.end ss))
          (sym (callee_shape names c.in_ok-callee.callee)),
      c.in_ok-arguments.ensures.reads.1,
    )
