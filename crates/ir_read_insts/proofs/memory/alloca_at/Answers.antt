use Rattle.std.proofs.Common.{drop, rules, ap, ◌∙◌, sym}
use Rattle.std.proofs.Math.Facts.{to_z-of_z}
use mir.Syntax.{w128}
use mir.Val.{SFits}
use Rattle.grammar.specs.Reader.{Got}
use Rattle.ir_lex.specs.Symbols.{symbols_of}
use Rattle.ir_tree.specs.Shape as shape
use Rattle.ir_tree.specs.ShapeOf.{ty_shape}
use Rattle.ir_read_consts.proofs.NamedItems.{tys_keep}
use Rattle.ir_read_insts.proofs.ValueParts.{stays_one}
use Rattle.ir_read_insts.proofs.Counted.{alloca_read}
use Rattle.ir_read_insts.proofs.memory.alloca_at.Goals as goal

pub returns-clause-known : goal.returns-clause-known
returns-clause-known c = stays_one tys_keep c.in_ok-count.ensures.grows c.in_ok-ty.ty c.in_ok-ty.ensures.known

pub returns-clause-reads : goal.returns-clause-reads
returns-clause-reads c =
    let ss = symbols_of c.args.text.now c.args.toks.now in
    let fits : SFits w128 c.in_ok-count.count = search rules in (
      alloca_read c.in_ok-count.ensures.grows c.args.budget (drop c.args.at ss) c.in_ok-ty.ty _ c.in_ok-ty.ensures.known c.in_ok-ty.ensures.reads.0 c.in_ok-count.ensures.reads.0
          ∙ ap (λ z. Got (shape.alloca (ty_shape c.count_at.new.names c.in_ok-ty.ty) z) (drop c.in_ok-count.end ss)) (sym (to_z-of_z fits)),
      c.in_ok-count.ensures.reads.1,
    )
