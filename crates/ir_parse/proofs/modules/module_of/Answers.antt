use Rattle.std.proofs.Common.{sym, subst, arith, Err}
use Rattle.ir_parse.specs.Answers.{ReadsWhole}
use Rattle.ir_parse.proofs.Wholes.{whole_read, whole_left, whole_stopped, spot_counts}
use Rattle.ir_parse.proofs.modules.module_of.Goals as goal

pub returns-in-Err-clause-reads : goal.returns-in-Err-clause-reads
returns-in-Err-clause-reads c =
    subst (λ z. ReadsWhole c.args.text.now c.args.toks.now (Err z)) (sym c.error_of.ensures) (whole_stopped c.args.text.now c.args.toks.now c.in-Err.stop c.in-Err.ensures.reads)

pub returns-then-next-toks-clause-reads : goal.returns-then-next-toks-clause-reads
returns-then-next-toks-clause-reads c =
    (c.in-Ok.read.1, omega arith, c.place_of.ensures, whole_left c.args.text.now c.args.toks.now _ c.in-Ok.read.1 (omega arith) c.in-Ok.ensures.reads.0)

pub invariant_of-result : goal.invariant_of-result
invariant_of-result c =
    let counts = spot_counts c.args.text.now _ c.items_at.new.names c.in-Ok.read.0 c.in-Ok.ensures.spots in
    record { types_spotted = counts.types; globals_spotted = counts.globals; declares_spotted = counts.declares; functions_spotted = counts.functions; insts_spotted = counts.insts }

pub returns-clause-reads : goal.returns-clause-reads
returns-clause-reads c = whole_read c.args.text.now c.args.toks.now _ c.in-Ok.read.1 (omega arith) c.in-Ok.ensures.reads.0
