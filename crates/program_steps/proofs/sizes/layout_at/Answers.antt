use Rattle.std.proofs.Common.{sym, ap}
use Rattle.std.specs.Prelude.{is_some}
use Rattle.ir_program.proofs.Laid.{laid_out}
use Rattle.program_steps.proofs.sizes.layout_at.Goals as goal

pub unwrap-requires : goal.unwrap-requires
unwrap-requires c =
    let found = (c.layout_of.ensures c.args.m.now c.requires.known c.requires.table c.requires.names c.requires.sized.0).1 c.requires.sized.1 in
    ap is_some found

pub returns : goal.returns
returns c =
    let has = (c.layout_of.ensures c.args.m.now c.requires.known c.requires.table c.requires.names c.unwrap.result).0 c.unwrap.ensures in
    sym (laid_out _ _ c.unwrap.result has)
