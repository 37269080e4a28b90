use Rattle.std.proofs.Common.{sym}
use Rattle.rows_checks.proofs.answers.frame_at.Goals as goal

pub frame-requires-clause-names : goal.frame-requires-clause-names
frame-requires-clause-names c =
    c.functions_have_frames.ensures.names c.args.m.now c.index.result.now c.requires.known (c.args.at, c.requires.at, sym c.index.ensures)

pub frame-requires-clause-sized : goal.frame-requires-clause-sized
frame-requires-clause-sized c =
    c.functions_have_frames.ensures.sized c.args.m.now c.index.result.now c.requires.types (c.args.at, c.requires.at, sym c.index.ensures)
