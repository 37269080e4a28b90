use Rattle.std.proofs.Common.{ap, ◌∙◌, arith}
use Rattle.point_list.specs.Points.{points_text}
use Rattle.sr_command.proofs.ExitSurvives.{exit_listed}
use Rattle.sr_command.proofs.forms.compile.executable.Goals as goal

pub returns-clause-points : goal.returns-clause-points
returns-clause-points c =
    let exact = rw (c.exit_words-words.ensures, c.exit_points.ensures) at c.in_ok-points.ensures.exact in
    let listed = exit_listed c.args.status c.in_ok-points.points.items (omega (arith, c.ranges.status)) c.in_ok-points.ensures.sorted exact in
    c.in_ok-text.ensures ∙ ap points_text (c.deref.ensures.value ∙ listed)
