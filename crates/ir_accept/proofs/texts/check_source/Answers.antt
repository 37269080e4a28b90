use Rattle.ir_accept.proofs.Accepted.{accepted_as}
use Rattle.ir_accept.proofs.texts.check_source.Goals as goal

pub returns-in-Ok-check : goal.returns-in-Ok-check
returns-in-Ok-check c =
    accepted_as c.args.text.now c.in-Ok.parsed c.in-Ok-check.checked c.in-Ok-check.ensures.same c.in-Ok.ensures.reads c.in-Ok.ensures.spots
    c.in-Ok-check.ensures.checked
