use Rattle.std.proofs.Common.{◌∙◌, ap}
use Rattle.sr_command.proofs.Hexadecimals.{padded}
use Rattle.sr_command.proofs.forms.execute.trap_line.Goals as goal

pub returns : goal.returns
returns c =
    let line = rw (c.laid_out.ensures, c.in_radix.ensures, c.cause_word-word.ensures, padded) at c.in_ok-line.ensures.ok in
    ap (λ v. v.items) c.into_bytes.ensures.value ∙ line
