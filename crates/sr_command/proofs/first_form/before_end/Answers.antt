use Rattle.std.proofs.Common.{codes}
use Rattle.std.proofs.lemmas.Slice.Eq.{strip_suffix_is}
use Rattle.std.proofs.lemmas.Bool.Decides.{Decides-eqb}
use Rattle.sr_command.proofs.Literals.{first_end}
use Rattle.sr_command.proofs.first_form.before_end.Goals as goal

pub returns : goal.returns
returns c =
    let plain = strip_suffix_is Decides-eqb c.args.body.now (codes " }") c.strip_suffix.result c.strip_suffix.ensures.cases in
    let line = strip_suffix_is Decides-eqb c.args.body.now (codes " }\n") c.strip_suffix-2.result c.strip_suffix-2.ensures.cases in
    rw c.or.ensures (first_end c.strip_suffix.result c.strip_suffix-2.result c.args.body.now plain line)
