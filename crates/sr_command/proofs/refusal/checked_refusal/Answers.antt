use Rattle.sr_command.proofs.refusal.checked_refusal.Goals as goal

pub returns-in-Module-clause-ok : goal.returns-in-Module-clause-ok
returns-in-Module-clause-ok c = λ checked. c.module_refusal.ensures.ok c.args.text.now (rw c.in-Module.is at checked)
