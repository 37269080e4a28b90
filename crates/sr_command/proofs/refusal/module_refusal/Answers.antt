use Rattle.sr_command.proofs.refusal.module_refusal.Goals as goal

pub returns-in-Name-clause-ok : goal.returns-in-Name-clause-ok
returns-in-Name-clause-ok c = λ text refused. rw c.in-Name.is at refused

pub returns-in-Typing-clause-ok : goal.returns-in-Typing-clause-ok
returns-in-Typing-clause-ok c = λ text refused. rw c.in-Typing.is at refused

pub returns-in-Flow-clause-ok : goal.returns-in-Flow-clause-ok
returns-in-Flow-clause-ok c = λ text refused. rw c.in-Flow.is at refused

pub returns-in-NoMain-clause-ok : goal.returns-in-NoMain-clause-ok
returns-in-NoMain-clause-ok c = λ text refused. rw c.in-NoMain.is at refused

pub returns-in-Limit-clause-ok : goal.returns-in-Limit-clause-ok
returns-in-Limit-clause-ok c = λ text refused. rw c.in-Limit.is at refused
