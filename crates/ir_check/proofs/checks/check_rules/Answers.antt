use Rattle.std.proofs.Common.{subst, Err}
use Rattle.ir_types.specs.Answers.{IsChecked}
use Rattle.ir_check.proofs.checks.check_rules.Goals as goal

pub returns-in-Err-clause-refused : goal.returns-in-Err-clause-refused
returns-in-Err-clause-refused c = c.refusal_of_types.ensures c.args.p.now (subst (IsChecked c.args.p.now) c.in-Err.is c.check_types_with.ensures)
