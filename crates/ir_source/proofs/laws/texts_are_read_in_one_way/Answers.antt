use Rattle.ir_source.proofs.OneWay.{one_module, one_refusal, not_refused}
use Rattle.ir_source.proofs.laws.texts_are_read_in_one_way.Goals as goal

pub returns-clause-one_module : goal.returns-clause-one_module
returns-clause-one_module c text m other a b = one_module text m other a b

pub returns-clause-one_refusal : goal.returns-clause-one_refusal
returns-clause-one_refusal c text error other a b = one_refusal text error other a b

pub returns-clause-apart : goal.returns-clause-apart
returns-clause-apart c text m error has refused = not_refused text m error has refused
