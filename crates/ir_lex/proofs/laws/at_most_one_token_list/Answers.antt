use Rattle.ir_lex.proofs.Unique.{one_token_list, one_bad_place, tokens_or_bad}
use Rattle.ir_lex.proofs.laws.at_most_one_token_list.Goals as goal

pub returns-clause-one_list : goal.returns-clause-one_list
returns-clause-one_list c = one_token_list

pub returns-clause-one_place : goal.returns-clause-one_place
returns-clause-one_place c = one_bad_place

pub returns-clause-apart : goal.returns-clause-apart
returns-clause-apart c = tokens_or_bad
