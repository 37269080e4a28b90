use Rattle.flip_calls.proofs.CallLaws.{entries_keep, links_are_kept as links}
use Rattle.flip_calls.proofs.links_are_kept.Goals as goal

pub returns-clause-entries : goal.returns-clause-entries
returns-clause-entries c = entries_keep

pub returns-clause-kept : goal.returns-clause-kept
returns-clause-kept c = links
