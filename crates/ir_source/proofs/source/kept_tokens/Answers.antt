use Rattle.ir_source.proofs.Reading.{few_kept}
use Rattle.ir_source.proofs.source.kept_tokens.Goals as goal

pub returns-in-Ok-clause-few : goal.returns-in-Ok-clause-few
returns-in-Ok-clause-few c = few_kept c.quiet.result c.args.text.now c.in-Ok.toks.items c.in-Ok.ensures.tokens (rw c.deref.ensures.value at c.quiet.ensures.kept)
