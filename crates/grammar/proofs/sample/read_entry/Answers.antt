use Rattle.std.proofs.Common.{arith, length-drop}
use Rattle.grammar.specs.Sample.{entry_view}
use Rattle.grammar.proofs.Answering.{answers}
use Rattle.grammar.proofs.SampleLaw.{good_entry}
use Rattle.grammar.proofs.sample.read_entry.Goals as goal

pub returns : goal.returns
returns c = answers (good_entry _) entry_view c.args.symbols.now c.args.from (omega (arith, length-drop c.args.from c.args.symbols.now)) c.entry_at.result c.entry_at.ensures
