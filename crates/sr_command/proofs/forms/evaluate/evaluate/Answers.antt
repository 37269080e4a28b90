use Rattle.sr_command.specs.Commands.{word_bytes}
use Rattle.sr_command.proofs.EvaluateLaws.{evaluate_job}
use Rattle.sr_command.proofs.forms.evaluate.evaluate.Goals as goal

pub returns-clause-job : goal.returns-clause-job
returns-clause-job g c =
    let text = rw c.in-Some.is at c.in_ok-text.ensures.ok in
    let content = rw (c.in-Some-2.is, c.in_ok-text.ensures.read.files) at c.in_ok-content.ensures.ok in
    let evaluated = rw (c.deref.ensures.value, c.deref-2.ensures.value) at c.evaluate_text.ensures.ok in
    evaluate_job c.evaluate_text.result (g.S.Store.meaning c.args.store.now) (g.S.Store.meaning c.read_input.new.store) c.args.text.now
    (word_bytes c.args.input) c.args.steps c.in-Some.text.items c.in-Some-2.content.items (text, content) evaluated c.evaluate_text.ensures.err
