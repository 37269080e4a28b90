use Rattle.std.proofs.Common.{ℕ, List, refl, subst, IfOk}
use Rattle.sr_command.specs.Forms.Print.{IsPrinted}
use Rattle.sr_command.proofs.PrintLaws.{print_job}
use Rattle.sr_command.proofs.forms.print.print.Goals as goal

pub returns-in-Ok-None-clause-job : goal.returns-in-Ok-None-clause-job
returns-in-Ok-None-clause-job g c =
    let long = rw c.in-Ok-None.field-0-is at c.in-Ok-None.ensures.ok in
    (long.0, long.1, (refl, long.2))

pub returns-in-Ok-Some-clause-job : goal.returns-in-Ok-Some-clause-job
returns-in-Ok-Some-clause-job g c =
    let printed = subst (λ (text : List ℕ). IfOk c.print_text.result (IsPrinted text)) c.deref.ensures.value c.print_text.ensures.ok in
    print_job c.print_text.result (g.S.Store.meaning c.args.store.now) (g.S.Store.meaning c.read_file.new.store) c.args.input.now c.in-Ok-Some.text.items
    (rw c.in-Ok-Some.field-0-is at c.in-Ok-Some.ensures.ok) printed c.print_text.ensures.err
