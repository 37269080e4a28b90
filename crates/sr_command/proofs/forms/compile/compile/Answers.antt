use Rattle.std.proofs.Common.{ℕ, List, refl, subst, IfOk}
use Rattle.sr_command.specs.Forms.Compile.{IsBuilt}
use Rattle.sr_command.proofs.CompileLaws.{compile_job}
use Rattle.sr_command.proofs.forms.compile.compile.Goals as goal

pub returns-in-Ok-None-clause-job : goal.returns-in-Ok-None-clause-job
returns-in-Ok-None-clause-job g c =
    let long = rw c.in-Ok-None.field-0-is at c.in-Ok-None.ensures.ok in
    (long.0, long.1, (refl, long.2))

pub returns-in-Ok-Some-clause-job : goal.returns-in-Ok-Some-clause-job
returns-in-Ok-Some-clause-job g c =
    let built = subst (λ (text : List ℕ). IfOk c.build.result (IsBuilt text c.args.output.now)) c.deref.ensures.value c.build.ensures.ok in
    compile_job c.build.result (g.S.Store.meaning c.args.store.now) (g.S.Store.meaning c.read_file.new.store) c.args.input.now c.args.output.now
    c.in-Ok-Some.text.items (rw c.in-Ok-Some.field-0-is at c.in-Ok-Some.ensures.ok) built c.build.ensures.err
