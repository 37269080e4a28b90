use Rattle.std.proofs.Common.{IfOk, OnErr, ap, refl, subst, sym, ◌∙◌}
use Rattle.rv_machine.specs.Ticks.{IsTick, PutsOut}
use Rattle.rv_model.specs.declared.Cause.TheVariants.{Fetch}
use Rattle.rv_model.specs.Step.{StepResult, Traps}
use Rattle.rv_machine.proofs.Served.{step-no_word, step-word}
use Rattle.rv_machine.proofs.processor.Machine.step.Goals as goal

pub returns-in_default-clause-ok : goal.returns-in_default-clause-ok
returns-in_default-clause-ok c =
    (step-no_word c.args.self.now c.in_default.ensures ∙ ap (λ p. Traps p Fetch) (sym c.pc.ensures), refl)

pub returns-clause-ok : goal.returns-clause-ok
returns-clause-ok c =
    let Ticked : StepResult → Type 0 = λ step. IfOk c.execute.result (λ tick. IsTick tick step c.args.self.now c.execute.new.self) in
    subst Ticked (sym (step-word c.args.self.now c.in-Some.word c.in-Some.ensures)) c.execute.ensures.ok

pub returns-clause-wants : goal.returns-clause-wants
returns-clause-wants c =
    let Wanting : StepResult → Type 0 = λ step. OnErr c.execute.result (PutsOut step c.args.self.now) in
    subst Wanting (sym (step-word c.args.self.now c.in-Some.word c.in-Some.ensures)) c.execute.ensures.wants
