use Rattle.std.proofs.Common.{◌+◌, ap, sym, ◌∙◌, arith}
use Rattle.rv_model.specs.Run.{HasEnded, HasTrapped, run}
use Rattle.rv_model.specs.Step.{step}
use Rattle.rv_machine.proofs.RunSoFar.{out-struck, progress-ends, progress-more, progress-over, progress-start, progress-traps}
use Rattle.rv_machine.proofs.runner.run.Goals as goal

pub loop-done-init : goal.loop-done-init
loop-done-init c = progress-start c.args.steps c.in_ok-machine.machine c.args.flip c.requires

pub returns-in-Ended : goal.returns-in-Ended
returns-in-Ended c =
    let ticked = rw c.in-Ended.is at c.in_ok-step.ensures.ok in
    ap (λ s. run c.args.steps s c.args.flip) (sym c.in_ok-machine.ensures)
    ∙ progress-ends c.args.steps c.in_ok-machine.machine c.args.flip c.loop-done.done c.loop-done.machine c.loop-done.pending
    c.in-Ended.status c.loop-done-test.true c.loop-done.invariant (ap step (sym c.strike.ensures) ∙ ticked.0)
    ∙ ap (λ out. HasEnded out c.in-Ended.status (c.loop-done.done + 1))
    (sym (c.into_out.ensures ∙ ap (λ s. s.out) (ticked.1 ∙ c.strike.ensures) ∙ out-struck c.loop-done.pending c.loop-done.machine))

pub returns-in-Trapped : goal.returns-in-Trapped
returns-in-Trapped c =
    let ticked = rw c.in-Trapped.is at c.in_ok-step.ensures.ok in
    ap (λ s. run c.args.steps s c.args.flip) (sym c.in_ok-machine.ensures)
    ∙ progress-traps c.args.steps c.in_ok-machine.machine c.args.flip c.loop-done.done c.loop-done.machine c.loop-done.pending
    c.in-Trapped.pc c.in-Trapped.cause c.loop-done-test.true c.loop-done.invariant (ap step (sym c.strike.ensures) ∙ ticked.0)
    ∙ ap (λ out. HasTrapped c.in-Trapped.pc c.in-Trapped.cause out)
    (sym (c.into_out-in-Trapped.ensures ∙ ap (λ s. s.out) (ticked.1 ∙ c.strike.ensures) ∙ out-struck c.loop-done.pending c.loop-done.machine))

pub loop-done-preserved : goal.loop-done-preserved
loop-done-preserved c =
    let ticked = rw c.in-Went.is at c.in_ok-step.ensures.ok in
    progress-more c.args.steps c.in_ok-machine.machine c.args.flip c.loop-done.done c.loop-done.machine c.step.new.self c.loop-done.pending
    c.later-pending.result c.loop-done-test.true c.loop-done.invariant (ap step (sym c.strike.ensures) ∙ ticked) c.later-pending.ensures

pub returns : goal.returns
returns c = (
  c.loop-done.machine,
  ap (λ s. run c.args.steps s c.args.flip) (sym c.in_ok-machine.ensures)
      ∙ progress-over c.args.steps c.in_ok-machine.machine c.args.flip c.loop-done.done c.loop-done.machine c.loop-done.pending
      (omega arith) c.loop-done.invariant,
  sym c.into_out-2.ensures,
)
