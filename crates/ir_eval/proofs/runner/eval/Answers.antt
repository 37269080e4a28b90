use Rattle.std.proofs.Common.{List, subst}
use Rattle.ir_model.specs.Steps.{step}
use Rattle.program_tables.specs.Shapes.{program_shape}
use Rattle.ir_eval.specs.declared.outcome.Turn.{Turn}
use Rattle.ir_eval.specs.Shapes.{state_of}
use Rattle.ir_eval.specs.Turns.{IsTurn}
use Rattle.ir_eval.proofs.RunSoFar.{are_bytes, has_begun, has_gone, has_ended, has_no_meaning, has_no_steps}
use Rattle.ir_eval.proofs.runner.eval.Goals as goal

pub loop-done-init : goal.loop-done-init
loop-done-init c =
    let m = c.in_ok-machine.machine in
    let input = c.args.input.now in
    has_begun c.args.p.now c.requires.0 input c.args.steps m c.requires.1 (are_bytes input (λ i. let fits = c.type_inv.input i in fits.fits))
    c.in_ok-machine.ensures.memory (c.in_ok-machine.ensures.state input)

pub loop-done-preserved : goal.loop-done-preserved
loop-done-preserved c =
    let m = c.loop-done.machine in
    let has = c.loop-done.invariant in
    let input = c.args.input.now in
    let turned = subst
    (λ (turn : Turn). IsTurn input turn (step (program_shape c.args.p.now) (state_of input has.ready.memory m)) m.output.items c.step.new.self)
    c.in-Goes.is (c.in_ok-step.ensures has.ready.memory has.ready.shown) in
    has_gone c.args.p.now input c.args.steps c.loop-done.done m has c.loop-done-test.true turned.0 c.step.new.self turned.1 turned.2

pub returns-in-Ends : goal.returns-in-Ends
returns-in-Ends c =
    let m = c.loop-done.machine in
    let has = c.loop-done.invariant in
    let input = c.args.input.now in
    let turned = subst
    (λ (turn : Turn). IsTurn input turn (step (program_shape c.args.p.now) (state_of input has.ready.memory m)) m.output.items c.step.new.self)
    c.in-Ends.is (c.in_ok-step.ensures has.ready.memory has.ready.shown) in
    has_ended c.args.p.now input c.args.steps c.loop-done.done m has c.loop-done-test.true c.in-Ends.status c.step.new.self.output.items turned.0 turned.1

pub returns-in-Undefined : goal.returns-in-Undefined
returns-in-Undefined c =
    let m = c.loop-done.machine in
    let has = c.loop-done.invariant in
    let input = c.args.input.now in
    let turned = subst
    (λ (turn : Turn). IsTurn input turn (step (program_shape c.args.p.now) (state_of input has.ready.memory m)) m.output.items c.step.new.self)
    c.in-Undefined.is (c.in_ok-step.ensures has.ready.memory has.ready.shown) in
    has_no_meaning c.args.p.now input c.args.steps c.loop-done.done m has c.loop-done-test.true c.in-Undefined.why c.step.new.self.output.items
    turned.0 turned.1

pub returns : goal.returns
returns c =
    has_no_steps c.args.p.now c.args.input.now c.args.steps c.loop-done.done c.loop-done.machine c.loop-done.invariant c.loop-done-test.false
