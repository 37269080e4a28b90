use Rattle.std.proofs.Common.{◌≡◌, List, OnErr, Result, Ok, Err, Some, ap, sym, ◌∙◌}
use Rattle.rv_model.specs.Memory.{bytes_for}
use Rattle.rv_model.specs.State.{LoadedSegment, MachineState}
use Rattle.rv_machine.specs.Ticks.{PutsOut}
use Rattle.rv_model.specs.Step.{writes_output}
use Rattle.rv_machine.proofs.Calls.{puts_out-written}
use Rattle.rv_machine.proofs.processor.Machine.write_output.Goals as goal

on_err-holds : {A E : Type 0} (r : Result A E) (X : Type 0) → X → OnErr r X
on_err-holds (Ok a) X x = tt
on_err-holds (Err e) X x = x

pub returns-in_err-append-clause-wants : goal.returns-in_err-append-clause-wants
returns-in_err-append-clause-wants c =
    let s = c.args.self.now in
    let there : bytes_for c.register-address.result c.register-count.result s.segments ≡ Some c.in-Some.bytes.now =
    ap (λ (t : MachineState). bytes_for c.register-address.result c.register-count.result t.segments) (sym c.self.view_is)
    ∙ ap (λ (gs : List LoadedSegment). bytes_for c.register-address.result c.register-count.result gs) (sym c.as_slice.ensures.value)
    ∙ c.in-Some.ensures.bytes in
    on_err-holds c.from_residual.result (PutsOut (writes_output s) s)
    (puts_out-written s c.register-address.result c.register-count.result c.in-Some.bytes.now c.register-address.ensures c.register-count.ensures there c.in_err-append.ensures.wants)
