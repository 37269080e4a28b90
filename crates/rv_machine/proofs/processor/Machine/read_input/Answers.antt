use Rattle.std.proofs.Common.{◌≡◌, ℕ, List, Some, length, min, take, ap, sym, subst, ◌∙◌, arith}
use Rattle.std.specs.Vec.{with_items}
use Rattle.std.proofs.lemmas.List.{with_items_is}
use Rattle.rv_machine.specs.Ticks.{IsTick}
use Rattle.rv_model.specs.Memory.{kept_in}
use Rattle.rv_model.specs.State.{LoadedSegment, MachineState, register}
use Rattle.rv_model.specs.Step.{StepResult, put, reads_input}
use Rattle.rv_machine.proofs.Calls.{reads_input-kept, tick-continues}
use Rattle.rv_machine.proofs.processor.Machine.read_input.Goals as goal

pub returns : goal.returns
returns c =
    let inside : MachineState = record { regs = c.self.inside.registers; pc = c.self.inside.pc; segments = c.self.inside.segments.items; input = c.self.inside.input; out = c.self.inside.out } in
    let items : (with_items c.self.inside.segments c.keep.new.segments).items ≡ c.keep.new.segments =
    with_items_is c.self.inside.segments c.keep.new.segments (omega arith) in
    let after : MachineState = record inside { segments = (with_items c.self.inside.segments c.keep.new.segments).items; input = c.skip.new.self } in
    let address : c.register-address.result ≡ register inside 11 = c.register-address.ensures ∙ ap (λ (s : MachineState). register s 11) (sym c.self.view_is) in
    let asked : c.register-asked.result ≡ register inside 12 = c.register-asked.ensures ∙ ap (λ (s : MachineState). register s 12) (sym c.self.view_is) in
    let count : c.min-count.result ≡ min c.register-asked.result (length inside.input) =
    c.min-count.ensures ∙ ap (λ (xs : List ℕ). min c.register-asked.result (length xs)) c.rest-rest.ensures in
    let there : kept_in c.register-address.result (take c.min-count.result inside.input) inside.segments ≡ Some c.keep.new.segments =
    ap (λ (xs : List ℕ). kept_in c.register-address.result (take c.min-count.result xs) inside.segments) (sym c.rest-rest.ensures)
    ∙ ap (λ (gs : List LoadedSegment). kept_in c.register-address.result (take c.min-count.result c.rest-rest.result.now) gs) (sym c.as_mut_slice.ensures.value)
    ∙ c.if-not-keep.ensures in
    let is : reads_input inside ≡ put 10 c.min-count.result after =
    reads_input-kept inside c.register-address.result c.register-asked.result c.min-count.result c.keep.new.segments address asked count there
    ∙ ap (λ (xs : List ℕ). put 10 c.min-count.result (record inside { segments = c.keep.new.segments; input = xs })) (sym c.skip.ensures)
    ∙ ap (λ (gs : List LoadedSegment). put 10 c.min-count.result (record inside { segments = gs; input = c.skip.new.self })) (sym items) in
    let Ticked : StepResult → Type 0 = λ step. IsTick c.put.result step c.args.self.now c.put.new.self in
    subst Ticked (sym is ∙ ap reads_input c.self.view_is) (tick-continues c.put.result _ after c.args.self.now c.put.new.self c.put.ensures)
