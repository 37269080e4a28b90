use Rattle.std.proofs.Common.{◌≡◌, List, ℕ, Option, None, Some, take, ap, sym, subst, ◌∙◌, arith}
use Rattle.std.specs.Vec.{with_items}
use Rattle.std.proofs.lemmas.List.{with_items_is}
use Rattle.byteorder.specs.Endian.{little_bytes}
use Rattle.rv_model.specs.declared.Cause.TheVariants.{Store}
use Rattle.rv_model.specs.Memory.{stored}
use Rattle.rv_model.specs.State.{LoadedSegment, MachineState, next}
use Rattle.rv_model.specs.Step.{Continues, Traps, kept}
use Rattle.rv_machine.proofs.Storing.{take-bytes_low_first}
use Rattle.rv_machine.proofs.processor.Machine.store.Goals as goal

pub returns-then-store : goal.returns-then-store
returns-then-store c =
    let inside : MachineState = record { regs = c.self.inside.registers; pc = c.self.inside.pc; segments = c.self.inside.segments.items; input = c.self.inside.input; out = c.self.inside.out } in
    let bytes : take c.args.count c.write_u64.new.buf ≡ little_bytes c.args.count c.args.value =
    ap (λ (xs : List ℕ). take c.args.count xs) c.write_u64.ensures ∙ take-bytes_low_first 0 c.args.count 8 c.args.value c.requires in
    let Keeps : MachineState → Type 0 = λ s. kept (stored c.args.address (little_bytes c.args.count c.args.value) s.segments) s ≡ Continues c.go_on.new.self in
    let is : stored c.args.address (little_bytes c.args.count c.args.value) inside.segments ≡ Some c.store.new.segments =
    ap (λ (xs : List ℕ). stored c.args.address xs inside.segments) (sym bytes)
    ∙ ap (λ (gs : List LoadedSegment). stored c.args.address (take c.args.count c.write_u64.new.buf) gs) (sym c.as_mut_slice.ensures.value)
    ∙ c.if-store.ensures in
    let items : (with_items c.self.inside.segments c.store.new.segments).items ≡ c.store.new.segments =
    with_items_is c.self.inside.segments c.store.new.segments (omega arith) in
    subst Keeps c.self.view_is
    (ap (λ (o : Option (List LoadedSegment)). kept o inside) is
    ∙ ap (λ (gs : List LoadedSegment). Continues (next (record inside { segments = gs }))) (sym items)
    ∙ ap (λ (s : MachineState). Continues s) (sym c.go_on.ensures))

pub returns-else-store : goal.returns-else-store
returns-else-store c =
    let inside : MachineState = record { regs = c.self.inside.registers; pc = c.self.inside.pc; segments = c.self.inside.segments.items; input = c.self.inside.input; out = c.self.inside.out } in
    let bytes : take c.args.count c.write_u64.new.buf ≡ little_bytes c.args.count c.args.value =
    ap (λ (xs : List ℕ). take c.args.count xs) c.write_u64.ensures ∙ take-bytes_low_first 0 c.args.count 8 c.args.value c.requires in
    let Keeps : MachineState → Type 0 = λ s. kept (stored c.args.address (little_bytes c.args.count c.args.value) s.segments) s ≡ Traps c.pc.result Store in
    let is : stored c.args.address (little_bytes c.args.count c.args.value) inside.segments ≡ None =
    ap (λ (xs : List ℕ). stored c.args.address xs inside.segments) (sym bytes)
    ∙ ap (λ (gs : List LoadedSegment). stored c.args.address (take c.args.count c.write_u64.new.buf) gs) (sym c.as_mut_slice.ensures.value)
    ∙ c.if-store.ensures.0 in
    let same : c.store.new.segments ≡ inside.segments = c.if-store.ensures.1 ∙ c.as_mut_slice.ensures.value in
    let items : (with_items c.self.inside.segments c.store.new.segments).items ≡ c.store.new.segments =
    with_items_is c.self.inside.segments c.store.new.segments (omega arith) in (
      subst Keeps c.self.view_is (ap (λ (o : Option (List LoadedSegment)). kept o inside) is ∙ ap (λ (p : ℕ). Traps p Store) (sym c.pc.ensures)),
      ap (λ (gs : List LoadedSegment). record inside { segments = gs }) (items ∙ same) ∙ c.self.view_is,
    )
