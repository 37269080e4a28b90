use Rattle.std.proofs.Common.{◌≡◌, ◌∷◌, ℕ, List, reverse, ap, ap₂, sym, subst, ◌∙◌}
use Rattle.ir_model.specs.Values.{Address}
use Rattle.ir_model.specs.Memory.{made}
use Rattle.ir_model.specs.States.{after, goes_on}
use Rattle.ir_eval.specs.Shapes.{activation_shape, below, state_of}
use Rattle.ir_eval.specs.Turns.{IsTurn}
use Rattle.ir_eval.proofs.Stacks.{pushed_plain}
use Rattle.ir_eval.proofs.machine.Machine.make_room.Goals as goal

pub returns : goal.returns
returns c = λ input memory shows.
    let m = c.args.self.now in
    let larger = made c.args.size memory in
    let block = c.in_ok-block.block in
    let number = c.in_ok-block.ensures.number memory shows in
    let Turned : List ℕ → ℕ → Type 0 = λ owned block.
    IsTurn input c.go_on.result
    (goes_on (after c.args.given (Address (record { block = block; offset = 0 })) (record (activation_shape m.current) { owned = owned })) (below m)
    (record (state_of input memory m) { memory = larger })) m.output.items c.go_on.new.self in
    let owned = pushed_plain m.current.owned.items c.push.new.self.items block c.in_ok-push.ensures.items in
    let gone = subst (λ owned. Turned owned block) owned (c.go_on.ensures input larger (c.in_ok-block.ensures.blocks memory shows)) in
    subst (λ (k : ℕ). Turned (k ∷ reverse m.current.owned.items) k) number gone
