use Rattle.std.proofs.Common.{◌≡◌, ◌+◌, ◌∷◌, ℕ, List, drop, get_or, ap, ap₂, sym, subst, ◌∙◌}
use Rattle.std.proofs.lemmas.List.{drop_more}
use Rattle.ir_model.specs.Values.{Integer}
use Rattle.ir_model.specs.States.{after, goes_on}
use Rattle.ir_model.specs.Steps.{gets}
use Rattle.ir_eval.specs.Shapes.{activation_shape, below, state_of}
use Rattle.ir_eval.specs.Turns.{IsTurn}
use Rattle.ir_eval.proofs.machine.Machine.get_char.Goals as goal

pub returns : goal.returns
returns c = λ memory shows.
    let m = c.args.self.now in
    let input = c.args.input.now in
    let given = c.args.given in
    let found = c.in-Some.ensures.lookup in
    let left : drop m.place input ≡ c.in-Some.byte.now ∷ drop (m.place + 1) input =
    drop_more input m.place 0 found.3.0 ∙ ap (λ (n : ℕ). n ∷ drop (m.place + 1) input) (sym (found.3.1 0)) in
    subst (λ (cs : List ℕ). IsTurn input c.go_on-2.result (gets cs given (activation_shape m.current) (below m) (state_of input memory m)) m.output.items c.go_on-2.new.self)
    (ap (λ (n : ℕ). n ∷ drop (m.place + 1) input) c.from-2.ensures ∙ sym left)
    (c.go_on-2.ensures input memory shows)
