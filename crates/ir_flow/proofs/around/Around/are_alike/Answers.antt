use Rattle.std.proofs.Common.{arith, sym, ◌∙◌, below_more}
use Rattle.std.proofs.lemmas.List.{length-map}
use Rattle.ir_flow.specs.Around.{inputs_of}
use Rattle.ir_flow.specs.Phis.{IsLike}
use Rattle.ir_flow.proofs.OneByOne.{yes, no, not_true}
use Rattle.ir_flow.proofs.Alike.{alike_by_each, each_alike}
use Rattle.ir_flow.proofs.around.Around.are_alike.Goals as goal

pub returns-then-not-is_like : goal.returns-then-not-is_like
returns-then-not-is_like c =
    let inputs = inputs_of c.args.self.now c.args.inputs.now in
    no _ (λ alike.
    not_true (IsLike inputs c.args.from.now c.args.places.now c.loop-at.at) c.is_like.result (cc) c.is_like.ensures
    (each_alike inputs c.args.from.now c.args.places.now c.requires.places alike c.loop-at.at))

pub loop-at-preserved : goal.loop-at-preserved
loop-at-preserved c = below_more _ _ c.loop-at.invariant (c.is_like.ensures.0 (cc))

pub returns : goal.returns
returns c =
    let inputs = inputs_of c.args.self.now c.args.inputs.now in
    let long = length-map c.args.inputs.now _ in
    yes _
    (alike_by_each inputs c.args.from.now c.args.places.now (c.requires.long ∙ sym long) c.requires.places
    (λ k less. c.loop-at.invariant k (omega (arith, long))))
