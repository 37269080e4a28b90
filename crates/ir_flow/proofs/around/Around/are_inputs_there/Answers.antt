use Rattle.std.proofs.Common.{length, refl, arith}
use Rattle.std.proofs.lemmas.Option.{slice_get_read}
use Rattle.ir_tree.specs.ShapeOf.{phi_in_shape}
use Rattle.ir_flow.specs.Around.{names_of, function_of}
use Rattle.ir_flow.specs.Phis.{IsInputThere}
use Rattle.ir_flow.proofs.OneByOne.{yes, no, not_true, hold_next, hold_all}
use Rattle.ir_flow.proofs.Operands.{ends_by_each, each_by_ends}
use Rattle.ir_flow.proofs.around.Around.are_inputs_there.Goals as goal

pub returns-then-not-branch : goal.returns-then-not-branch
returns-then-not-branch c =
    let names = names_of c.args.self.now in
    let f = function_of c.args.self.now in
    let inputs = c.args.inputs.now in
    let at = c.loop-input.input-index in
    let x = c.input-item.result in
    no _ (λ ends.
    not_true (IsInputThere f (phi_in_shape names x)) c.in_ok-is_input_there.field-0 c.if-not-branch.true c.in_ok-is_input_there.ensures
    (each_by_ends names f inputs ends at x (slice_get_read inputs (length inputs) at x refl (omega arith) c.input-item.is)))

pub loop-input-preserved : goal.loop-input-preserved
loop-input-preserved c =
    let names = names_of c.args.self.now in
    let f = function_of c.args.self.now in
    hold_next (λ x. IsInputThere f (phi_in_shape names x)) c.args.inputs.now c.loop-input.input-index c.input-item.result (omega arith) c.input-item.is
    (c.in_ok-is_input_there.ensures.0 c.if-not-branch.false) c.loop-input.invariant

pub returns : goal.returns
returns c =
    let names = names_of c.args.self.now in
    let f = function_of c.args.self.now in
    let inputs = c.args.inputs.now in
    yes _
    (ends_by_each names f inputs
    (hold_all (λ x. IsInputThere f (phi_in_shape names x)) inputs c.loop-input.input-index (omega arith) c.loop-input.invariant))
