use Rattle.std.proofs.Common.{◌≡◌, Some, arith}
use Rattle.ir_tree.specs.ShapeOf.{name_shape}
use Rattle.ir_rules.specs.Values.{block_of}
use Rattle.ir_flow.specs.Around.{names_of, function_of}
use Rattle.ir_flow.proofs.OneByOne.{yes, of_mapped, hold_all}
use Rattle.ir_flow.proofs.around.Around.avoid_first.Goals as goal

pub returns : goal.returns
returns c =
    let names = names_of c.args.self.now in
    let f = function_of c.args.self.now in
    let labels = c.args.labels.now in
    yes _
    (of_mapped (name_shape names) (λ name. block_of f name ≡ Some 0 → ⊥) labels
    (hold_all (λ id. block_of f (name_shape names id) ≡ Some 0 → ⊥) labels c.loop-label.label-index (omega arith) c.loop-label.invariant))
