use Rattle.std.proofs.Common.{List, ap}
use Rattle.std.proofs.lemmas.List.{map-set}
use Rattle.mem_cells.specs.Shapes.{value_shape}
use Rattle.ir_model.specs.Values.{Value}
use Rattle.ir_eval.specs.Shapes.{with_values}
use Rattle.ir_eval.proofs.activation.Activation.set.Goals as goal

pub returns-then-id-len : goal.returns-then-id-len
returns-then-id-len c =
    ap (λ (vs : List Value). with_values c.args.self.now vs) (map-set value_shape c.args.self.now.values.items c.args.id c.args.value)
