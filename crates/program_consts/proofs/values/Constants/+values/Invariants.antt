use Rattle.ir_tree.specs.declared.types.Const.{size-Const}
use Rattle.ir_tree.specs.declared.types.Typed.{size-Typed}
use Rattle.program_consts.proofs.values.Constants.+values.Given as goal

abbrev pub decreases-value_of : goal.decreases-value_of
decreases-value_of l = size-Const l.c.now

abbrev pub decreases-typed_value : goal.decreases-typed_value
decreases-typed_value l = size-Typed l.typed.now
