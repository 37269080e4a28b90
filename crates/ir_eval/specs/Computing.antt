-- What a step needs that computes a value.
use Rattle.std.specs.Prelude.{⊤, ℕ, List, Option, Some, None}
use Rattle.ir_model.specs.Values.{Value}
use Rattle.ir_model.specs.Operations.{Operation, Binary, Compare, Select, Convert, Freeze, Walk}
use Rattle.ir_compute.specs.Fitting.{FitsOperands}

-- the operands fit the operation; where nothing takes the value those of a conversion need not, which always has one
abbrev pub Computes : ℕ → Operation → Option ℕ → List Value → Type 0
Computes blocks operation (Some id) vs = FitsOperands blocks operation vs
Computes blocks (Binary operation flags width) None vs = FitsOperands blocks (Binary operation flags width) vs
Computes blocks (Compare predicate) None vs = FitsOperands blocks (Compare predicate) vs
Computes blocks Select None vs = FitsOperands blocks Select vs
Computes blocks (Convert conversion from to) None vs = ⊤
Computes blocks Freeze None vs = FitsOperands blocks Freeze vs
Computes blocks (Walk inbounds strides) None vs = FitsOperands blocks (Walk inbounds strides) vs
