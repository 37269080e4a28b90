use Rattle.ir_tree.specs.ShapeOf.{phi_in_shape}
use Rattle.ir_flow.specs.Around.{names_of, function_of}
use Rattle.ir_flow.specs.Phis.{IsInputThere}
use Rattle.ir_flow.proofs.OneByOne.{Hold}
use Rattle.ir_flow.proofs.around.Around.are_inputs_there.Given as goal

abbrev pub invariant-loop-input : goal.invariant-loop-input
invariant-loop-input l = Hold (λ x. IsInputThere (function_of l.self) (phi_in_shape (names_of l.self) x)) l.inputs l.input-index
