use Rattle.std.proofs.Common.{◌≡◌, take}
use Rattle.ir_flow.specs.Around.{function_of, inputs_of}
use Rattle.ir_flow.specs.Phis.{froms_of}
use Rattle.ir_flow.proofs.around.Around.blocks_from.Given as goal

abbrev pub invariant-loop-input : goal.invariant-loop-input
invariant-loop-input l = l.from.items ≡ froms_of (function_of l.self) (inputs_of l.self (take l.input-index l.inputs))
