use Rattle.std.proofs.Common.{◌≡◌, map}
use Rattle.ir_read_modules.proofs.parameters.types_of.Given as goal

abbrev pub invariant-loop-param : goal.invariant-loop-param
invariant-loop-param l = l.types.items ≡ map (λ param. param.ty) l.yielded
