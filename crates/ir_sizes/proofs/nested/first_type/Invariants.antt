use Rattle.std.proofs.Common.{◌≡◌, drop}
use Rattle.ir_layout.specs.Tables.{type_of_number}
use Rattle.ir_sizes.proofs.nested.first_type.Given as goal

abbrev pub invariant-loop-named : goal.invariant-loop-named
invariant-loop-named l = type_of_number (drop l.named-index l.types) l.id.0 ≡ type_of_number l.types l.id.0
