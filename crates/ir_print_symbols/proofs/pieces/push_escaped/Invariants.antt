use Rattle.std.proofs.Common.{◌≡◌, ◌++◌, drop}
use Rattle.ir_print_symbols.specs.Printed.{escaped}
use Rattle.ir_print_symbols.proofs.pieces.push_escaped.Given as goal

abbrev pub invariant-loop-byte : goal.invariant-loop-byte
invariant-loop-byte l = l.to.items ++ escaped (drop l.byte-index l.bytes) ≡ l.initial.to.items ++ escaped l.bytes
