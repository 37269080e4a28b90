use Rattle.std.proofs.Common.{◌≡◌, take, map}
use Rattle.ir_same.specs.Numbered.{numbered_typed}
use Rattle.ir_same.proofs.constants.+constants.Given as goal

abbrev pub invariant-equal_row-loop-i : goal.invariant-equal_row-loop-i
invariant-equal_row-loop-i l = map numbered_typed (take l.i l.row) ≡ map numbered_typed (take l.i l.others)
