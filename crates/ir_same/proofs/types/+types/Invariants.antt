use Rattle.std.proofs.Common.{◌≡◌, take, map}
use Rattle.ir_same.specs.Numbered.{numbered_ty}
use Rattle.ir_same.proofs.types.+types.Given as goal

abbrev pub invariant-equal_tys-loop-i : goal.invariant-equal_tys-loop-i
invariant-equal_tys-loop-i l = map numbered_ty (take l.i l.row) ≡ map numbered_ty (take l.i l.others)
