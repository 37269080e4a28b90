use Rattle.std.proofs.Common.{◌≡◌, map, take}
use Rattle.ir_check_insts.specs.Surroundings.{ty_in, ty_val_in}
use Rattle.ir_check_insts.proofs.around.Around.are_of_types.Given as goal

abbrev pub invariant-loop-i : goal.invariant-loop-i
invariant-loop-i l = take l.i (map (λ x. x.ty) (map (ty_val_in l.self) l.arguments)) ≡ take l.i (map (ty_in l.self) l.types)
