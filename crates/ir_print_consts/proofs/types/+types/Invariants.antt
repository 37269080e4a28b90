use Rattle.std.proofs.Common.{◌≡◌, ◌++◌, drop, map}
use Rattle.ir_print_consts.specs.Texts.{in_row, ty_text}
use Rattle.ir_print_consts.proofs.types.+types.Given as goal

abbrev pub invariant-push_tys-loop-ty : goal.invariant-push_tys-loop-ty
invariant-push_tys-loop-ty l =
    l.to.items ++ in_row l.needs_comma (map (ty_text l.names) (drop l.ty-index l.tys))
    ≡ l.initial.to.items ++ in_row l.initial.is_after (map (ty_text l.names) l.tys)
