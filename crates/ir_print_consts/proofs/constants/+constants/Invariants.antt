use Rattle.std.proofs.Common.{◌≡◌, ◌++◌, drop, map}
use Rattle.ir_print_consts.specs.Texts.{in_row, typed_text}
use Rattle.ir_print_consts.proofs.constants.+constants.Given as goal

abbrev pub invariant-push_row-loop-typed : goal.invariant-push_row-loop-typed
invariant-push_row-loop-typed l =
    l.to.items ++ in_row l.needs_comma (map (typed_text l.names) (drop l.typed-index l.row))
    ≡ l.initial.to.items ++ in_row l.initial.is_after (map (typed_text l.names) l.row)
