use Rattle.std.proofs.Common.{◌≡◌, drop}
use Rattle.std.specs.List.{position_from}
use Rattle.make_program.specs.Main.{is_main, main_among}
use Rattle.make_program.proofs.main_function.main_among.Given as goal

abbrev pub invariant-loop-at : goal.invariant-loop-at
invariant-loop-at l = main_among l.names l.functions ≡ position_from (is_main l.names) l.at (drop l.at l.functions)
