-- The points of the words that end with a status.
use Rattle.std.specs.Prelude.{List, [], ◌∷◌}
use Rattle.point_list.specs.declared.list.Point.{Point}

-- the status before the second word, and both registers that the call reads before the call
abbrev pub exit_points : List Point
exit_points =
    record { pc = 0x10004; reg = 10 } ∷ record { pc = 0x10008; reg = 10 } ∷ record { pc = 0x10008; reg = 17 } ∷ []
