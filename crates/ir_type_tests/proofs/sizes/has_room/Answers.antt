use Rattle.std.proofs.lemmas.Int.{to_z-of_z}
use Rattle.ir_type_tests.proofs.Sized.{room_some, room_none}
use Rattle.ir_type_tests.proofs.sizes.has_room.Goals as goal

pub returns-in-Some : goal.returns-in-Some
returns-in-Some c m known whole names =
    let fits = c.ranges.count in
    let small = simp to_z-of_z at c.are_small.ensures in
    room_some _ _ c.args.count c.in-Some.layout (c.in-Some.ensures m known whole names) c.are_small.result small

pub returns-in-None : goal.returns-in-None
returns-in-None c m known whole names =
    (λ no. cc, λ room. absurd (room_none _ _ c.args.count (c.in-None.ensures m known whole names) room))
