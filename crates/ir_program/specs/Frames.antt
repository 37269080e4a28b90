-- How many bytes of stack an activation of a function is counted as (this profile's choice): by the terms of the limits, as a number that
-- computes.
use Rattle.std.specs.Prelude.{ℕ, ◌+◌, List, sum_by}
use Rattle.ir_tree.specs.Shape.{BodyShape, alloca, FunctionShape, NamedTyShape}
use Rattle.ir_layout.specs.Layout.{next_multiple}
use Rattle.ir_proper.specs.Limits.{capped, all_insts, frame_base, alloca_room}
use Rattle.ir_program.specs.Sizes.{ty_size}

-- the bytes that an instruction takes in a frame: none but an alloca takes any
abbrev pub room_of : List NamedTyShape → BodyShape → ℕ
room_of ts (alloca t count) = alloca_room count (ty_size ts t)
room_of ts body = 0

-- the bytes of the frame of a function
abbrev pub frame_of : List NamedTyShape → FunctionShape → ℕ
frame_of ts f = capped (next_multiple 16 (frame_base f + sum_by (λ x. room_of ts x.body) (all_insts f)))
