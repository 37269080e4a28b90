-- A function that has a frame by the limits has it in its program.
use Rattle.std.proofs.Common.{◌≡◌, ℕ, ◌+◌, List, [], ◌∷◌, ap, sym, ◌∙◌}
use Rattle.std.specs.Prelude.{sum_by}
use Rattle.std.proofs.lemmas.List.Sums.{sum_by-cons}
use Rattle.ir_tree.specs.Shape.{BodyShape, phi, binary, icmp, select, convert, freeze, alloca, load, store, get_element, call, jump, branch, switch, return_void, return_value, unreachable, InstShape, FunctionShape, NamedTyShape}
use Rattle.ir_layout.specs.Layout.{next_multiple}
use Rattle.ir_layout.specs.declared.sizes.Layout.{Layout}
use Rattle.ir_proper.specs.Limits.{capped, all_insts, frame_base, alloca_room, TakesRoom, TakeRoom, HasFrame}
use Rattle.ir_program.specs.Frames.{room_of, frame_of}
use Rattle.ir_program.proofs.Laid.{laid_out}

takes_room : (ts : List NamedTyShape) (body : BodyShape) (room : ℕ) → TakesRoom ts body room → room_of ts body ≡ room
takes_room ts (phi ty inputs) room takes = sym takes
takes_room ts (binary operation flags ty left right) room takes = sym takes
takes_room ts (icmp predicate ty left right) room takes = sym takes
takes_room ts (select condition met unmet) room takes = sym takes
takes_room ts (convert conversion ty val to) room takes = sym takes
takes_room ts (freeze ty val) room takes = sym takes
takes_room ts (alloca ty count) room (l, has, is) =
    ap (λ (found : Layout). alloca_room count found.size) (laid_out ts ty l has) ∙ sym is
takes_room ts (load ty at) room takes = sym takes
takes_room ts (store value at) room takes = sym takes
takes_room ts (get_element inbounds ty base indices) room takes = sym takes
takes_room ts (call ret callee arguments) room takes = sym takes
takes_room ts (jump to) room takes = sym takes
takes_room ts (branch condition met unmet) room takes = sym takes
takes_room ts (switch value otherwise cases) room takes = sym takes
takes_room ts return_void room takes = sym takes
takes_room ts (return_value value) room takes = sym takes
takes_room ts unreachable room takes = sym takes

take_room : (ts : List NamedTyShape) (xs : List InstShape) (room : ℕ) → TakeRoom ts xs room → sum_by (λ x. room_of ts x.body) xs ≡ room
take_room ts [] room takes = sym takes
take_room ts (x ∷ xs) room (first, rest, one, more, is) =
    sum_by-cons (λ (x : InstShape). room_of ts x.body) x xs ∙ ap (λ (n : ℕ). n + sum_by (λ (x : InstShape). room_of ts x.body) xs) (takes_room ts x.body first one)
    ∙ ap (λ (n : ℕ). first + n) (take_room ts xs rest more) ∙ sym is

pub framed : (ts : List NamedTyShape) (f : FunctionShape) (frame : ℕ) → HasFrame ts f frame → frame_of ts f ≡ frame
framed ts f frame (room, takes, is) = ap (λ (n : ℕ). capped (next_multiple 16 (frame_base f + n))) (take_room ts (all_insts f) room takes) ∙ sym is
