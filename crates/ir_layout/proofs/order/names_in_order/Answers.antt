use Rattle.std.proofs.Common.{true, false, refl, arith}
use Rattle.std.specs.Prelude.{not}
use Rattle.std.proofs.lemmas.Option.{slice_get_within}
use Rattle.ir_layout.proofs.Slices.{count_set}
use Rattle.ir_layout.proofs.order.names_in_order.Goals as goal

pub index_mut-requires : goal.index_mut-requires
index_mut-requires c =
    let unseen = rw c.deref.ensures.value at (rw c.in-Some.is at c.in_ok-id.ensures) in
    omega (arith, slice_get_within c.loop-steps.seen.items c.in-Some.id false unseen)

pub push_inside-requires-clause-within : goal.push_inside-requires-clause-within
push_inside-requires-clause-within c =
    let unseen = rw c.deref.ensures.value at (rw c.in-Some.is at c.in_ok-id.ensures) in
    omega (arith, slice_get_within c.loop-steps.seen.items c.in-Some.id false unseen)

pub loop-steps-smaller : goal.loop-steps-smaller
loop-steps-smaller c =
    let unseen = rw c.deref.ensures.value at (rw c.in-Some.is at c.in_ok-id.ensures) in
    omega (arith, count_set not c.loop-steps.seen.items c.in-Some.id false true unseen refl refl)
