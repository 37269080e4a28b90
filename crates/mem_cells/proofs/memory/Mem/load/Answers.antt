use Rattle.std.proofs.Common.{◌≡◌, ◌≤◌, ◌+◌, List, length, arith, ap, sym, ◌∙◌, subst, slice_range}
use Rattle.std.specs.Simd.Lanes.{chunk}
use Rattle.std.proofs.lemmas.Simd.{length-chunk}
use Rattle.ir_model.specs.Values.{Gives, Cell}
use Rattle.ir_model.specs.Memory.{access_size, block_at, unless_fault, value_in}
use Rattle.mem_cells.specs.declared.slots.Slot.{Slot}
use Rattle.mem_cells.specs.Shapes.{pointer_shape}
use Rattle.mem_cells.specs.Slots.{KeepEach, KeepAddress}
use Rattle.mem_cells.proofs.Kept.{chunk_kept}
use Rattle.mem_cells.proofs.BlocksKept.{live_without_fault, block_found, slots_counted, slots_read, address_read}
use Rattle.mem_cells.proofs.memory.Mem.load.Goals as goal

pub returns : goal.returns
returns c = λ memory shows.
    let b = c.index.result.now in
    let o = c.args.at.offset in
    let n = access_size c.args.access in
    let slots : List Slot = b.slots.items in
    let cells : List Cell = (block_at memory c.args.at.block).cells in
    let kept = block_found c.args.self.now.blocks.items memory c.args.at.block b shows c.requires c.index.ensures in
    let bytes = kept.cells (live_without_fault c.args.access (pointer_shape c.args.at) memory (c.in_ok-start.ensures.fault memory shows)) in
    let count = slots_counted c.args.self.now.blocks.items c.args.at.block b c.requires c.index.ensures in
    let place : c.in_ok-start.start ≡ o = c.in_ok-start.ensures.place in
    let room = c.in_ok-start.ensures.room in
    let inside : o + n ≤ length slots = omega (arith, room, count, place) in
    let part : slice_range c.deref.result.now c.in_ok-start.start (c.in_ok-start.start + c.size_of.result) ≡ chunk o n slots =
    slots_read c.in_ok-start.start c.size_of.result o n slots c.deref.result.now place c.size_of.ensures c.deref.ensures.value in
    let value = c.value_of.ensures (chunk o n cells)
    (subst (λ ss. KeepEach ss (chunk o n cells)) (sym part) (chunk_kept o n slots cells bytes.each))
    (λ eight. subst (λ ss. KeepAddress ss (chunk o n cells)) (sym part) (address_read o n slots cells bytes inside
    (sym (length-chunk o n slots inside) ∙ sym (ap length part) ∙ eight))) in
    ap Gives value ∙ ap (λ fault. unless_fault fault (value_in c.args.access (chunk o n cells))) (sym (c.in_ok-start.ensures.fault memory shows))
