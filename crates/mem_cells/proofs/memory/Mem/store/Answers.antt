use Rattle.std.proofs.Common.{◌≡◌, ◌≤◌, ◌+◌, List, length, take, arith, ap, sym, ◌∙◌, subst}
use Rattle.std.specs.Simd.Lanes.{put_chunk}
use Rattle.std.proofs.lemmas.Simd.{length-put_chunk}
use Rattle.std.proofs.lemmas.List.{with_items_is}
use Rattle.ir_model.specs.Values.{Cell}
use Rattle.ir_model.specs.Memory.{access_size, block_at, cells_of}
use Rattle.mem_cells.specs.declared.slots.Slot.{Slot}
use Rattle.mem_cells.specs.Shapes.{pointer_shape, value_shape}
use Rattle.mem_cells.specs.Slots.{KeepCells, kept_slots}
use Rattle.mem_cells.proofs.BlocksKept.{live_without_fault, block_found, slots_counted, set_kept, value_stored, slots_put}
use Rattle.mem_cells.proofs.memory.Mem.store.Goals as goal

pub returns-clause-stored : goal.returns-clause-stored
returns-clause-stored c = λ memory shows.
    let b = c.index_mut.result.now in
    let o = c.args.at.offset in
    let n = access_size c.args.access in
    let v = value_shape c.args.value in
    let blocks = c.args.self.now.blocks.items in
    let slots : List Slot = b.slots.items in
    let cells : List Cell = (block_at memory c.args.at.block).cells in
    let kept = block_found blocks memory c.args.at.block b shows c.requires.block c.index_mut.ensures.value in
    let bytes = kept.cells (live_without_fault c.args.access (pointer_shape c.args.at) memory (c.in_ok-start.ensures.fault memory shows)) in
    let count = slots_counted blocks c.args.at.block b c.requires.block c.index_mut.ensures.value in
    let place : c.in_ok-start.start ≡ o = c.in_ok-start.ensures.place in
    let room = c.in_ok-start.ensures.room in
    let inside : o + n ≤ length slots = omega (arith, room, count, place) in
    let is : c.put.new.slots ≡ put_chunk o slots (take n (kept_slots v)) =
    c.put.ensures ∙ slots_put c.in_ok-start.start c.size_of.result o n slots c.deref_mut.result.now (kept_slots v) c.slots_of-kept.result
    place c.size_of.ensures c.deref_mut.ensures.value c.slots_of-kept.ensures.slots in
    let long : length c.put.new.slots ≡ length slots = ap length is ∙ length-put_chunk o slots (take n (kept_slots v)) in
    let items = with_items_is b.slots c.put.new.slots (omega (arith, long, b.slots.ok.0)) in
    set_kept blocks memory c.args.at.block _ _ shows (record {
      live = kept.live;
      size = kept.size ∙ sym (length-put_chunk o cells (cells_of c.args.access v));
      cells = λ live. subst (λ xs. KeepCells xs (put_chunk o cells (cells_of c.args.access v))) (sym (items ∙ is))
          (value_stored c.args.access v o slots cells bytes c.requires.carried c.slots_of-kept.ensures.words inside);
    })
