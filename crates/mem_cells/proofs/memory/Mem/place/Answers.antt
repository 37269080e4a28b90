use Rattle.std.proofs.Common.{◌≡◌, ◌<◌, ◌≤◌, ◌+◌, length, arith, sym, ◌∙◌}
use Rattle.ir_model.specs.Memory.{access_size, block_at, size_of}
use Rattle.mem_cells.specs.Shapes.{pointer_shape}
use Rattle.mem_cells.proofs.Kept.{same_length}
use Rattle.mem_cells.proofs.BlocksKept.{block_found, slots_counted, fault_dead, fault_outside, no_fault}
use Rattle.mem_cells.proofs.memory.Mem.place.Goals as goal
use Rattle.mem_cells.proofs.memory.Mem.place.Goals.{then-start-size-via-then-start-size, then-start-size-via-else-start-size+then-size-start}

pub returns-then-not-block-clause-fault : goal.returns-then-not-block-clause-fault
returns-then-not-block-clause-fault c = λ memory shows.
    let kept = block_found c.args.self.now.blocks.items memory c.args.at.block c.index-block.result.now shows c.requires c.index-block.ensures in
    fault_dead c.args.access (pointer_shape c.args.at) memory (sym kept.live ∙ c.if-not-block.true)

pub returns-then-start-size-clause-fault : goal.returns-then-start-size-clause-fault
returns-then-start-size-clause-fault c = λ memory shows.
    let b = c.index-block.result.now in
    let kept = block_found c.args.self.now.blocks.items memory c.args.at.block b shows c.requires c.index-block.ensures in
    let live = sym kept.live ∙ c.if-not-block.false in
    let many : length b.slots.items ≡ size_of memory c.args.at.block = same_length b.slots.items (block_at memory c.args.at.block).cells (kept.cells live).each in
    let out : length b.slots.items < c.args.at.offset + access_size c.args.access =
    elim c.then-start-size.branch [
      | then-start-size-via-then-start-size w ↦ omega (arith, c.len-size.ensures, b.slots.ok.0)
      | then-start-size-via-else-start-size+then-size-start w ↦ omega (arith, c.len-size.ensures, b.slots.ok.0, w.size_of.ensures)
    ] in
    fault_outside c.args.access (pointer_shape c.args.at) memory live (omega (arith, out, many))

pub returns-clause-fault : goal.returns-clause-fault
returns-clause-fault c = λ memory shows.
    let b = c.index-block.result.now in
    let kept = block_found c.args.self.now.blocks.items memory c.args.at.block b shows c.requires c.index-block.ensures in
    let live = sym kept.live ∙ c.if-not-block.false in
    let many : length b.slots.items ≡ size_of memory c.args.at.block = same_length b.slots.items (block_at memory c.args.at.block).cells (kept.cells live).each in
    let inside : c.args.at.offset + access_size c.args.access ≤ length b.slots.items = omega (arith, c.len-size.ensures, b.slots.ok.0, c.size_of.ensures) in
    no_fault c.args.access (pointer_shape c.args.at) memory live (omega (arith, inside, many))

pub returns-clause-room : goal.returns-clause-room
returns-clause-room c =
    let b = c.index-block.result.now in
    let count = slots_counted c.args.self.now.blocks.items c.args.at.block b c.requires c.index-block.ensures in
    omega (arith, c.len-size.ensures, b.slots.ok.0, c.size_of.ensures, count)
