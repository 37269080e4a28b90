use Rattle.std.proofs.Common.{length, arith}
use Rattle.mem_cells.proofs.Words.{room, word_more}
use Rattle.mem_cells.proofs.slots.high_word.Goals as goal

pub overflow_mul-word : goal.overflow_mul-word
overflow_mul-word c =
    let i = c.loop-k.invariant in
    let r = room (length c.args.slots.now) c.loop-k.k c.loop-k.word (omega arith) i.0 c.requires i.2 in
    omega (arith, r.1)

pub overflow_add-word : goal.overflow_add-word
overflow_add-word c =
    let i = c.loop-k.invariant in
    let r = room (length c.args.slots.now) c.loop-k.k c.loop-k.word (omega arith) i.0 c.requires i.2 in
    omega (arith, r.1)

pub loop-k-preserved : goal.loop-k-preserved
loop-k-preserved c =
    let i = c.loop-k.invariant in
    let r = room (length c.args.slots.now) c.loop-k.k c.loop-k.word (omega arith) i.0 c.requires i.2 in
    (omega (arith, i.0), word_more (λ s. s.high) c.args.slots.now c.loop-k.k c.loop-k.word _ (omega arith) i.0 i.1, omega (arith, r.0))
