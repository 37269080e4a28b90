use Rattle.std.proofs.Common.{◌≡◌, true, false, true≢false, sym, ◌∙◌}
use Rattle.mem_cells.specs.Slots.{are_in_order}
use Rattle.mem_cells.proofs.ValuesKept.{are_numbers, low_of, null_kept, poison_kept}
use Rattle.mem_cells.proofs.blocks.address_of.Goals as goal
use Rattle.mem_cells.proofs.blocks.address_of.Goals.{else-are_bytes-via-then-are_bytes+else-low_word-eq0, else-are_bytes-via-else-are_bytes}

pub returns-then-low_word-eq0 : goal.returns-then-low_word-eq0
returns-then-low_word-eq0 c = λ cells keep whole.
    let all : are_numbers c.args.slots.now ≡ true = sym c.are_bytes.ensures ∙ c.if-are_bytes.true in
    let zero_is : low_of c.args.slots.now ≡ 0 = sym c.low_word-then-are_bytes.ensures ∙ c.if-low_word-eq0.true in
    sym (null_kept c.args.slots.now cells keep c.requires all zero_is)

pub returns : goal.returns
returns c = λ cells keep whole.
    let order : are_in_order 0 c.args.slots.now ≡ false = sym c.are_parts.ensures ∙ c.if-are_parts.false in
    sym (poison_kept c.args.slots.now cells keep order (λ are zero_is. elim c.else-are_bytes.branch [
      | else-are_bytes-via-then-are_bytes+else-low_word-eq0 w ↦ w.if-low_word-eq0.false (w.low_word-then-are_bytes.ensures ∙ zero_is)
      | else-are_bytes-via-else-are_bytes w ↦ true≢false (sym are ∙ sym c.are_bytes.ensures ∙ w.if-are_bytes.false)
    ]))
