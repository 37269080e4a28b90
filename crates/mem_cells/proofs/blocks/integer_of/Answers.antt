use Rattle.std.proofs.Common.{◌≡◌, true, false, if◌then◌else◌, Some, None, ap, sym, ◌∙◌}
use Rattle.ir_model.specs.Values.{Integer}
use Rattle.ir_model.specs.Memory.{integer_of}
use Rattle.mem_cells.proofs.ValuesKept.{are_numbers, low_of, number_kept}
use Rattle.mem_cells.proofs.blocks.integer_of.Goals as goal

pub returns-then-are_bytes : goal.returns-then-are_bytes
returns-then-are_bytes c = λ cells keep.
    let slots = c.args.slots.now in
    let all : are_numbers slots ≡ true = sym c.are_bytes.ensures ∙ c.if-are_bytes.true in
    ap (Integer c.args.width) c.low_word.ensures
    ∙ sym (ap (integer_of c.args.width) (number_kept slots cells keep ∙ ap (λ b. if b then Some (low_of slots) else None) all))

pub returns-else-are_bytes : goal.returns-else-are_bytes
returns-else-are_bytes c = λ cells keep.
    let slots = c.args.slots.now in
    let some : are_numbers slots ≡ false = sym c.are_bytes.ensures ∙ c.if-are_bytes.false in
    sym (ap (integer_of c.args.width) (number_kept slots cells keep ∙ ap (λ b. if b then Some (low_of slots) else None) some))
