use Rattle.std.proofs.Common.{◌≡◌, ◌<◌, ℕ, ◌+◌, ◌*◌, get_or, arith, ap, ap₂, ◌∙◌}
use Rattle.std.proofs.lemmas.List.{length-set}
use Rattle.std.specs.Int.{byte_at}
use Rattle.mem_cells.specs.declared.slots.Slot.{Slot}
use Rattle.mem_cells.specs.Slots.{slot_in}
use Rattle.mem_cells.proofs.Rows.{no_slot}
use Rattle.mem_cells.proofs.Words.{byte_at_index, slot_more, slots_are}
use Rattle.mem_cells.proofs.blocks.eight_slots.Goals as goal

pub loop-k-preserved : goal.loop-k-preserved
loop-k-preserved c =
    let i = c.loop-k.invariant in
    let k = c.loop-k.k in
    let lt : k < 8 = omega arith in
    let low : get_or c.to_le_bytes-low_bytes.result k 0 ≡ byte_at k c.args.low =
    ap (λ bs. get_or bs k 0) c.to_le_bytes-low_bytes.ensures ∙ byte_at_index 8 c.args.low k lt in
    let high : get_or c.to_le_bytes-high_bytes.result k 0 ≡ byte_at k c.args.high =
    ap (λ bs. get_or bs k 0) c.to_le_bytes-high_bytes.ensures ∙ byte_at_index 8 c.args.high k lt in
    let kind : ℕ = c.args.first + c.args.step * k in
    let make : ℕ → ℕ → Slot = λ l h. record { kind = kind; low = l; high = h } in (
      length-set _ _ _ ∙ i.0,
      slot_more (slot_in c.args.first c.args.step c.args.low c.args.high) c.loop-k.slots k _ no_slot (omega (arith, i.0, lt))
          (ap₂ make low high) i.1,
    )

pub returns : goal.returns
returns c =
    let i = c.loop-k.invariant in
    let slot : ℕ → Slot = slot_in c.args.first c.args.step c.args.low c.args.high in
    slots_are slot 0 8 c.loop-k.slots no_slot i.0 (λ j lt. i.1 j (omega arith) ∙ ap slot (let e : j ≡ 0 + j = omega arith in e))
