use Rattle.std.proofs.Common.{List, ℕ, ◌++◌, map, ap, sym, subst, ◌∙◌}
use Rattle.std.proofs.lemmas.List.{take_all}
use Rattle.ir_model.specs.Values.{Byte}
use Rattle.mem_cells.specs.declared.slots.Slot.{Slot}
use Rattle.mem_cells.specs.Slots.{KeepCells, byte_slot}
use Rattle.mem_cells.proofs.Added.{bytes_added}
use Rattle.mem_cells.proofs.cells.Cells.push_bytes.Goals as goal

pub returns : goal.returns
returns c = λ cells keep.
    let bytes : List ℕ = c.args.bytes.now in
    let slots : List Slot = c.args.self.now.slots.items in
    let is = c.loop-byte.invariant ∙ ap (λ (xs : List ℕ). slots ++ map byte_slot xs) (take_all c.loop-byte.byte-index bytes c.loop-byte-test.false) in
    subst (λ xs. KeepCells xs (cells ++ map Byte bytes)) (sym is) (bytes_added slots cells bytes keep)
