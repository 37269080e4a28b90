use Rattle.std.proofs.Common.{List, ◌++◌, ap, sym, subst, ◌∙◌}
use Rattle.std.proofs.Math.ListN.{replicate}
use Rattle.std.proofs.lemmas.Result.{on_ok_weaker}
use Rattle.ir_model.specs.Values.{Byte}
use Rattle.mem_cells.specs.declared.slots.Slot.{Slot}
use Rattle.mem_cells.specs.Slots.{KeepCells}
use Rattle.mem_cells.proofs.Added.{zeros_added}
use Rattle.mem_cells.proofs.cells.Cells.push_zeros.Goals as goal

pub returns : goal.returns
returns c = λ cells keep.
    let n = c.args.count in
    let slots : List Slot = c.args.self.now.slots.items in
    on_ok_weaker c.push_all.result
    (λ is. subst (λ xs. KeepCells xs (cells ++ replicate n (Byte 0))) (sym (is ∙ ap (λ (s : Slot). slots ++ replicate n s) c.byte_slot.ensures)) (zeros_added slots cells n keep)) c.push_all.ensures
