use Rattle.std.proofs.Common.{List, ◌++◌, sym, subst}
use Rattle.std.proofs.Math.ListN.{replicate}
use Rattle.std.proofs.lemmas.Result.{on_ok_weaker}
use Rattle.ir_model.specs.Values.{Unknown}
use Rattle.mem_cells.specs.declared.slots.Slot.{Slot}
use Rattle.mem_cells.specs.Slots.{KeepCells}
use Rattle.mem_cells.proofs.Added.{poison_added}
use Rattle.mem_cells.proofs.cells.Cells.push_poison.Goals as goal

pub returns : goal.returns
returns c = λ cells keep.
    let n = c.args.count in
    let slots : List Slot = c.args.self.now.slots.items in
    on_ok_weaker c.push_all.result
    (λ is. subst (λ xs. KeepCells xs (cells ++ replicate n Unknown)) (sym is) (poison_added slots cells n keep)) c.push_all.ensures
