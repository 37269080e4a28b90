use Rattle.std.proofs.Common.{◌≡◌, Bool, true, false, if◌then◌else◌, List, ◌++◌, Result, Ok, Err, is_ok, OnOk, take, refl, ap, sym, subst, ◌∙◌}
use Rattle.std.proofs.lemmas.Result.{on_ok_weaker}
use Rattle.ir_model.specs.declared.Access.TheVariants.{Ptr}
use Rattle.ir_model.specs.Values.{Value, Address, Pointer, is_null}
use Rattle.ir_model.specs.Memory.{cells_of}
use Rattle.mem_cells.specs.declared.slots.Slot.{Slot}
use Rattle.mem_cells.specs.Shapes.{pointer_shape}
use Rattle.mem_cells.specs.Slots.{KeepCells, kept_slots, slots_from, slot_in}
use Rattle.mem_cells.proofs.SlotsKept.{value_kept, AreKept}
use Rattle.mem_cells.proofs.Added.{value_added}
use Rattle.mem_cells.proofs.cells.Cells.push_pointer.Goals as goal

-- an address is kept in eight slots
all_eight : (q : Pointer) → take 8 (kept_slots (Address q)) ≡ kept_slots (Address q)
all_eight q = by_cases (is_null q)
  where
    by_cases : (null : Bool) → take 8 (if null then slots_from (slot_in 1 0 0 0) 0 8 else slots_from (slot_in 2 1 q.offset q.block) 0 8)
        ≡ (if null then slots_from (slot_in 1 0 0 0) 0 8 else slots_from (slot_in 2 1 q.offset q.block) 0 8)
    by_cases true = refl
    by_cases false = refl

-- a list that grew, if there was room
grown : {T E : Type 0} → (r : Result T E) (xs ys zs : List Slot) → zs ≡ (if is_ok r then xs ++ ys else xs) → OnOk r (zs ≡ xs ++ ys)
grown (Ok x) xs ys zs is = is
grown (Err e) xs ys zs is = tt

pub returns : goal.returns
returns c = λ cells keep.
    let q : Pointer = pointer_shape c.args.at in
    let v : Value = Address q in
    let slots : List Slot = c.args.self.now.slots.items in
    let are : AreKept (kept_slots v) (cells_of Ptr v) =
    subst (λ ss. AreKept ss (cells_of Ptr v)) (all_eight q) (value_kept Ptr v tt c.slots_of.ensures.words) in
    on_ok_weaker c.extend_from_slice.result
    (λ is. subst (λ xs. KeepCells xs (cells ++ cells_of Ptr v))
    (sym (is ∙ ap (λ (ss : List Slot). slots ++ ss) c.slots_of.ensures.slots))
    (value_added slots (kept_slots v) cells (cells_of Ptr v) keep are))
    (grown c.extend_from_slice.result slots c.slots_of.result c.extend_from_slice.new.self.items c.extend_from_slice.ensures.items)
