use Rattle.ir_tree.specs.ShapeOf.{ty_shape}
use Rattle.ir_tree.specs.Known.{ty_known}
use Rattle.ir_rules.specs.Uses.{ty_uses}
use Rattle.ir_missing.specs.Tells.{Outside}
use Rattle.ir_missing.proofs.Telling.{rest_next, rest_stops, rest_ends}
use Rattle.ir_missing.proofs.ToldTypes.{integer_told, pointer_told, void_told, array_told, structure_told, named_told}
use Rattle.ir_missing.proofs.types.+types.Goals as goal

pub ty_there-returns-in-Int : goal.ty_there-returns-in-Int
ty_there-returns-in-Int t c = rw c.in-Int.is (integer_told _ _)

pub ty_there-returns-in-Ptr : goal.ty_there-returns-in-Ptr
ty_there-returns-in-Ptr t c = rw c.in-Ptr.is (pointer_told _)

pub ty_there-returns-in-Void : goal.ty_there-returns-in-Void
ty_there-returns-in-Void t c = rw c.in-Void.is (void_told _)

pub ty_there-returns-in-Array : goal.ty_there-returns-in-Array
ty_there-returns-in-Array t c = rw c.in-Array.is (array_told _ _ _ _ (rw c.deref.ensures at c.ty_there.ensures))

pub ty_there-returns-in-Struct : goal.ty_there-returns-in-Struct
ty_there-returns-in-Struct t c = rw c.in-Struct.is (structure_told _ _ _ _ (rw c.deref-in-Struct.ensures.value at c.tys_there.ensures))

pub ty_there-returns-in-Named : goal.ty_there-returns-in-Named
ty_there-returns-in-Named t c = rw c.in-Named.is (named_told _ _ _ c.is_type.ensures)

pub tys_there-loop-ty-preserved : goal.tys_there-loop-ty-preserved
tys_there-loop-ty-preserved t c =
    rest_next (Outside _) ty_known ty_shape ty_uses _ c.loop-ty.ty-index c.ty-item.result _ c.loop-ty-test.true c.ty-item.is c.ty_there.ensures
    c.if-not-ty_there.false c.loop-ty.invariant

pub tys_there-returns-then-not-ty_there : goal.tys_there-returns-then-not-ty_there
tys_there-returns-then-not-ty_there t c =
    rest_stops (Outside _) ty_known ty_shape ty_uses _ c.loop-ty.ty-index c.ty-item.result _ c.loop-ty-test.true c.ty-item.is c.ty_there.ensures
    c.if-not-ty_there.true c.loop-ty.invariant

pub tys_there-returns : goal.tys_there-returns
tys_there-returns t c = rest_ends (Outside _) ty_known ty_shape ty_uses _ c.loop-ty.ty-index c.loop-ty-test.false c.loop-ty.invariant
