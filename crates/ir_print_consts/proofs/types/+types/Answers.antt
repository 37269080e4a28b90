use Rattle.ir_print_consts.proofs.TypeTexts.{integer_printed, pointer_printed, void_printed, array_printed, struct_printed, named_printed}
use Rattle.ir_print_consts.proofs.types.+types.Goals as goal

pub push_ty-returns-in-Int : goal.push_ty-returns-in-Int
push_ty-returns-in-Int t c = rw (c.in-Int.is, integer_printed) c.push_keyword.ensures

pub push_ty-returns-in-Ptr : goal.push_ty-returns-in-Ptr
push_ty-returns-in-Ptr t c = rw (c.in-Ptr.is, pointer_printed) c.push_keyword-in-Ptr.ensures

pub push_ty-returns-in-Void : goal.push_ty-returns-in-Void
push_ty-returns-in-Void t c = rw (c.in-Void.is, void_printed) c.push_keyword-in-Void.ensures

pub push_ty-returns-in-Array : goal.push_ty-returns-in-Array
push_ty-returns-in-Array t c = rw (c.in-Array.is, array_printed) (rw c.deref.ensures at c.push_array.ensures)

pub push_ty-returns-in-Struct : goal.push_ty-returns-in-Struct
push_ty-returns-in-Struct t c = rw (c.in-Struct.is, struct_printed) (rw c.deref-in-Struct.ensures.value at c.push_struct.ensures)

pub push_ty-returns-in-Named : goal.push_ty-returns-in-Named
push_ty-returns-in-Named t c = rw (c.in-Named.is, named_printed) (rw c.name_of.ensures at c.push_local.ensures)
