use Rattle.std.proofs.Common.{Some, ap, refl}
use Rattle.ir_layout.specs.declared.sizes.Layout.{Layout}
use Rattle.ir_layout.proofs.Parts.{integer_laid, pointer_laid, void_laid, array_laid, structure_laid, named_laid}
use Rattle.ir_layout.proofs.types.+types.Goals as goal

pub layout_in-returns-in-Int : goal.layout_in-returns-in-Int
layout_in-returns-in-Int t c = rw (c.in-Int.is, integer_laid) (ap (λ (l : Layout). Some l) c.integer_layout.ensures)

pub layout_in-returns-in-Ptr : goal.layout_in-returns-in-Ptr
layout_in-returns-in-Ptr t c = rw (c.in-Ptr.is, pointer_laid) refl

pub layout_in-returns-in-Void : goal.layout_in-returns-in-Void
layout_in-returns-in-Void t c = rw (c.in-Void.is, void_laid) refl

pub layout_in-returns-in-Array : goal.layout_in-returns-in-Array
layout_in-returns-in-Array t c = rw (c.in-Array.is, array_laid) (rw c.deref.ensures at c.array_in.ensures)

pub layout_in-returns-in-Struct : goal.layout_in-returns-in-Struct
layout_in-returns-in-Struct t c = rw (c.in-Struct.is, structure_laid) (rw c.deref-in-Struct.ensures.value at c.structure_in.ensures)

pub layout_in-returns-in-Named : goal.layout_in-returns-in-Named
layout_in-returns-in-Named t c = rw (c.in-Named.is, named_laid) c.named_layout.ensures
