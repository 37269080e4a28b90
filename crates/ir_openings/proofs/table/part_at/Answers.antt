use Rattle.std.proofs.Common.{◌≡◌, ℕ, pos, List, Some, None, slice_get, subst}
use Rattle.std.proofs.lemmas.Option.{IfSome_then}
use Rattle.ir_tree.specs.declared.types.Ty.{Ty}
use Rattle.ir_openings.proofs.Parts.{none_then, IsField, array_steps, structure_steps, field_known, no_structure_steps}
use Rattle.ir_openings.proofs.table.part_at.Goals as goal

pub returns-in-Array-clause-steps : goal.returns-in-Array-clause-steps
returns-in-Array-clause-steps c names = array_steps names c.args.number c.args.ty.now c.deref.result.now c.in-Array.field-0 c.in-Array.element c.in-Array.is c.deref.ensures

pub returns-in-Struct-clause-steps : goal.returns-in-Struct-clause-steps
returns-in-Struct-clause-steps c names =
    IfSome_then c.field_at.result c.field_at.ensures.found
    (λ u is. structure_steps names c.args.number c.args.ty.now u.now c.in-Struct.fields c.in-Struct.field-1 c.in-Struct.is
    (subst (λ (z : List Ty). IsField z c.args.number u.now) c.deref-in-Struct.ensures.value is))

pub returns-in-Struct-clause-known : goal.returns-in-Struct-clause-known
returns-in-Struct-clause-known c n known =
    IfSome_then c.field_at.result c.field_at.ensures.found
    (λ u is. field_known n c.args.number c.args.ty.now u.now c.in-Struct.fields c.in-Struct.field-1 c.in-Struct.is known
    (subst (λ (z : List Ty). IsField z c.args.number u.now) c.deref-in-Struct.ensures.value is))

pub returns-in-Struct-clause-none : goal.returns-in-Struct-clause-none
returns-in-Struct-clause-none c names =
    none_then c.field_at.result c.field_at.ensures.none
    (λ none. no_structure_steps names c.args.number c.args.ty.now c.in-Struct.fields c.in-Struct.field-1 c.in-Struct.is
    (subst (λ (z : List Ty). (k : ℕ) → c.args.number ≡ Some (pos k) → slice_get z k ≡ None) c.deref-in-Struct.ensures.value none))
