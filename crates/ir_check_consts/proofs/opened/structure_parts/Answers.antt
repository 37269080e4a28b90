use Rattle.std.proofs.Common.{◌≡◌, true, List, subst, sym}
use Rattle.std.specs.List.{list_all}
use Rattle.ir_tree.specs.Known.{ty_known}
use Rattle.ir_tree.specs.declared.types.Ty.{Ty}
use Rattle.ir_openings.proofs.Parts.{fields_known}
use Rattle.ir_check_consts.proofs.opened.structure_parts.Goals as goal

pub returns-in-Struct-clause-known : goal.returns-in-Struct-clause-known
returns-in-Struct-clause-known c n known =
    subst (λ (z : List Ty). list_all (ty_known n) z ≡ true) (sym c.deref.ensures.value)
    (fields_known n c.args.ty.now c.in-Struct.fields c.in-Struct.packed c.in-Struct.is known)
