use Rattle.ir_types.proofs.Checked.{looked_anywhere, first_fault, none_proper}
use Rattle.ir_types.proofs.types.first_type_fault.Goals as goal

pub returns-clause-first : goal.returns-clause-first
returns-clause-first c =
    let p = c.args.p.now in
    first_fault p c.first_of-2.result
    (looked_anywhere p c.first_of_types.result c.first_of_globals.result c.first_of_declares.result c.first_of_heads.result
    c.in_ok-of_instructions.of_instructions c.first_of-of_contents.result c.first_of-of_heads.result c.first_of.result c.first_of-2.result
    c.first_of-of_contents.ensures c.first_of-of_heads.ensures c.first_of.ensures c.first_of-2.ensures c.first_of_types.ensures c.first_of_globals.ensures
    c.first_of_declares.ensures c.first_of_heads.ensures c.in_ok-of_instructions.ensures)

pub returns-clause-none : goal.returns-clause-none
returns-clause-none c =
    let p = c.args.p.now in
    none_proper p c.first_of-2.result
    (looked_anywhere p c.first_of_types.result c.first_of_globals.result c.first_of_declares.result c.first_of_heads.result
    c.in_ok-of_instructions.of_instructions c.first_of-of_contents.result c.first_of-of_heads.result c.first_of.result c.first_of-2.result
    c.first_of-of_contents.ensures c.first_of-of_heads.ensures c.first_of.ensures c.first_of-2.ensures c.first_of_types.ensures c.first_of_globals.ensures
    c.first_of_declares.ensures c.first_of_heads.ensures c.in_ok-of_instructions.ensures)
