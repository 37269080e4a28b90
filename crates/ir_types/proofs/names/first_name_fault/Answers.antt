use Rattle.ir_types.proofs.NamesChecked.{names_proper, first_of_names}
use Rattle.ir_types.proofs.names.first_name_fault.Goals as goal

pub returns-clause-first : goal.returns-clause-first
returns-clause-first c =
    first_of_names c.args.p.now c.first_missing-missing.result c.in_ok-repeat.repeat c.in_ok-clash.clash c.first_of.result c.first_of-2.result c.first_of.ensures
    c.first_of-2.ensures c.first_missing-missing.ensures c.in_ok-repeat.ensures c.in_ok-clash.ensures

pub returns-clause-none : goal.returns-clause-none
returns-clause-none c =
    names_proper c.args.p.now c.requires.known c.first_of-2.result
    (first_of_names c.args.p.now c.first_missing-missing.result c.in_ok-repeat.repeat c.in_ok-clash.clash c.first_of.result c.first_of-2.result c.first_of.ensures
    c.first_of-2.ensures c.first_missing-missing.ensures c.in_ok-repeat.ensures c.in_ok-clash.ensures)
