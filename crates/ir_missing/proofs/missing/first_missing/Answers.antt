use Rattle.ir_missing.proofs.AllPlaces.{first_of_all}
use Rattle.ir_missing.proofs.missing.first_missing.Goals as goal

pub returns : goal.returns
returns c =
    rw (c.earlier.ensures, c.earlier-first-3.ensures, c.earlier-first-2.ensures, c.earlier-first.ensures)
    (first_of_all c.args.p.now _ _ _ _ _ c.first_missing_type-first.ensures c.first_missing_global.ensures c.first_missing_declare.ensures
    c.first_missing_function.ensures c.first_missing_inst.ensures)
