use Rattle.std.proofs.Common.{length}
use Rattle.rv_machine.proofs.LittleNumbers.{little_from-below}
use Rattle.rv_machine.proofs.values.number.Goals as goal

pub returns-clause-bound : goal.returns-clause-bound
returns-clause-bound c =
    rw c.read_uint.ensures (little_from-below 0 (length c.args.bytes.now) c.args.bytes.now (λ k. let fits = c.type_inv.bytes k in fits.fits))
