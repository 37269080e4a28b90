use Rattle.ir_same.proofs.Numbers.{local_told}
use Rattle.ir_same.proofs.constants.same_val.Goals as goal

pub returns-in-Local-Local : goal.returns-in-Local-Local
returns-in-Local-Local c names distinct known also =
    let s = c.in-Local-Local in
    rw (s.is-0, s.is-1)
    (local_told names distinct c.eq.result s.id.0 s.other.0 c.eq.ensures (rw s.is-0 at known) (rw s.is-1 at also))
