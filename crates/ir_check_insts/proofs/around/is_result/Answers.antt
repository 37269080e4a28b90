use Rattle.std.proofs.Common.{sym}
use Rattle.ir_check_insts.proofs.around.is_result.Goals as goal

pub returns-in-Bit : goal.returns-in-Bit
returns-in-Bit c names distinct found known =
    let tells = c.is_bit.ensures names in
    rw c.in-Bit.is (λ yes. sym (tells.0 yes), λ e. tells.1 (sym e))

pub returns-in-Address : goal.returns-in-Address
returns-in-Address c names distinct found known =
    let tells = c.is_pointer.ensures names in
    rw c.in-Address.is (λ yes. sym (tells.0 yes), λ e. tells.1 (sym e))

pub returns-in-Nothing : goal.returns-in-Nothing
returns-in-Nothing c names distinct found known =
    let tells = c.is_void.ensures names in
    rw c.in-Nothing.is (λ yes. sym (tells.0 yes), λ e. tells.1 (sym e))
