use Rattle.std.proofs.Common.{◌≡◌, ℕ, length, subst, arith}
use Rattle.ir_repeats.proofs.Clashing.{HasFound, found_first}
use Rattle.ir_repeats.proofs.clashes.first_clash.Goals as goal

pub returns : goal.returns
returns c =
    let done : c.loop-at.at ≡ length c.args.entries.now = omega (arith, c.loop-at-test.false, c.loop-at.auto.at-end) in
    found_first c.args.m.now c.args.entries.now c.args.firsts.now c.loop-at.found
    (subst (λ (n : ℕ). HasFound c.args.m.now c.args.entries.now c.args.firsts.now n c.loop-at.found) done c.loop-at.invariant)
