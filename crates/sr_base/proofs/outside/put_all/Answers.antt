use Rattle.std.proofs.Common.{◌≡◌, ◌-◌, length, take, drop, arith, refl, ap}
use Rattle.std.proofs.lemmas.Grind.{common_steps}
use Rattle.sr_base.proofs.Taken.{Takes-take}
use Rattle.sr_base.proofs.outside.put_all.Goals as goal

pub loop-done-preserved : goal.loop-done-preserved
loop-done-preserved g c =
    let rest : take (length c.args.bytes.now - c.loop-done.done) (drop c.loop-done.done c.args.bytes.now) ≡ drop c.loop-done.done c.args.bytes.now = grind (arith, common_steps) in
    record {
      within = grind (arith, common_steps);
      took = Takes-take _ _ _ _ _ _ c.loop-done.invariant.took (rw rest at c.in_ok-done.ensures.taken);
      untouched = grind (arith, common_steps);
      faults_later = omega arith;
      wants_later = omega arith;
    }

pub returns-clause-empty : goal.returns-clause-empty
returns-clause-empty g c = λ none. let short : length c.args.bytes.now ≡ 0 = ap length none in (refl, c.loop-done.invariant.untouched (omega arith))
