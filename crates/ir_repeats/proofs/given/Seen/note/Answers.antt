use Rattle.std.proofs.Common.{◌≡◌, Bool, true, false, Some, not, refl, sym, ◌∙◌, ap}
use Rattle.ir_repeats.proofs.GivenSeen.{seen_new, seen_again}
use Rattle.ir_repeats.proofs.given.Seen.note.Goals as goal

true_if_not : (b : Bool) → not b ≡ false → b ≡ true
true_if_not true e = cc
true_if_not false e = cc

false_if_not : (b : Bool) → not b ≡ true → b ≡ false
false_if_not true e = cc
false_if_not false e = cc

pub returns-then-not-branch : goal.returns-then-not-branch
returns-then-not-branch c =
    λ before seen.
    seen_again before (record { number = c.args.name.0; spot = c.args.spot }) c.args.self.now
    (record { names = c.insert.new.self; repeat = Some c.least_of.result }) c.in_ok-insert.ensures.updates.0
    (true_if_not _ (sym c.in_ok-insert.ensures.added ∙ c.if-not-branch.true)) (ap Some c.least_of.ensures) seen

pub returns-else-not-branch : goal.returns-else-not-branch
returns-else-not-branch c =
    λ before seen.
    seen_new before (record { number = c.args.name.0; spot = c.args.spot }) c.args.self.now
    (record { names = c.insert.new.self; repeat = c.args.self.now.repeat }) c.in_ok-insert.ensures.updates.0
    (false_if_not _ (sym c.in_ok-insert.ensures.added ∙ c.if-not-branch.false)) refl seen
