-- the brackets that are open, and the end from here on
use Rattle.std.proofs.Common.{◌≡◌, ◌+◌, ◌≤◌}
use Rattle.ir_const.specs.Answers.{symbols_from}
use Rattle.ir_const.specs.Reach.{reach}
use Rattle.ir_const.proofs.reach.reach_of.Given as goal

abbrev pub invariant-loop-at : goal.invariant-loop-at
invariant-loop-at l =
    (l.from + (reach 0 (symbols_from l.text l.toks l.from)).0 ≡ l.at + (reach l.depth (symbols_from l.text l.toks l.at)).0)
    × ((reach 0 (symbols_from l.text l.toks l.from)).1 ≡ (reach l.depth (symbols_from l.text l.toks l.at)).1) × (l.depth ≤ 64)
