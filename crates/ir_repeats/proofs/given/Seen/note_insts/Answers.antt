use Rattle.std.proofs.Common.{ℕ, List, get_or, take, arith, subst}
use Rattle.std.proofs.lemmas.List.{take_all}
use Rattle.std.proofs.lemmas.Option.{slice_get-get_or}
use Rattle.ir_tree.specs.declared.module.Inst.{Inst}
use Rattle.ir_repeats.specs.Given.{ids_of_insts, Notes}
use Rattle.ir_repeats.proofs.GivenSeen.{insts_note}
use Rattle.ir_repeats.proofs.given.Seen.note_insts.Goals as goal

pub loop-at-preserved : goal.loop-at-preserved
loop-at-preserved c =
    let inst = get_or c.args.insts.now c.loop-at.at c.index-insts-at.result in
    let here = slice_get-get_or c.args.insts.now c.loop-at.at c.index-insts-at.result (omega arith) in
    let spot = slice_get-get_or c.args.spots.now c.loop-at.at 0 (omega arith) in
    insts_note c.args.insts.now c.args.spots.now c.loop-at.at inst (get_or c.args.spots.now c.loop-at.at 0) c.args.self.now c.loop-at.self
    c.note_if_named.new.self here spot c.loop-at.invariant c.in_ok-note_if_named.ensures

pub returns : goal.returns
returns c =
    subst (λ (ss : List ℕ). Notes c.args.self.now (ids_of_insts c.args.insts.now ss) c.loop-at.self) (take_all c.loop-at.at c.args.spots.now (omega arith))
    (subst (λ (xs : List Inst). Notes c.args.self.now (ids_of_insts xs (take c.loop-at.at c.args.spots.now)) c.loop-at.self)
    (take_all c.loop-at.at c.args.insts.now (omega arith)) c.loop-at.invariant)
