use Rattle.std.proofs.Common.{ℕ, List, length, take, Vec, arith, refl, sym, ◌∙◌, ap, subst}
use Rattle.std.specs.declared.alloc.Global.{Global}
use Rattle.std.proofs.lemmas.List.{take_all}
use Rattle.std.proofs.lemmas.Option.{slice_get_read}
use Rattle.ir_tree.specs.declared.module.Inst.{Inst}
use Rattle.ir_tree.specs.declared.module.Block.{Block}
use Rattle.ir_repeats.specs.Given.{ids_of_insts, ids_of_blocks, Notes}
use Rattle.ir_repeats.proofs.GivenPlaces.{mapped_at, as_many}
use Rattle.ir_repeats.proofs.GivenSeen.{blocks_note}
use Rattle.ir_repeats.proofs.given.Seen.note_blocks.Goals as goal

pub note_insts-requires : goal.note_insts-requires
note_insts-requires c =
    let many = as_many _ _ c.args.spots.now c.args.blocks.now c.requires.spotted in
    let here = slice_get_read c.args.blocks.now (length c.args.blocks.now) c.loop-at.at c.index-blocks-at.result refl (omega arith) c.index-blocks-at.is in
    let spots = slice_get_read c.args.spots.now (length c.args.spots.now) c.loop-at.at c.index-spots-at.result refl (omega (arith, many)) c.index-spots-at.is in
    record {
      spotted =
          ap length c.deref-in-loop-at.ensures.value
          ∙ mapped_at (λ (s : Vec ℕ Global). length s.items) (λ (b : Block). length b.insts.items) c.args.spots.now c.args.blocks.now c.requires.spotted
          c.loop-at.at c.index-spots-at.result c.index-blocks-at.result spots here
          ∙ sym (ap length c.deref.ensures.value);
    }

pub loop-at-preserved : goal.loop-at-preserved
loop-at-preserved c =
    let many = as_many _ _ c.args.spots.now c.args.blocks.now c.requires.spotted in
    let here = slice_get_read c.args.blocks.now (length c.args.blocks.now) c.loop-at.at c.index-blocks-at.result refl (omega arith) c.index-blocks-at.is in
    let spots = slice_get_read c.args.spots.now (length c.args.spots.now) c.loop-at.at c.index-spots-at.result refl (omega (arith, many)) c.index-spots-at.is in
    let insts = subst (λ (ss : List ℕ). Notes c.note.new.self (ids_of_insts c.index-blocks-at.result.insts.items ss) c.note_insts.new.self)
    c.deref-in-loop-at.ensures.value
    (subst (λ (xs : List Inst). Notes c.note.new.self (ids_of_insts xs c.deref-in-loop-at.result.now) c.note_insts.new.self) c.deref.ensures.value
    c.in_ok-note_insts.ensures) in
    blocks_note c.args.spot c.args.blocks.now c.args.spots.now c.loop-at.at c.index-blocks-at.result c.index-spots-at.result c.args.self.now c.loop-at.self
    c.note.new.self c.note_insts.new.self here spots c.loop-at.invariant c.in_ok-note.ensures insts

pub returns : goal.returns
returns c =
    let many = as_many _ _ c.args.spots.now c.args.blocks.now c.requires.spotted in
    subst (λ (ss : List (Vec ℕ Global)). Notes c.args.self.now (ids_of_blocks c.args.spot c.args.blocks.now ss) c.loop-at.self)
    (take_all c.loop-at.at c.args.spots.now (omega (arith, many)))
    (subst (λ (xs : List Block). Notes c.args.self.now (ids_of_blocks c.args.spot xs (take c.loop-at.at c.args.spots.now)) c.loop-at.self)
    (take_all c.loop-at.at c.args.blocks.now (omega arith)) c.loop-at.invariant)
