use Rattle.std.proofs.Common.{◌≡◌, ◌+◌, ◌<◌, ◌≤◌, List, [], ◌∷◌, ◌++◌, length, take, drop, get_or, Some, ap, sym, ◌∙◌, arith}
use Rattle.std.specs.Prelude.{slice_set}
use Rattle.std.proofs.lemmas.List.{drop_all, drop_more, set-get_or, take_more}
use Rattle.rv_model.specs.State.{LoadedSegment}
use Rattle.rv_machine.proofs.Storing.{passed-all, passed-more, passed-served}
use Rattle.rv_machine.proofs.memory.store.Goals as goal

pub returns-then-overwrite : goal.returns-then-overwrite
returns-then-overwrite c =
    let gs = c.args.segments.now in
    let i = c.loop-i.i in
    let g = get_or c.loop-i.segments i c.index-segments-i.result in
    let same : c.loop-i.segments ≡ gs = c.loop-i.invariant.same in
    let lt : i < length gs = omega (arith, ap (λ (xs : List LoadedSegment). length xs) same) in
    let is : get_or gs i c.index-segments-i.result ≡ g = ap (λ (xs : List LoadedSegment). get_or xs i c.index-segments-i.result) (sym same) in
    let cut : drop i gs ≡ g ∷ drop (i + 1) gs = drop_more gs i c.index-segments-i.result lt ∙ ap (λ (h : LoadedSegment). h ∷ drop (i + 1) gs) is in
    passed-served c.args.address c.args.bytes.now gs i g lt cut (sym c.overwrite.ensures.served ∙ c.if-overwrite.true) c.loop-i.invariant.passed
    ∙ ap (λ (h : LoadedSegment). Some (slice_set gs i h)) (sym c.if-overwrite.ensures.bytes)
    ∙ ap (λ (xs : List LoadedSegment). Some (slice_set xs i c.overwrite.new.self)) (sym same)

pub loop-i-preserved : goal.loop-i-preserved
loop-i-preserved c =
    let gs = c.args.segments.now in
    let i = c.loop-i.i in
    let g = get_or c.loop-i.segments i c.index-segments-i.result in
    let same : c.loop-i.segments ≡ gs = c.loop-i.invariant.same in
    let lt : i < length gs = omega (arith, ap (λ (xs : List LoadedSegment). length xs) same) in
    let is : get_or gs i c.index-segments-i.result ≡ g = ap (λ (xs : List LoadedSegment). get_or xs i c.index-segments-i.result) (sym same) in
    let cut : drop i gs ≡ g ∷ drop (i + 1) gs = drop_more gs i c.index-segments-i.result lt ∙ ap (λ (h : LoadedSegment). h ∷ drop (i + 1) gs) is in
    let front : take (i + 1) gs ≡ take i gs ++ g ∷ [] = take_more gs i c.index-segments-i.result lt ∙ ap (λ (h : LoadedSegment). take i gs ++ h ∷ []) is in
    record {
      same = ap (λ (h : LoadedSegment). slice_set c.loop-i.segments i h) c.if-overwrite.ensures.bytes
          ∙ set-get_or c.loop-i.segments i c.index-segments-i.result ∙ same;
      passed = passed-more c.args.address c.args.bytes.now gs i g cut front (sym c.overwrite.ensures.served ∙ c.if-overwrite.false) c.loop-i.invariant.passed;
    }

pub returns : goal.returns
returns c =
    let gs = c.args.segments.now in
    let same : c.loop-i.segments ≡ gs = c.loop-i.invariant.same in
    let past : length gs ≤ c.loop-i.i = omega (arith, ap (λ (xs : List LoadedSegment). length xs) same) in
    (passed-all c.args.address c.args.bytes.now gs c.loop-i.i (drop_all c.loop-i.i gs past) c.loop-i.invariant.passed, same)
