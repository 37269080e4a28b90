use Rattle.std.proofs.Common.{◌+◌, ◌<◌, ◌≤◌, List, [], ◌∷◌, length, get_or, drop, sym, ◌∙◌, ap, subst}
use Rattle.ir_tree.specs.ShapeOf.{function_shape, module_shape}
use Rattle.ir_tree.specs.declared.module.Function.{Function}
use Rattle.ir_proper.specs.declared.Which.TheVariants.{Frame}
use Rattle.ir_proper.specs.Limits.{most_of}
use Rattle.ir_limits.specs.Passing.{first_above}
use Rattle.ir_limits.proofs.Above.{above_early, above_later, none_left}
use Rattle.ir_limits.proofs.Members.{function_frame_at}
use Rattle.ir_limits.proofs.OneCount.{frame_at, no_frame_left}
use Rattle.ir_limits.proofs.passing.first_frame.Goals as goal

pub frame_in-requires-clause-sized : goal.frame_in-requires-clause-sized
frame_in-requires-clause-sized c =
    let at = c.loop-f.f-index in
    let same = c.deref-f-items.ensures.value in
    let within = subst (λ (fs : List Function). at < length fs) same c.loop-f-test.true in
    let item = c.f-item.is ∙ ap (λ (fs : List Function). get_or fs at c.f-item.result) same in
    function_frame_at c.args.m.now at c.f-item.result c.requires.types within item

pub returns-in-Some : goal.returns-in-Some
returns-in-Some c counts have =
    let m = c.args.m.now in
    let at = c.loop-f.f-index in
    let same = c.deref-f-items.ensures.value in
    let within = subst (λ (fs : List Function). at < length fs) same c.loop-f-test.true in
    let item = c.f-item.is ∙ ap (λ (fs : List Function). get_or fs at c.f-item.result) same in
    let here = frame_at (module_shape m).types (function_shape m.names) m.functions.items counts at c.f-item.result c.frame_in.result have within item
    c.frame_in.ensures in
    sym
    (c.loop-f.invariant counts have ∙ ap (first_above (most_of Frame)) here
    ∙ above_early (most_of Frame) c.in-Some.found (c.frame_in.result ∷ []) (drop (at + 1) counts) (sym c.in-Some.ensures))

pub loop-f-preserved : goal.loop-f-preserved
loop-f-preserved c counts have =
    let m = c.args.m.now in
    let at = c.loop-f.f-index in
    let same = c.deref-f-items.ensures.value in
    let within = subst (λ (fs : List Function). at < length fs) same c.loop-f-test.true in
    let item = c.f-item.is ∙ ap (λ (fs : List Function). get_or fs at c.f-item.result) same in
    let here = frame_at (module_shape m).types (function_shape m.names) m.functions.items counts at c.f-item.result c.frame_in.result have within item
    c.frame_in.ensures in
    c.loop-f.invariant counts have ∙ ap (first_above (most_of Frame)) here
    ∙ above_later (most_of Frame) (c.frame_in.result ∷ []) (drop (at + 1) counts) (sym c.above.ensures ∙ none_left c.above.result c.in_default.not-Some)

pub returns : goal.returns
returns c counts have =
    let m = c.args.m.now in
    let past = subst (λ (fs : List Function). length fs ≤ c.loop-f.f-index) c.deref-f-items.ensures.value c.loop-f-test.false in
    sym
    (c.loop-f.invariant counts have
    ∙ ap (first_above (most_of Frame)) (no_frame_left (module_shape m).types (function_shape m.names) m.functions.items counts c.loop-f.f-index have past))
