use Rattle.std.proofs.Common.{◌+◌, ◌∷◌, Some, ap, drop, sym, ◌∙◌}
use Rattle.std.proofs.lemmas.List.{drop_all, drop_more}
use Rattle.rv_model.specs.Memory.{bytes_at}
use Rattle.rv_machine.proofs.Served.{bytes_at-none, bytes_at-passed, bytes_at-served}
use Rattle.rv_machine.proofs.memory.bytes_at.Goals as goal

pub returns-in-Some-clause-bytes : goal.returns-in-Some-clause-bytes
returns-in-Some-clause-bytes c =
    let rest = drop (c.loop-segment.segment-index + 1) c.args.segments.now in
    c.loop-segment.invariant
    ∙ ap (bytes_at c.args.flag c.args.address c.args.count)
    (drop_more c.args.segments.now c.loop-segment.segment-index c.segment-item.result c.loop-segment-test.true
    ∙ ap (λ g. g ∷ rest) (sym c.segment-item.is))
    ∙ bytes_at-served c.args.flag c.args.address c.args.count c.segment-item.result rest (sym c.in-Some.ensures.served)
    ∙ ap Some (sym c.in-Some.ensures.bytes)

pub loop-segment-preserved : goal.loop-segment-preserved
loop-segment-preserved c =
    let rest = drop (c.loop-segment.segment-index + 1) c.args.segments.now in
    c.loop-segment.invariant
    ∙ ap (bytes_at c.args.flag c.args.address c.args.count)
    (drop_more c.args.segments.now c.loop-segment.segment-index c.segment-item.result c.loop-segment-test.true
    ∙ ap (λ g. g ∷ rest) (sym c.segment-item.is))
    ∙ bytes_at-passed c.args.flag c.args.address c.args.count c.segment-item.result rest (sym c.in_default.ensures.served)

pub returns-clause-bytes : goal.returns-clause-bytes
returns-clause-bytes c =
    c.loop-segment.invariant
    ∙ ap (bytes_at c.args.flag c.args.address c.args.count)
    (drop_all c.loop-segment.segment-index c.args.segments.now c.loop-segment-test.false)
    ∙ bytes_at-none c.args.flag c.args.address c.args.count
