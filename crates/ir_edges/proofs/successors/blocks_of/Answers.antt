use Rattle.std.proofs.Common.{◌≤◌, List, map, filter_map, length, ◌∙◌, ap, arith}
use Rattle.std.proofs.lemmas.List.{take_all}
use Rattle.ir_tree.specs.declared.names.NameId.{NameId}
use Rattle.ir_tree.specs.Known.{name_known}
use Rattle.ir_tree.specs.ShapeOf.{name_shape, function_shape}
use Rattle.ir_rules.specs.Values.{block_of}
use Rattle.ir_names.proofs.AllKnown.{one_of_all}
use Rattle.ir_edges.proofs.Mapped.{more_mapped}
use Rattle.ir_edges.proofs.successors.blocks_of.Goals as goal

pub loop-label-preserved : goal.loop-label-preserved
loop-label-preserved c = λ all f names known.
    more_mapped (block_of (function_shape all f)) (name_shape all) c.args.labels.now c.loop-label.label-index _ c.loop-label.to.items c.push_block.new.to.items
    (omega arith) (c.loop-label.invariant all f names known)
    (c.in_ok-push_block.ensures all f names (one_of_all (name_known (length all)) c.args.labels.now c.loop-label.label-index _ (omega arith) known))

pub returns : goal.returns
returns c = λ all f names known.
    let labels = c.args.labels.now in
    let end : length labels ≤ c.loop-label.label-index = omega arith in
    c.loop-label.invariant all f names known
    ∙ ap (λ (z : List NameId). filter_map (block_of (function_shape all f)) (map (name_shape all) z)) (take_all c.loop-label.label-index labels end)
