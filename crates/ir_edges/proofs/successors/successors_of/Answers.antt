use Rattle.std.proofs.Common.{◌≡◌, ℕ, ◌<◌, List, Vec, Global, map, filter_map, length, get_or, true, ◌∙◌, ap, subst, arith}
use Rattle.std.specs.List.{list_all}
use Rattle.ir_tree.specs.Known.{name_known}
use Rattle.ir_tree.specs.ShapeOf.{name_shape, block_shape, function_shape}
use Rattle.ir_tree.specs.Shape.{BlockShape}
use Rattle.ir_tree.specs.declared.module.Block.{Block}
use Rattle.ir_tree.specs.declared.names.NameId.{NameId}
use Rattle.ir_rules.specs.Values.{block_of}
use Rattle.ir_proper.specs.Edges.{all_targets, last_inst}
use Rattle.ir_edges.proofs.Mapped.{more_rows, block_at_known}
use Rattle.ir_edges.proofs.successors.successors_of.Goals as goal

pub loop-block-preserved : goal.loop-block-preserved
loop-block-preserved c = λ all names known.
    let f = c.args.f.now in
    let i = c.loop-block.block-index in
    let block = c.block-item.result in
    let labels = c.deref.result.now in
    let g = λ (texts : List (List ℕ)). filter_map (block_of (function_shape all f)) texts in
    let same = c.deref-block-items.ensures.value in
    let within : i < length f.blocks.items = subst (λ (z : List Block). i < length z) same (omega arith) in
    let read : block ≡ get_or f.blocks.items i block = c.block-item.is ∙ ap (λ (z : List Block). get_or z i block) same in
    let read_labels = c.deref.ensures.value in
    let labels_known : list_all (name_known (length all)) labels ≡ true =
    ap (λ (z : List NameId). list_all (name_known (length all)) z) read_labels
    ∙ c.in_ok-labels.ensures.known (length all) (block_at_known (length all) f i block within read known) in
    let shaped = ap (λ (z : List NameId). map (name_shape all) z) read_labels ∙ c.in_ok-labels.ensures.shape all in
    let row = c.in_ok-blocks_of.ensures all f names labels_known ∙ ap g shaped in
    more_rows (λ (row : Vec ℕ Global). row.items) (λ (b : BlockShape). g (all_targets (last_inst b))) (block_shape all) f.blocks.items i block
    c.loop-block.rows.items c.push.new.self.items c.in_ok-blocks_of.field-0 within (c.loop-block.invariant all names known) c.in_ok-push.ensures.items
    (row ∙ ap (λ (b : Block). g (all_targets (last_inst (block_shape all b)))) read)
