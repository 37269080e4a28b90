use Rattle.std.proofs.Common.{◌≡◌, ◌≤◌, ◌+◌, List, arith, length, map, drop, sym, ap, subst, ◌∙◌}
use Rattle.ir_tree.specs.Known.{block_known}
use Rattle.ir_tree.specs.ShapeOf.{inst_shape, block_shape as source_shape}
use Rattle.ir_tree.specs.declared.module.Block.{Block}
use Rattle.ir_tree.proofs.Grows.{and_right}
use Rattle.ir_rules.specs.Values.{values}
use Rattle.program_tables.specs.Shapes.{block_shape}
use Rattle.program_actions.specs.Around.{around_of, names_around}
use Rattle.program_actions.proofs.Parts.{one_of}
use Rattle.program_insts.specs.Numbers.{IsBlockTyped, after, after_all, blocks_by}
use Rattle.program_insts.proofs.Counted.{params_counted, after_all_grows, counted_values, counted_blocks}
use Rattle.program_insts.proofs.SoFar.{item_of, rest_at, rest_none, mapped_one, all_ended}
use Rattle.program_insts.proofs.blocks.blocks_of.Goals as goal

pub block_of-requires-clause-names : goal.block_of-requires-clause-names
block_of-requires-clause-names c =
    let at = item_of c.args.around.now.function.now.blocks.items c.deref-source-items.result.now c.loop-source.source-index c.source-item.result c.deref-source-items.ensures.value c.loop-source-test.true c.source-item.is in
    let a = c.args.around.now in
    one_of (block_known (length (names_around a))) a.function.now.blocks.items c.loop-source.source-index c.source-item.result (and_right _ _ c.requires.known)
    at.0 at.1

pub block_of-requires-clause-proper : goal.block_of-requires-clause-proper
block_of-requires-clause-proper c =
    let at = item_of c.args.around.now.function.now.blocks.items c.deref-source-items.result.now c.loop-source.source-index c.source-item.result c.deref-source-items.ensures.value c.loop-source-test.true c.source-item.is in
    let a = c.args.around.now in
    mapped_one (source_shape (names_around a)) (IsBlockTyped (around_of a)) a.function.now.blocks.items c.loop-source.source-index c.source-item.result
    c.requires.typed at.0 at.1

pub block_of-requires-clause-room : goal.block_of-requires-clause-room
block_of-requires-clause-room c =
    let at = item_of c.args.around.now.function.now.blocks.items c.deref-source-items.result.now c.loop-source.source-index c.source-item.result c.deref-source-items.ensures.value c.loop-source-test.true c.source-item.is in
    let a = c.args.around.now in
    let blocks = a.function.now.blocks.items in
    let k = c.loop-source.source-index in
    let n = after c.loop-source.next (map (inst_shape (names_around a)) c.source-item.result.insts.items) in
    let left = map (source_shape (names_around a)) (drop (k + 1) blocks) in
    let cut = rest_at (source_shape (names_around a)) blocks k c.source-item.result at.0 at.1 in
    let here : after_all n left ≡ length (values (around_of a).function) =
    ap (after_all c.loop-source.next) (sym cut) ∙ c.loop-source.invariant.after ∙ ap (λ n. after_all n (around_of a).function.blocks) (sym (params_counted a))
    ∙ counted_values (around_of a) in
    omega (arith, here, after_all_grows n left, c.len-count.ensures (names_around a) a.function.now c.requires.names, c.len-count.type_inv)

pub returns : goal.returns
returns c =
    let a = c.args.around.now in
    let names = names_around a in
    let blocks = a.function.now.blocks.items in
    let past = subst (λ (z : List Block). length z ≤ c.loop-source.source-index) c.deref-source-items.ensures.value c.loop-source-test.false in
    let none = rest_none (source_shape names) blocks c.loop-source.source-index past in
    all_ended (around_of a) (length a.function.now.params.items) (map (source_shape names) blocks) (map (source_shape names) (drop c.loop-source.source-index blocks)) c.loop-source.next
    (map block_shape c.loop-source.blocks.items) c.loop-source.invariant none
    ∙ ap (λ n. blocks_by (around_of a) n (around_of a).function.blocks) (sym (params_counted a))
    ∙ counted_blocks (around_of a)
