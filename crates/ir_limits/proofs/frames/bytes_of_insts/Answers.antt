use Rattle.std.proofs.Common.{◌+◌, min, length, ◌∙◌, ap}
use Rattle.ir_tree.specs.Known.{inst_known, result_known, body_known}
use Rattle.ir_tree.specs.ShapeOf.{inst_shape, body_shape, module_shape}
use Rattle.ir_tree.proofs.Grows.{and_right}
use Rattle.ir_proper.specs.Limits.{TakesRoom}
use Rattle.ir_limits.specs.Shares.{own_bytes, TakesBytes}
use Rattle.ir_limits.proofs.Members.{one_known}
use Rattle.ir_limits.proofs.Relations.{each_has, sum_more, told_more}
use Rattle.ir_limits.proofs.frames.bytes_of_insts.Goals as goal

pub room_of-requires-clause-names : goal.room_of-requires-clause-names
room_of-requires-clause-names c =
    let n = length c.args.m.now.names in
    and_right (result_known n c.inst-item.result.result) (body_known n c.inst-item.result.body)
    (one_known (inst_known n) c.args.insts.now c.loop-inst.inst-index c.inst-item.result c.loop-inst-test.true c.inst-item.is c.requires.names)

pub room_of-requires-clause-sized : goal.room_of-requires-clause-sized
room_of-requires-clause-sized c =
    let has = each_has (TakesBytes (module_shape c.args.m.now).types) (inst_shape c.args.m.now.names) c.args.insts.now c.loop-inst.inst-index c.inst-item.result
    c.loop-inst-test.true c.inst-item.is c.requires.sized in (has.1.0, has.1.1)

pub loop-inst-preserved : goal.loop-inst-preserved
loop-inst-preserved c =
    let ts = (module_shape c.args.m.now).types in
    let names = c.args.m.now.names in
    let x = c.inst-item.result in
    let bytes = told_more (TakesRoom ts (body_shape names x.body)) c.room_of.result (own_bytes (inst_shape names x)) c.saturating_add-bytes.result
    c.room_of.ensures
    (c.saturating_add-bytes.ensures ∙ ap (λ n. min (c.room_of.result + n) 18446744073709551615) (c.own_bytes.ensures names)) in
    sum_more (TakesBytes ts) (inst_shape names) c.args.insts.now c.loop-inst.inst-index x c.loop-inst.total c.saturating_add-bytes.result
    c.saturating_add-total.result
    c.loop-inst-test.true c.inst-item.is c.loop-inst.invariant bytes c.saturating_add-total.ensures
