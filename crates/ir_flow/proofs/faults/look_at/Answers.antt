use Rattle.std.proofs.Common.{◌≡◌, length, get_or, refl, ◌∙◌, ap, arith}
use Rattle.std.proofs.lemmas.Option.{slice_get_read, slice_get_within, get_or_from_slice_get}
use Rattle.ir_tree.specs.ShapeOf.{function_shape, inst_shape}
use Rattle.ir_tree.specs.declared.module.Block.{Block}
use Rattle.ir_proper.specs.FlowRules.{HasProperFlow}
use Rattle.ir_flow.specs.Around.{names_of}
use Rattle.ir_flow.specs.Looks.{IsFoundBy}
use Rattle.ir_flow.proofs.OneByOne.{not_true}
use Rattle.ir_flow.proofs.Rows.{rows_long, row_long, spot_read}
use Rattle.ir_flow.proofs.AtPlace.{IsInst, inst_is_known, proper_at, fault_at}
use Rattle.ir_flow.proofs.Looked.{looked_past, looked_proper, looked_fault}
use Rattle.ir_flow.proofs.faults.look_at.Goals as goal

pub index-requires-2 : goal.index-requires-2
index-requires-2 c =
    let f = c.args.around.now.function.now in
    let long = rows_long c.args.p.now c.args.at.function f c.index.result.now c.requires.here.function c.index.ensures in
    let within = slice_get_within f.blocks.items c.args.at.block c.requires.there.0 c.requires.there.1 in
    omega (arith, long, within)

pub index-spot-requires : goal.index-spot-requires
index-spot-requires c =
    let f = c.args.around.now.function.now in
    let long = row_long c.args.p.now c.args.at.function c.args.at.block f c.requires.there.0 c.index.result.now c.index-2.result.now c.requires.here.function
    c.requires.there.1 c.index.ensures c.index-2.ensures in
    omega (arith, long, c.requires.there.2)

pub returns-then-is_found_by : goal.returns-then-is_found_by
returns-then-is_found_by c =
    let p = c.args.p.now in
    let at = c.args.at in
    let spot = c.index-spot.result.now in
    let spotted = spot_read p at.function at.block at.index spot c.args.around.now.function.now c.requires.there.0 c.index.result.now c.index-2.result.now
    c.requires.here.function c.requires.there.1 c.requires.there.2 c.index.ensures c.index-2.ensures c.index-spot.ensures in
    looked_past p at.function at.block at.index spot c.args.found spotted (c.is_found_by.ensures.0 c.if-is_found_by.true) c.requires.looked

pub index-requires-3 : goal.index-requires-3
index-requires-3 c =
    let within = slice_get_within c.args.around.now.function.now.blocks.items c.args.at.block c.requires.there.0 c.requires.there.1 in
    omega (arith, within)

pub index-inst-requires : goal.index-inst-requires
index-inst-requires c =
    let x = c.requires.there.0 in
    let blocks = c.args.around.now.function.now.blocks.items in
    let same : c.index-3.result.now ≡ x = c.index-3.ensures ∙ get_or_from_slice_get blocks c.args.at.block x c.index-3.result.now c.requires.there.1 in
    let long : length c.index-3.result.now.insts.items ≡ length x.insts.items = ap (λ (y : Block). length y.insts.items) same in
    omega (arith, long, c.requires.there.2)

pub has_proper_flow-requires-clause-known : goal.has_proper_flow-requires-clause-known
has_proper_flow-requires-clause-known c =
    let x = c.requires.there.0 in
    let f = c.args.around.now.function.now in
    let same : c.index-3.result.now ≡ x =
    c.index-3.ensures ∙ get_or_from_slice_get f.blocks.items c.args.at.block x c.index-3.result.now c.requires.there.1 in
    let long : length c.index-3.result.now.insts.items ≡ length x.insts.items = ap (λ (y : Block). length y.insts.items) same in
    inst_is_known (length (names_of c.args.around.now)) f c.args.at.block c.args.at.index c.index-3.result.now c.index-inst.result.now c.requires.around.known
    (slice_get_within f.blocks.items c.args.at.block x c.requires.there.1) c.index-3.ensures (omega (arith, long, c.requires.there.2)) c.index-inst.ensures

pub has_proper_flow-requires-clause-block : goal.has_proper_flow-requires-clause-block
has_proper_flow-requires-clause-block c =
    slice_get_within c.args.around.now.function.now.blocks.items c.args.at.block c.requires.there.0 c.requires.there.1

pub returns-then-is_proper : goal.returns-then-is_proper
returns-then-is_proper c =
    let p = c.args.p.now in
    let at = c.args.at in
    let m = c.args.around.now.«module».now in
    let f = c.args.around.now.function.now in
    let x = c.requires.there.0 in
    let y = c.index-inst.result.now in
    let same : c.index-3.result.now ≡ x = c.index-3.ensures ∙ get_or_from_slice_get f.blocks.items at.block x c.index-3.result.now c.requires.there.1 in
    let is : IsInst p at.function at.block at.index m f x y = record {
      within = c.requires.here.within;
      there = c.requires.here.function;
      has_block = c.requires.there.1;
      has_inst =
          slice_get_read x.insts.items (length x.insts.items) at.index y refl c.requires.there.2
          (c.index-inst.ensures ∙ ap (λ (z : Block). get_or z.insts.items at.index y) same);
    } in
    looked_proper p at.function at.block at.index c.args.found
    (proper_at p at.function at.block at.index m f x y is (c.in_ok-is_proper.ensures.0 c.if-is_proper.true)) c.requires.looked

pub returns-else-is_proper : goal.returns-else-is_proper
returns-else-is_proper c =
    let p = c.args.p.now in
    let at = c.args.at in
    let m = c.args.around.now.«module».now in
    let f = c.args.around.now.function.now in
    let x = c.requires.there.0 in
    let y = c.index-inst.result.now in
    let spot = c.index-spot.result.now in
    let same : c.index-3.result.now ≡ x = c.index-3.ensures ∙ get_or_from_slice_get f.blocks.items at.block x c.index-3.result.now c.requires.there.1 in
    let is : IsInst p at.function at.block at.index m f x y = record {
      within = c.requires.here.within;
      there = c.requires.here.function;
      has_block = c.requires.there.1;
      has_inst =
          slice_get_read x.insts.items (length x.insts.items) at.index y refl c.requires.there.2
          (c.index-inst.ensures ∙ ap (λ (z : Block). get_or z.insts.items at.index y) same);
    } in
    let spotted = spot_read p at.function at.block at.index spot f x c.index.result.now c.index-2.result.now c.requires.here.function c.requires.there.1
    c.requires.there.2 c.index.ensures c.index-2.ensures c.index-spot.ensures in
    looked_fault p at.function at.block at.index spot c.args.found
    (not_true (IsFoundBy c.args.found spot) c.is_found_by.result c.if-is_found_by.false c.is_found_by.ensures) spotted
    (fault_at p at.function at.block at.index spot m f x y is spotted
    (not_true (HasProperFlow (function_shape m.names f) at.block at.index (inst_shape m.names y)) c.in_ok-is_proper.is_proper c.if-is_proper.false
    c.in_ok-is_proper.ensures)) c.requires.looked
