use Rattle.std.proofs.Common.{arith, subst}
use Rattle.std.specs.Prelude.{◌↔◌, IsTrue}
use Rattle.ir_tree.specs.ShapeOf.{module_shape, function_shape, inst_shape}
use Rattle.ir_tree.specs.declared.module.Module.{Module}
use Rattle.ir_rules.specs.TypeRules.{IsProperInst}
use Rattle.ir_types.proofs.Looking.{below_none}
use Rattle.ir_types.proofs.EachItem.{item_more, items_all}
use Rattle.ir_types.proofs.EachInst.{rows_read, as_many_rows, block_read, are_insts, inst_is_known}
use Rattle.ir_types.proofs.instructions.first_of_block.Goals as goal

pub index-spots-requires : goal.index-spots-requires
index-spots-requires c =
    let rows = rows_read c.args.p.now c.args.function c.args.around.now.function.now c.index-2.result.now c.requires.here.function c.index-2.ensures in
    let many = as_many_rows c.args.p.now c.args.function c.args.around.now.function.now c.index-2.result.now rows in
    omega arith

pub loop-at-init : goal.loop-at-init
loop-at-init c = below_none c.args.p.now _

pub is_proper-requires-clause-known : goal.is_proper-requires-clause-known
is_proper-requires-clause-known c =
    inst_is_known _ c.args.around.now.function.now c.args.block c.loop-at.at c.index.result.now c.index-in-loop-at.result.now
    c.requires.around.function_names c.requires.within c.index.ensures (omega arith) c.index-in-loop-at.ensures

pub index-requires-in-loop-at-2 : goal.index-requires-in-loop-at-2
index-requires-in-loop-at-2 c =
    let p = c.args.p.now in
    let f = c.args.around.now.function.now in
    let rows = rows_read p c.args.function f c.index-2.result.now c.requires.here.function c.index-2.ensures in
    let block = block_read p c.args.function c.args.block f c.index.result.now c.index-2.result.now c.index-spots.result.now c.requires.here.function
    c.requires.within c.index.ensures rows c.index-spots.ensures in
    let long = block.long in
    omega arith

pub loop-at-preserved : goal.loop-at-preserved
loop-at-preserved c =
    let p = c.args.p.now in
    let f = c.args.around.now.function.now in
    let inst = c.index-in-loop-at.result.now in
    let rows = rows_read p c.args.function f c.index-2.result.now c.requires.here.function c.index-2.ensures in
    let block = block_read p c.args.function c.args.block f c.index.result.now c.index-2.result.now c.index-spots.result.now c.requires.here.function
    c.requires.within c.index.ensures rows c.index-spots.ensures in
    let test = c.in_ok-is_proper.is_proper in
    let tells = subst (λ (m : Module). IsTrue test ↔ IsProperInst (record { within = module_shape m; function = function_shape m.names f }) c.args.block
    (inst_shape m.names inst)) c.requires.here.within c.in_ok-is_proper.ensures in
    item_more p _ _ _ _ _ (are_insts p c.args.function c.args.block f c.index.result.now c.index-spots.result.now block) c.loop-at.at inst
    c.index-in-loop-at-2.result.now test c.loop-at.found c.fault_at.result c.first_of-found.result (omega arith) c.index-in-loop-at.ensures
    c.index-in-loop-at-2.ensures tells c.fault_at.ensures c.first_of-found.ensures c.loop-at.invariant

pub returns : goal.returns
returns c =
    let p = c.args.p.now in
    let f = c.args.around.now.function.now in
    let rows = rows_read p c.args.function f c.index-2.result.now c.requires.here.function c.index-2.ensures in
    let block = block_read p c.args.function c.args.block f c.index.result.now c.index-2.result.now c.index-spots.result.now c.requires.here.function
    c.requires.within c.index.ensures rows c.index-spots.ensures in
    items_all p _ _ _ _ _ (are_insts p c.args.function c.args.block f c.index.result.now c.index-spots.result.now block) c.loop-at.at c.loop-at.found (omega arith)
    c.loop-at.invariant
