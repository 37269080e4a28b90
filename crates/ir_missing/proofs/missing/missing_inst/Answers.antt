use Rattle.std.proofs.Common.{ℕ, Some, Vec, get_or, arith, sym, ap, ◌∙◌, length}
use Rattle.std.specs.declared.alloc.Global.{Global}
use Rattle.std.proofs.lemmas.Option.{slice_get_within}
use Rattle.ir_tree.specs.declared.module.Function.{Function}
use Rattle.ir_tree.specs.declared.module.Block.{Block}
use Rattle.ir_rules.specs.Places.{inst_at_place}
use Rattle.ir_missing.proofs.InstPlaces.{FunctionSpots, inst_spotted, read_is, insts_read, spots_read, spot_at, inst_told, inst_whole, inst_faulty}
use Rattle.ir_missing.proofs.PlaceByPlace.{place_whole, place_faulty}
use Rattle.ir_missing.proofs.missing.missing_inst.Goals as goal

pub index-requires-2 : goal.index-requires-2
index-requires-2 c =
    let at = inst_spotted c.args.p.now c.args.f c.args.b c.args.i c.requires.within in
    let function = read_is c.args.p.now.«module».functions.items c.args.f at.function c.index.result.now at.function_is c.index.ensures in
    omega (arith, slice_get_within at.function.blocks.items c.args.b at.block at.block_is, ap (λ (g : Function). length g.blocks.items) function)

pub index-inst-requires : goal.index-inst-requires
index-inst-requires c =
    let at = inst_spotted c.args.p.now c.args.f c.args.b c.args.i c.requires.within in
    let function = read_is c.args.p.now.«module».functions.items c.args.f at.function c.index.result.now at.function_is c.index.ensures in
    let block = read_is at.function.blocks.items c.args.b at.block c.index-2.result.now at.block_is
    (c.index-2.ensures ∙ ap (λ (g : Function). get_or g.blocks.items c.args.b c.index-2.result.now) function) in
    omega (arith, slice_get_within at.block.insts.items c.args.i at.inst at.inst_is, ap (λ (x : Block). length x.insts.items) block)

pub index-requires-3 : goal.index-requires-3
index-requires-3 c =
    let at = inst_spotted c.args.p.now c.args.f c.args.b c.args.i c.requires.within in
    omega (arith, slice_get_within c.args.p.now.«module».functions.items c.args.f at.function at.function_is, c.requires.names.inside.long)

pub index-requires-else-body_there : goal.index-requires-else-body_there
index-requires-else-body_there c =
    let at = inst_spotted c.args.p.now c.args.f c.args.b c.args.i c.requires.within in
    omega (arith, slice_get_within c.args.p.now.spots.insts.items c.args.f at.spots at.spots_are)

pub index-requires-else-body_there-2 : goal.index-requires-else-body_there-2
index-requires-else-body_there-2 c =
    let at = inst_spotted c.args.p.now c.args.f c.args.b c.args.i c.requires.within in
    let spots = read_is c.args.p.now.spots.insts.items c.args.f at.spots c.index-else-body_there.result.now at.spots_are c.index-else-body_there.ensures in
    omega (arith, slice_get_within at.spots.items c.args.b at.in_block at.in_block_is, ap (λ (s : FunctionSpots). length s.items) spots)

pub index-requires-else-body_there-3 : goal.index-requires-else-body_there-3
index-requires-else-body_there-3 c =
    let at = inst_spotted c.args.p.now c.args.f c.args.b c.args.i c.requires.within in
    let spots = read_is c.args.p.now.spots.insts.items c.args.f at.spots c.index-else-body_there.result.now at.spots_are c.index-else-body_there.ensures in
    let in_block = read_is at.spots.items c.args.b at.in_block c.index-else-body_there-2.result.now at.in_block_is
    (c.index-else-body_there-2.ensures ∙ ap (λ (s : FunctionSpots). get_or s.items c.args.b c.index-else-body_there-2.result.now) spots) in
    omega (arith, slice_get_within at.in_block.items c.args.i at.spot at.spot_is, ap (λ (t : Vec ℕ Global). length t.items) in_block)

pub returns-then-body_there : goal.returns-then-body_there
returns-then-body_there c =
    let at = inst_spotted c.args.p.now c.args.f c.args.b c.args.i c.requires.within in
    let read = insts_read c.args.p.now c.args.f c.args.b c.args.i at c.index.result.now c.index-2.result.now c.index-inst.result.now c.index.ensures
    c.index-2.ensures c.index-inst.ensures in
    let told = inst_told c.args.p.now c.args.scopes.now c.args.f c.args.b c.args.i c.requires.known c.requires.names at c.index-3.result.now c.index-3.ensures
    c.index-inst.result.now read.2 c.body_there.result c.body_there.ensures in
    place_whole c.args.p.now (inst_at_place c.args.f c.args.b c.args.i)
    (inst_whole c.args.p.now c.args.f c.args.b c.args.i at (sym told ∙ c.if-body_there.true))

pub returns-else-body_there : goal.returns-else-body_there
returns-else-body_there c =
    let at = inst_spotted c.args.p.now c.args.f c.args.b c.args.i c.requires.within in
    let read = insts_read c.args.p.now c.args.f c.args.b c.args.i at c.index.result.now c.index-2.result.now c.index-inst.result.now c.index.ensures
    c.index-2.ensures c.index-inst.ensures in
    let told = inst_told c.args.p.now c.args.scopes.now c.args.f c.args.b c.args.i c.requires.known c.requires.names at c.index-3.result.now c.index-3.ensures
    c.index-inst.result.now read.2 c.body_there.result c.body_there.ensures in
    let spots = spots_read c.args.p.now c.args.f c.args.b c.args.i at c.index-else-body_there.result.now c.index-else-body_there-2.result.now
    c.index-else-body_there-3.result.now c.index-else-body_there.ensures c.index-else-body_there-2.ensures c.index-else-body_there-3.ensures in
    place_faulty c.args.p.now (inst_at_place c.args.f c.args.b c.args.i) _
    (spot_at c.args.p.now c.args.f c.args.b c.args.i at ∙ ap (λ (z : ℕ). Some z) (sym spots.2))
    (inst_faulty c.args.p.now c.args.f c.args.b c.args.i at (sym told ∙ c.if-body_there.false))
