use Rattle.std.proofs.Common.{ℕ, Vec, get_or, arith, ap, ◌∙◌, length}
use Rattle.std.specs.declared.alloc.Global.{Global}
use Rattle.std.proofs.lemmas.Option.{slice_get_within}
use Rattle.ir_rules.specs.Places.{inst_at_place}
use Rattle.ir_missing.specs.Missing.{IsMissing}
use Rattle.ir_missing.proofs.Earliest.{first_none, first_more, first_all}
use Rattle.ir_missing.proofs.InstPlaces.{FunctionSpots, read_is, block_parts, inst_there, inst_within}
use Rattle.ir_missing.proofs.missing.first_missing_in_block.Goals as goal

pub index-requires : goal.index-requires
index-requires c =
    let lists = block_parts c.args.p.now.spots c.args.f c.args.b c.requires.within in
    omega (arith, slice_get_within c.args.p.now.spots.insts.items c.args.f lists.0 lists.2)

pub index-requires-2 : goal.index-requires-2
index-requires-2 c =
    let lists = block_parts c.args.p.now.spots c.args.f c.args.b c.requires.within in
    let blocks = read_is c.args.p.now.spots.insts.items c.args.f lists.0 c.index.result.now lists.2 c.index.ensures in
    omega (arith, slice_get_within lists.0.items c.args.b lists.1 lists.3, ap (λ (s : FunctionSpots). length s.items) blocks)

pub missing_inst-requires-clause-within : goal.missing_inst-requires-clause-within
missing_inst-requires-clause-within c =
    let lists = block_parts c.args.p.now.spots c.args.f c.args.b c.requires.within in
    let blocks = read_is c.args.p.now.spots.insts.items c.args.f lists.0 c.index.result.now lists.2 c.index.ensures in
    let block = read_is lists.0.items c.args.b lists.1 c.index-2.result.now lists.3
    (c.index-2.ensures ∙ ap (λ (s : FunctionSpots). get_or s.items c.args.b c.index-2.result.now) blocks) in
    inst_there c.args.p.now.spots c.args.f c.args.b c.loop-i.i lists.0 lists.1 lists.2 lists.3
    (omega (arith, c.len-i-end.ensures, ap (λ (t : Vec ℕ Global). length t.items) block))

pub loop-i-init : goal.loop-i-init
loop-i-init c = first_none _

pub loop-i-preserved : goal.loop-i-preserved
loop-i-preserved c =
    rw c.earlier-first.ensures
    (first_more (λ i at. IsMissing c.args.p.now (inst_at_place c.args.f c.args.b i) at) c.loop-i.i c.loop-i.first _ c.loop-i.invariant c.missing_inst.ensures)

pub returns : goal.returns
returns c =
    let lists = block_parts c.args.p.now.spots c.args.f c.args.b c.requires.within in
    let blocks = read_is c.args.p.now.spots.insts.items c.args.f lists.0 c.index.result.now lists.2 c.index.ensures in
    let block = read_is lists.0.items c.args.b lists.1 c.index-2.result.now lists.3
    (c.index-2.ensures ∙ ap (λ (s : FunctionSpots). get_or s.items c.args.b c.index-2.result.now) blocks) in
    first_all (λ i at. IsMissing c.args.p.now (inst_at_place c.args.f c.args.b i) at) c.loop-i.i c.loop-i.first
    (λ i at miss.
    inst_within c.args.p.now.spots c.args.f c.args.b i at lists.0 lists.1 lists.2 lists.3 miss.spot c.loop-i.i
    (omega (arith, c.len-i-end.ensures, ap (λ (t : Vec ℕ Global). length t.items) block)))
    c.loop-i.invariant
