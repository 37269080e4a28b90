use Rattle.std.proofs.Common.{Some, arith, sym, ap, ◌∙◌}
use Rattle.std.proofs.lemmas.Option.{slice_get-get_or}
use Rattle.ir_missing.specs.Missing.{InBlock}
use Rattle.ir_missing.proofs.Earliest.{first_none, first_more, first_all}
use Rattle.ir_missing.proofs.InstPlaces.{FunctionSpots, block_there, block_within}
use Rattle.ir_missing.proofs.missing.first_missing_in_function.Goals as goal

pub first_missing_in_block-requires-clause-within : goal.first_missing_in_block-requires-clause-within
first_missing_in_block-requires-clause-within c =
    let here = slice_get-get_or c.args.p.now.spots.insts.items c.args.f c.index.result.now c.requires.within ∙ ap (λ (s : FunctionSpots). Some s) (sym c.index.ensures) in
    block_there c.args.p.now.spots c.args.f c.loop-b.b c.index.result.now here (omega (arith, c.len-b-end.ensures))

pub loop-b-init : goal.loop-b-init
loop-b-init c = first_none _

pub loop-b-preserved : goal.loop-b-preserved
loop-b-preserved c =
    rw c.earlier-first.ensures
    (first_more (InBlock c.args.p.now c.args.f) c.loop-b.b c.loop-b.first _ c.loop-b.invariant c.first_missing_in_block.ensures)

pub returns : goal.returns
returns c =
    let here = slice_get-get_or c.args.p.now.spots.insts.items c.args.f c.index.result.now c.requires.within ∙ ap (λ (s : FunctionSpots). Some s) (sym c.index.ensures) in
    first_all (InBlock c.args.p.now c.args.f) c.loop-b.b c.loop-b.first
    (λ b at (i, miss).
    block_within c.args.p.now.spots c.args.f b i at c.index.result.now here miss.spot c.loop-b.b (omega (arith, c.len-b-end.ensures)))
    c.loop-b.invariant
