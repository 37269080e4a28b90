use Rattle.std.proofs.Common.{◌∙◌, ◌<◌, length, refl, Some, sym, ap, arith, get_or}
use Rattle.std.proofs.lemmas.Option.{slice_get-get_or}
use Rattle.std.proofs.lemmas.List.{length-set}
use Rattle.ir_repeats.specs.declared.entries.Item.TheVariants as item
use Rattle.ir_repeats.specs.declared.entries.Entry.{Entry}
use Rattle.ir_repeats.proofs.Firsts.{earliest_within, next_earliest}
use Rattle.ir_repeats.proofs.clashes.earliest.Goals as goal

abbrev nothing : Entry
nothing = record { name = record { 0 = 0 }; item = item.Type 0; spot = 0 }

pub earlier-requires-clause-other : goal.earlier-requires-clause-other
earlier-requires-clause-other c =
    let here = slice_get-get_or c.args.entries.now c.loop-at.at nothing c.loop-at-test.true in
    let named = c.requires.below c.loop-at.at _ here in
    let got = slice_get-get_or c.loop-at.firsts.items _ c.index.result.now (omega (arith, named, c.loop-at.invariant.0)) ∙ ap Some (sym c.index.ensures) in
    earliest_within c.args.entries.now c.loop-at.at c.loop-at.firsts.items _ c.index.result.now c.loop-at.invariant.1 got (omega (arith, c.loop-at.auto.at-end))

pub index_mut-requires : goal.index_mut-requires
index_mut-requires c =
    let here = slice_get-get_or c.args.entries.now c.loop-at.at nothing c.loop-at-test.true in
    let named = c.requires.below c.loop-at.at _ here in
    omega (arith, named, c.loop-at.invariant.0)

pub loop-at-preserved : goal.loop-at-preserved
loop-at-preserved c =
    let here = slice_get-get_or c.args.entries.now c.loop-at.at nothing c.loop-at-test.true in
    let named = c.requires.below c.loop-at.at _ here in
    let within : (get_or c.args.entries.now c.loop-at.at nothing).name.0 < length c.loop-at.firsts.items = omega (arith, named, c.loop-at.invariant.0) in
    let got = slice_get-get_or c.loop-at.firsts.items _ c.index.result.now within ∙ ap Some (sym c.index.ensures) in (
      length-set _ _ _ ∙ c.loop-at.invariant.0,
      next_earliest c.args.entries.now c.loop-at.at _ c.loop-at.firsts.items c.earlier.result here within
          (c.earlier.ensures _ _ here refl (c.loop-at.invariant.1 _ _ got)) c.loop-at.invariant.1,
    )
