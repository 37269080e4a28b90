use Rattle.std.proofs.Common.{length, sym, None, ◌∙◌}
use Rattle.std.specs.List.{list_all}
use Rattle.std.proofs.lemmas.Option.{slice_get_read}
use Rattle.ir_tree.specs.ShapeOf.{module_shape, global_shape}
use Rattle.ir_tree.specs.Known.{global_known}
use Rattle.ir_rules.specs.Uses.{global_uses}
use Rattle.ir_rules.specs.Things.{is_there}
use Rattle.ir_rules.specs.Places.{global_at}
use Rattle.ir_names.proofs.Entered.{globals_known}
use Rattle.ir_missing.proofs.PlaceByPlace.{place_whole, place_faulty, item_passes, item_fails, known_at}
use Rattle.ir_missing.proofs.missing.missing_global.Goals as goal

pub returns-then-global_there : goal.returns-then-global_there
returns-then-global_there c =
    let known = known_at (global_known (length c.args.p.now.«module».names)) c.args.p.now.«module».globals.items c.args.k c.index.result.now c.requires.within c.index.ensures (globals_known c.args.p.now.«module» c.requires.known) in
    let told = c.global_there.ensures.tells c.args.p.now.«module» None c.requires.names known in
    place_whole c.args.p.now (global_at c.args.k)
    (item_passes (global_shape c.args.p.now.«module».names) (λ g. list_all (is_there (module_shape c.args.p.now.«module») None) (global_uses g)) c.args.p.now.«module».globals.items c.args.k c.index.result.now c.requires.within c.index.ensures
    (sym told ∙ c.if-global_there.true))

pub returns-else-global_there : goal.returns-else-global_there
returns-else-global_there c =
    let known = known_at (global_known (length c.args.p.now.«module».names)) c.args.p.now.«module».globals.items c.args.k c.index.result.now c.requires.within c.index.ensures (globals_known c.args.p.now.«module» c.requires.known) in
    let told = c.global_there.ensures.tells c.args.p.now.«module» None c.requires.names known in
    place_faulty c.args.p.now (global_at c.args.k) _
    (slice_get_read c.args.p.now.spots.globals.items _ c.args.k _ (sym c.args.p.now.globals_spotted) c.requires.within c.index-else-global_there.ensures)
    (item_fails (global_shape c.args.p.now.«module».names) (λ g. list_all (is_there (module_shape c.args.p.now.«module») None) (global_uses g)) c.args.p.now.«module».globals.items c.args.k c.index.result.now c.requires.within c.index.ensures
    (sym told ∙ c.if-global_there.false))
