use Rattle.std.proofs.Common.{length, sym, None, ◌∙◌}
use Rattle.std.specs.List.{list_all}
use Rattle.std.proofs.lemmas.Option.{slice_get_read}
use Rattle.ir_tree.specs.ShapeOf.{module_shape, declare_shape}
use Rattle.ir_tree.specs.Known.{declare_known}
use Rattle.ir_rules.specs.Uses.{declare_uses}
use Rattle.ir_rules.specs.Things.{is_there}
use Rattle.ir_rules.specs.Places.{declare_at}
use Rattle.ir_names.proofs.Entered.{declares_known}
use Rattle.ir_missing.proofs.PlaceByPlace.{place_whole, place_faulty, item_passes, item_fails, known_at}
use Rattle.ir_missing.proofs.missing.missing_declare.Goals as goal

pub returns-then-declare_there : goal.returns-then-declare_there
returns-then-declare_there c =
    let known = known_at (declare_known (length c.args.p.now.«module».names)) c.args.p.now.«module».declares.items c.args.k c.index.result.now c.requires.within c.index.ensures (declares_known c.args.p.now.«module» c.requires.known) in
    let told = c.declare_there.ensures.tells c.args.p.now.«module» None c.requires.names known in
    place_whole c.args.p.now (declare_at c.args.k)
    (item_passes (declare_shape c.args.p.now.«module».names) (λ d. list_all (is_there (module_shape c.args.p.now.«module») None) (declare_uses d)) c.args.p.now.«module».declares.items c.args.k c.index.result.now c.requires.within c.index.ensures
    (sym told ∙ c.if-declare_there.true))

pub returns-else-declare_there : goal.returns-else-declare_there
returns-else-declare_there c =
    let known = known_at (declare_known (length c.args.p.now.«module».names)) c.args.p.now.«module».declares.items c.args.k c.index.result.now c.requires.within c.index.ensures (declares_known c.args.p.now.«module» c.requires.known) in
    let told = c.declare_there.ensures.tells c.args.p.now.«module» None c.requires.names known in
    place_faulty c.args.p.now (declare_at c.args.k) _
    (slice_get_read c.args.p.now.spots.declares.items _ c.args.k _ (sym c.args.p.now.declares_spotted) c.requires.within c.index-else-declare_there.ensures)
    (item_fails (declare_shape c.args.p.now.«module».names) (λ d. list_all (is_there (module_shape c.args.p.now.«module») None) (declare_uses d)) c.args.p.now.«module».declares.items c.args.k c.index.result.now c.requires.within c.index.ensures
    (sym told ∙ c.if-declare_there.false))
