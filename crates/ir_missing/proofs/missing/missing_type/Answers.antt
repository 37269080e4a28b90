use Rattle.std.proofs.Common.{length, sym, None, ◌∙◌}
use Rattle.std.specs.List.{list_all}
use Rattle.std.proofs.lemmas.Option.{slice_get_read}
use Rattle.ir_tree.specs.ShapeOf.{module_shape, named_ty_shape}
use Rattle.ir_tree.specs.Known.{named_ty_known}
use Rattle.ir_tree.proofs.Grows.{and_right}
use Rattle.ir_rules.specs.Uses.{ty_uses}
use Rattle.ir_rules.specs.Things.{is_there}
use Rattle.ir_rules.specs.Places.{type_at}
use Rattle.ir_names.proofs.Entered.{types_known}
use Rattle.ir_missing.proofs.PlaceByPlace.{place_whole, place_faulty, item_passes, item_fails, known_at}
use Rattle.ir_missing.proofs.missing.missing_type.Goals as goal

pub returns-then-ty_there : goal.returns-then-ty_there
returns-then-ty_there c =
    let known = and_right _ _ (known_at (named_ty_known (length c.args.p.now.«module».names)) c.args.p.now.«module».types.items c.args.k c.index.result.now c.requires.within c.index.ensures (types_known c.args.p.now.«module» c.requires.known)) in
    let told = c.ty_there.ensures.tells c.args.p.now.«module» None c.requires.names known in
    place_whole c.args.p.now (type_at c.args.k)
    (item_passes (named_ty_shape c.args.p.now.«module».names) (λ t. list_all (is_there (module_shape c.args.p.now.«module») None) (ty_uses t.ty)) c.args.p.now.«module».types.items c.args.k c.index.result.now c.requires.within c.index.ensures
    (sym told ∙ c.if-ty_there.true))

pub returns-else-ty_there : goal.returns-else-ty_there
returns-else-ty_there c =
    let known = and_right _ _ (known_at (named_ty_known (length c.args.p.now.«module».names)) c.args.p.now.«module».types.items c.args.k c.index.result.now c.requires.within c.index.ensures (types_known c.args.p.now.«module» c.requires.known)) in
    let told = c.ty_there.ensures.tells c.args.p.now.«module» None c.requires.names known in
    place_faulty c.args.p.now (type_at c.args.k) _
    (slice_get_read c.args.p.now.spots.types.items _ c.args.k _ (sym c.args.p.now.types_spotted) c.requires.within c.index-else-ty_there.ensures)
    (item_fails (named_ty_shape c.args.p.now.«module».names) (λ t. list_all (is_there (module_shape c.args.p.now.«module») None) (ty_uses t.ty)) c.args.p.now.«module».types.items c.args.k c.index.result.now c.requires.within c.index.ensures
    (sym told ∙ c.if-ty_there.false))
