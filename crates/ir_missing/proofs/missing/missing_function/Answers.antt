use Rattle.std.proofs.Common.{length, sym, None, ◌∙◌}
use Rattle.std.specs.List.{list_all}
use Rattle.std.proofs.lemmas.Option.{slice_get_read}
use Rattle.ir_tree.specs.ShapeOf.{module_shape, function_shape}
use Rattle.ir_tree.specs.Known.{function_known}
use Rattle.ir_rules.specs.Uses.{head_uses}
use Rattle.ir_rules.specs.Things.{is_there}
use Rattle.ir_rules.specs.Places.{function_at}
use Rattle.ir_names.proofs.Entered.{functions_known}
use Rattle.ir_missing.proofs.PlaceByPlace.{place_whole, place_faulty, item_passes, item_fails, known_at}
use Rattle.ir_missing.proofs.missing.missing_function.Goals as goal

pub returns-then-head_there : goal.returns-then-head_there
returns-then-head_there c =
    let known = known_at (function_known (length c.args.p.now.«module».names)) c.args.p.now.«module».functions.items c.args.k c.index.result.now c.requires.within c.index.ensures (functions_known c.args.p.now.«module» c.requires.known) in
    let told = c.head_there.ensures.tells c.args.p.now.«module» None c.requires.names known in
    place_whole c.args.p.now (function_at c.args.k)
    (item_passes (function_shape c.args.p.now.«module».names) (λ f. list_all (is_there (module_shape c.args.p.now.«module») None) (head_uses f)) c.args.p.now.«module».functions.items c.args.k c.index.result.now c.requires.within c.index.ensures
    (sym told ∙ c.if-head_there.true))

pub returns-else-head_there : goal.returns-else-head_there
returns-else-head_there c =
    let known = known_at (function_known (length c.args.p.now.«module».names)) c.args.p.now.«module».functions.items c.args.k c.index.result.now c.requires.within c.index.ensures (functions_known c.args.p.now.«module» c.requires.known) in
    let told = c.head_there.ensures.tells c.args.p.now.«module» None c.requires.names known in
    place_faulty c.args.p.now (function_at c.args.k) _
    (slice_get_read c.args.p.now.spots.functions.items _ c.args.k _ (sym c.args.p.now.functions_spotted) c.requires.within c.index-else-head_there.ensures)
    (item_fails (function_shape c.args.p.now.«module».names) (λ f. list_all (is_there (module_shape c.args.p.now.«module») None) (head_uses f)) c.args.p.now.«module».functions.items c.args.k c.index.result.now c.requires.within c.index.ensures
    (sym told ∙ c.if-head_there.false))
