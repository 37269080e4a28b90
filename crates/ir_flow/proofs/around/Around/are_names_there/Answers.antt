use Rattle.std.proofs.Common.{◌≡◌, Some, arith}
use Rattle.ir_tree.specs.ShapeOf.{name_shape}
use Rattle.ir_rules.specs.declared.Site.{Site}
use Rattle.ir_proper.specs.Availability.{site_of, IsThere}
use Rattle.ir_flow.specs.Around.{names_of, function_of}
use Rattle.ir_flow.proofs.OneByOne.{yes, of_mapped, hold_all}
use Rattle.ir_flow.proofs.around.Around.are_names_there.Goals as goal

pub returns : goal.returns
returns c =
    let names = names_of c.args.self.now in
    let f = function_of c.args.self.now in
    let ids = c.args.ids.now in
    yes _ (λ name site there given.
    of_mapped (name_shape names) (λ text. (s : Site) → site_of f text ≡ Some s → IsThere f s c.args.block c.args.index) ids
    (hold_all (λ id. (s : Site) → site_of f (name_shape names id) ≡ Some s → IsThere f s c.args.block c.args.index) ids c.loop-id.id-index (omega arith)
    c.loop-id.invariant) name there site given)
