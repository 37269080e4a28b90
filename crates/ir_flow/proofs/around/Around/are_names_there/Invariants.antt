use Rattle.std.proofs.Common.{◌≡◌, Some}
use Rattle.ir_tree.specs.ShapeOf.{name_shape}
use Rattle.ir_rules.specs.declared.Site.{Site}
use Rattle.ir_proper.specs.Availability.{site_of, IsThere}
use Rattle.ir_flow.specs.Around.{names_of, function_of}
use Rattle.ir_flow.proofs.OneByOne.{Hold}
use Rattle.ir_flow.proofs.around.Around.are_names_there.Given as goal

abbrev pub invariant-loop-id : goal.invariant-loop-id
invariant-loop-id l =
    Hold (λ id. (site : Site) → site_of (function_of l.self) (name_shape (names_of l.self) id) ≡ Some site → IsThere (function_of l.self) site l.block l.index)
    l.ids l.id-index
