use Rattle.std.proofs.Common.{◌≡◌, Option, List, sym, ◌∙◌, ap}
use Rattle.ir_layout.specs.declared.sizes.Layout.{Layout}
use Rattle.ir_layout.specs.Computed.{ty_layout}
use Rattle.ir_layout.proofs.Entries.{whole_computed}
use Rattle.ir_layout.proofs.table.Layouts.layout_of.Goals as goal

pub returns : goal.returns
returns c m known whole names l =
    let both = whole_computed m known c.args.self.now whole c.args.ty.now names l in
    let table : c.deref.result.now ≡ c.args.self.now = cc (c.deref.ensures.value, c.self.view_is) in
    let is = c.layout_in.ensures ∙ ap (λ (z : List (Option Layout)). ty_layout z c.args.ty.now) table in
    (λ e. both.0 (sym is ∙ e), λ has. is ∙ both.1 has)
