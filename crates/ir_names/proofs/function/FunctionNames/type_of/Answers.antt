use Rattle.std.proofs.Common.{◌≡◌, ℕ, Option, Some, None, ap, ◌∙◌, slice_get}
use Rattle.std.specs.Option.{option_map, option_and_then}
use Rattle.ir_tree.specs.Shape.{FunctionShape}
use Rattle.ir_tree.specs.ShapeOf.{function_shape}
use Rattle.ir_rules.specs.declared.Site.{Site}
use Rattle.ir_rules.specs.Values.{ValueShape, values, site_ty}
use Rattle.ir_names.proofs.function.FunctionNames.type_of.Goals as goal

-- the type of a value is that of what its site gives
by_site : (f : FunctionShape) (o : Option ValueShape) (site : Site) → Some site ≡ option_map (λ v. v.site) o
    → site_ty f site ≡ option_and_then (λ v. site_ty f v.site) o
by_site f None site is = cc
by_site f (Some v) site is = let same : site ≡ v.site = cc in ap (site_ty f) same

pub returns-in-Some-site_of-clause-shape : goal.returns-in-Some-site_of-clause-shape
returns-in-Some-site_of-clause-shape c names are known =
    let f = function_shape names c.args.f.now in
    c.type_of_site.ensures.shape names
    ∙ by_site f (slice_get (values f) c.in-Some.value) c.in-Some-site_of.site (c.in-Some-site_of.ensures names c.args.f.now are)
    ∙ ap (λ (o : Option ℕ). option_and_then (λ v. site_ty f v.site) (option_and_then (slice_get (values f)) o)) (c.in-Some.ensures names c.args.f.now are known)
