use Rattle.std.proofs.Common.{◌≡◌, ℤ, false, refl, sym, subst, rules, to_z, of_z}
use Rattle.std.specs.Int.{w128}
use Rattle.ir_tree.specs.ShapeOf.{ty_shape, const_shape}
use Rattle.ir_rules.specs.Constants.{IsLiteral}
use Rattle.ir_check_consts.proofs.Told.{Tells}
use Rattle.ir_check_consts.proofs.Numbers.{index_told, no_index}
use Rattle.ir_check_consts.proofs.indices.is_number.Goals as goal

pub returns-in-Some : goal.returns-in-Some
returns-in-Some c names =
    let same : to_z w128 (of_z w128 c.in-Some.value) ≡ c.in-Some.value = search rules in
    index_told (ty_shape names c.args.index.now.ty) (const_shape names c.args.index.now.value) c.in-Some.value c.is_literal.result (sym (c.in-Some.ensures names))
    (subst (λ (z : ℤ). Tells c.is_literal.result (IsLiteral z (ty_shape names c.args.index.now.ty))) same (c.is_literal.ensures names))

pub returns-in-None : goal.returns-in-None
returns-in-None c names = no_index (ty_shape names c.args.index.now.ty) (const_shape names c.args.index.now.value) false refl (sym (c.in-None.ensures names))
