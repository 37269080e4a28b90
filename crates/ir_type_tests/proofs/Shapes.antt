-- The shapes of constants that are written without their values.
use Rattle.std.proofs.Common.{◌≡◌, ℕ, List, sym, ap, ◌∙◌}
use Rattle.ir_tree.specs.Shape.{ConstShape, TypedShape, undef, poison, zero_value}
use Rattle.ir_tree.specs.ShapeOf.{const_step, typed_step, const_shape}
use Rattle.ir_tree.specs.declared.types.Const.TheOpen as constant
use Rattle.ir_tree.specs.declared.types.Const.TheVariants as constants
use Rattle.ir_tree.specs.declared.types.Const.TheFolds.{fold-roll-Const}

pub undef_shape : (names : List (List ℕ)) → const_shape names constants.Undef ≡ undef
undef_shape names = ap (const_shape names) (sym constants.rolls-Undef) ∙ fold-roll-Const ConstShape TypedShape (const_step names) (typed_step names) constant.Undef

pub poison_shape : (names : List (List ℕ)) → const_shape names constants.Poison ≡ poison
poison_shape names = ap (const_shape names) (sym constants.rolls-Poison) ∙ fold-roll-Const ConstShape TypedShape (const_step names) (typed_step names) constant.Poison

pub zero_shape : (names : List (List ℕ)) → const_shape names constants.Zero ≡ zero_value
zero_shape names = ap (const_shape names) (sym constants.rolls-Zero) ∙ fold-roll-Const ConstShape TypedShape (const_step names) (typed_step names) constant.Zero
