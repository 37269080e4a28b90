-- The callee of a `call`: a constant that is the name of a function.
use Rattle.std.proofs.Common.{◌≡◌, ℕ, Bool, true, List, sym, ◌∙◌, ap}
use Rattle.ir_tree.specs.Shape.{ConstShape, TypedShape, global}
use Rattle.ir_tree.specs.ShapeOf.{const_shape, const_step, typed_step, name_shape}
use Rattle.ir_tree.specs.Known.{const_known, const_known_step, typed_known_step, name_known}
use Rattle.ir_tree.specs.declared.names.NameId.{NameId}
use Rattle.ir_tree.specs.declared.types.Const.TheOpen as constant
use Rattle.ir_tree.specs.declared.types.Const.TheVariants as constants
use Rattle.ir_tree.specs.declared.types.Const.TheFolds.{fold-roll-Const}

pub callee_shape : (names : List (List ℕ)) (id : NameId) → const_shape names (constants.Global id) ≡ global (name_shape names id)
callee_shape names id =
    ap (const_shape names) (sym (constants.rolls-Global id)) ∙ fold-roll-Const ConstShape TypedShape (const_step names) (typed_step names) (constant.Global id)

pub callee_known : (n : ℕ) (id : NameId) → name_known n id ≡ true → const_known n (constants.Global id) ≡ true
callee_known n id k =
    ap (const_known n) (sym (constants.rolls-Global id)) ∙ fold-roll-Const Bool Bool (const_known_step n) (typed_known_step n) (constant.Global id) ∙ k
