-- Operands under a table of names.
use Rattle.std.specs.Prelude.{ℕ, Bool, ◌&&◌, List}
use Rattle.ir_tree.specs.ShapeOf.{ty_shape, val_shape}
use Rattle.ir_tree.specs.Known.{ty_known, val_known}
use Rattle.ir_grammar_insts.specs.Operands.{TwoVals}
use Rattle.ir_grammar_insts.specs.Arithmetic.{Converted}
use Rattle.ir_read_insts.specs.declared.operands.TwoValues.{TwoValues}
use Rattle.ir_read_insts.specs.declared.operands.Conversion.{Conversion}

abbrev pub two_shape : List (List ℕ) → TwoValues → TwoVals
two_shape names x = (ty_shape names x.ty, (val_shape names x.left, val_shape names x.right))

abbrev pub two_known : ℕ → TwoValues → Bool
two_known count x = ty_known count x.ty && val_known count x.left && val_known count x.right

abbrev pub conversion_shape : List (List ℕ) → Conversion → Converted
conversion_shape names x = (ty_shape names x.ty, (val_shape names x.val, ty_shape names x.to))

abbrev pub conversion_known : ℕ → Conversion → Bool
conversion_known count x = ty_known count x.ty && val_known count x.val && ty_known count x.to
