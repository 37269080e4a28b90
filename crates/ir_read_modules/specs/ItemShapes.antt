-- Items as the code reads them, under a table of names.
use Rattle.std.specs.Prelude.{ℕ, Bool, ◌&&◌, List, map}
use Rattle.std.specs.List.{list_all}
use Rattle.ir_tree.specs.ShapeOf.{name_shape, ty_shape, param_shape, named_ty_shape, global_shape, declare_shape}
use Rattle.ir_tree.specs.Known.{name_known, ty_known, param_known}
use Rattle.ir_tree.specs.declared.module.NamedTy.{NamedTy}
use Rattle.ir_tree.specs.declared.module.GlobalItem.{GlobalItem}
use Rattle.ir_tree.specs.declared.module.Declare.{Declare}
use Rattle.ir_grammar_modules.specs.Items.{Signature as SignatureShape, ItemShape, type_item, global_item, declare_item}
use Rattle.ir_read_modules.specs.declared.items.Signature.{Signature}

abbrev pub signature_shape : List (List ℕ) → Signature → SignatureShape
signature_shape names x = (ty_shape names x.ret, (name_shape names x.name, map (param_shape names) x.params.items))

abbrev pub signature_known : ℕ → Signature → Bool
signature_known count x = ty_known count x.ret && name_known count x.name && list_all (param_known count) x.params.items

abbrev pub type_item_shape : List (List ℕ) → NamedTy → ItemShape
type_item_shape names x = type_item (named_ty_shape names x)

abbrev pub global_item_shape : List (List ℕ) → GlobalItem → ItemShape
global_item_shape names x = global_item (global_shape names x)

abbrev pub declare_item_shape : List (List ℕ) → Declare → ItemShape
declare_item_shape names x = declare_item (declare_shape names x)
