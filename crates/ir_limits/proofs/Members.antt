-- What is known of the functions and of the globals of a module.
use Rattle.std.proofs.Common.{◌≡◌, ℕ, ◌<◌, Bool, true, List, length, get_or, refl, sym, ◌∙◌, ap, option_map}
use Rattle.std.specs.Prelude.{Contains}
use Rattle.std.specs.List.{list_all}
use Rattle.std.proofs.lemmas.Option.{slice_get-map, slice_get_read}
use Rattle.ir_tree.specs.Known.{module_known, function_known, global_known, ty_known, name_known}
use Rattle.ir_tree.specs.ShapeOf.{function_shape, module_shape}
use Rattle.ir_tree.specs.declared.module.Function.{Function}
use Rattle.ir_tree.specs.declared.module.GlobalItem.{GlobalItem}
use Rattle.ir_tree.specs.declared.module.Module.{Module}
use Rattle.ir_tree.proofs.Grows.{and_left, and_right}
use Rattle.ir_names.proofs.AllKnown.{one_of_all}
use Rattle.ir_names.proofs.Entered.{functions_known, globals_known}
use Rattle.ir_rules.specs.TypeRules.{HasTypes}
use Rattle.ir_proper.specs.Limits.{HasFrame}
use Rattle.ir_limits.proofs.OneCount.{some_frame}

-- one of a list of which each is known
pub one_known : {X : Type 0} (k : X → Bool) (xs : List X) (i : ℕ) (x : X) → i < length xs → x ≡ get_or xs i x → list_all k xs ≡ true → k x ≡ true
one_known k xs i x within is all = ap k is ∙ one_of_all k xs i x within all

-- the function of a number
pub function_known_at : (m : Module) (i : ℕ) (f : Function) → module_known m ≡ true → i < length m.functions.items → f ≡ get_or m.functions.items i f
    → function_known (length m.names) f ≡ true
function_known_at m i f known within is = one_known (function_known (length m.names)) m.functions.items i f within is (functions_known m known)

pub function_frame_at : (m : Module) (i : ℕ) (f : Function) → HasTypes (module_shape m) → i < length m.functions.items → f ≡ get_or m.functions.items i f
    → (n : ℕ) × HasFrame (module_shape m).types (function_shape m.names f) n
function_frame_at m i f proper within is =
    some_frame (module_shape m) proper i (function_shape m.names f)
    (slice_get-map (function_shape m.names) m.functions.items i
    ∙ ap (option_map (function_shape m.names)) (slice_get_read m.functions.items (length m.functions.items) i f refl within is))

pub member_known : (m : Module) (f : Function) → module_known m ≡ true → Contains m.functions.items f → function_known (length m.names) f ≡ true
member_known m f known (i, within, is) = function_known_at m i f known within (sym is)

pub member_frame : (m : Module) (f : Function) → HasTypes (module_shape m) → Contains m.functions.items f
    → (n : ℕ) × HasFrame (module_shape m).types (function_shape m.names f) n
member_frame m f proper (i, within, is) = function_frame_at m i f proper within (sym is)

-- the type of the global of a number
pub global_ty_known : (m : Module) (i : ℕ) (g : GlobalItem) → module_known m ≡ true → i < length m.globals.items → g ≡ get_or m.globals.items i g
    → ty_known (length m.names) g.ty ≡ true
global_ty_known m i g known within is =
    and_right (name_known (length m.names) g.name) (ty_known (length m.names) g.ty)
    (and_left _ _ (one_known (global_known (length m.names)) m.globals.items i g within is (globals_known m known)))
