-- What the parts of a type tell of it.
use Rattle.std.proofs.Common.{◌≡◌, ℕ, Bool, true, List, [], ◌∷◌, ◌++◌, map, ap, sym, refl, ◌∙◌, Vec, Box}
use Rattle.std.specs.List.{flat_map}
use Rattle.std.specs.declared.alloc.Global.{Global}
use Rattle.ir_tree.specs.Shape.{TyShape, ty_row}
use Rattle.ir_tree.specs.ShapeOf.{ty_step, ty_shape, name_shape, module_shape}
use Rattle.ir_tree.specs.Known.{ty_known_step, ty_known, name_known}
use Rattle.ir_tree.specs.declared.names.NameId.{NameId}
use Rattle.ir_tree.specs.declared.types.Ty.{Ty}
use Rattle.ir_tree.specs.declared.types.Ty.TheOpen as ty
use Rattle.ir_tree.specs.declared.types.Ty.TheVariants as types
use Rattle.ir_tree.specs.declared.types.Ty.TheFolds.{fold-roll-Ty}
use Rattle.ir_tree.specs.declared.module.Module.{Module}
use Rattle.ir_tree.proofs.Rows.{row_known}
use Rattle.ir_rules.specs.Uses.{Use, as_type, ty_uses, row_uses}
use Rattle.ir_layout.specs.Rules.{named_ty}
use Rattle.ir_tree.specs.NameTable.{text_of, IsKnown}
use Rattle.std.specs.Prelude.{is_some}
use Rattle.ir_names.specs.Tables.{ModuleTable, AreNamesOf}
use Rattle.ir_missing.specs.Tells.{Outside, Tells}
use Rattle.ir_missing.proofs.Telling.{tells_none, tells_same, tells_one, AllTell}

-- that the names which a type uses are there
abbrev pub TyTells : ModuleTable → Ty → Bool → Type 0
TyTells t x answer = Tells (Outside t) (λ n. ty_known n x) (λ names. ty_uses (ty_shape names x)) answer

pub integer_told : (t : ModuleTable) (bits : ℕ) → TyTells t (types.Int bits) true
unfolding ty_uses row_uses
integer_told t bits =
    tells_same tells_none (λ n h. refl) (λ names. ap ty_uses (sym (ap (ty_shape names) (sym (types.rolls-Int bits)) ∙ fold-roll-Ty TyShape (ty_step names) (ty.Int bits))))

pub pointer_told : (t : ModuleTable) → TyTells t types.Ptr true
unfolding ty_uses row_uses
pointer_told t =
    tells_same tells_none (λ n h. refl) (λ names. ap ty_uses (sym (ap (ty_shape names) (sym types.rolls-Ptr) ∙ fold-roll-Ty TyShape (ty_step names) ty.Ptr)))

pub void_told : (t : ModuleTable) → TyTells t types.Void true
unfolding ty_uses row_uses
void_told t =
    tells_same tells_none (λ n h. refl) (λ names. ap ty_uses (sym (ap (ty_shape names) (sym types.rolls-Void) ∙ fold-roll-Ty TyShape (ty_step names) ty.Void)))

pub array_told : (t : ModuleTable) (count : ℕ) (element : Box Ty Global) (answer : Bool) → TyTells t element.value answer
    → TyTells t (types.Array count element) answer
unfolding ty_uses row_uses
array_told t count element answer part =
    tells_same part
    (λ n h. sym (fold-roll-Ty Bool (ty_known_step n) (ty.Array count element)) ∙ ap (ty_known n) (types.rolls-Array count element) ∙ h)
    (λ names. ap ty_uses (sym (ap (ty_shape names) (sym (types.rolls-Array count element)) ∙ fold-roll-Ty TyShape (ty_step names) (ty.Array count element))))

rows_used : (ts : List TyShape) → row_uses (ty_row ts) ≡ flat_map ty_uses ts
unfolding ty_uses row_uses
rows_used [] = refl
rows_used (t ∷ ts) = ap (λ (z : List Use). ty_uses t ++ z) (rows_used ts)

pub structure_told : (t : ModuleTable) (v : Vec Ty Global) (packed : Bool) (answer : Bool)
    → AllTell (Outside t) ty_known ty_shape ty_uses v.items answer → TyTells t (types.Struct v packed) answer
unfolding ty_uses row_uses
structure_told t v packed answer part =
    tells_same part
    (λ n h. sym (row_known (ty_known n) v.items) ∙ sym (fold-roll-Ty Bool (ty_known_step n) (ty.Struct v packed)) ∙ ap (ty_known n) (types.rolls-Struct v packed) ∙ h)
    (λ names.
    sym (rows_used (map (ty_shape names) v.items))
    ∙ ap ty_uses (sym (ap (ty_shape names) (sym (types.rolls-Struct v packed)) ∙ fold-roll-Ty TyShape (ty_step names) (ty.Struct v packed))))

pub named_told : (t : ModuleTable) (id : NameId) (answer : Bool)
    → ((m : Module) → AreNamesOf m t → IsKnown m.names id.0 → answer ≡ is_some (named_ty (module_shape m).types (text_of m.names id.0)))
    → TyTells t (types.Named id) answer
unfolding ty_uses row_uses
named_told t id answer are =
    tells_same (tells_one {known = λ n. name_known n id} {named = λ names. as_type (name_shape names id)} (λ m f fit h. are m fit h))
    (λ n h. sym (fold-roll-Ty Bool (ty_known_step n) (ty.Named id)) ∙ ap (ty_known n) (types.rolls-Named id) ∙ h)
    (λ names. ap ty_uses (sym (ap (ty_shape names) (sym (types.rolls-Named id)) ∙ fold-roll-Ty TyShape (ty_step names) (ty.Named id))))
