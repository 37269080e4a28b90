-- A text whose module is proper and within the limits is accepted.
use Rattle.std.proofs.Common.{◌≡◌, ◌⊎◌, inl, inr, ℕ, List, refl, ap, sym, subst}
use Rattle.std.specs.Prelude.{Result, Ok, Err}
use Rattle.ir_tree.specs.Shape.{ModuleShape}
use Rattle.ir_tree.specs.ShapeOf.{module_shape}
use Rattle.ir_proper.specs.Proper.{IsProper}
use Rattle.ir_proper.specs.Limits.{IsWithin}
use Rattle.ir_source.specs.Texts.{IsModuleOf, IsRead, HasSpots}
use Rattle.ir_source.specs.declared.error.SourceError.{SourceError}
use Rattle.ir_source.specs.declared.error.SourceError.TheVariants as source
use Rattle.ir_source.proofs.OneWay.{one_module, not_refused}
use Rattle.ir_check.specs.declared.error.CheckError.{CheckError}
use Rattle.ir_check.proofs.Refusals.{not_refused as module_not_refused}
use Rattle.ir_lex.specs.Symbols.{Symbol}
use Rattle.ir_grammar_modules.specs.Modules.{whole_module}
use Rattle.ir_forms.specs.Modules.{HasForm}
use Rattle.ir_tree.specs.declared.parsed.Parsed.{Parsed}
use Rattle.ir_check.specs.Answers.{IsChecked, IsRefused as IsRefusedModule}
use Rattle.ir_check.specs.declared.checked.Checked.{Checked}
use Rattle.ir_accept.specs.Checks.{IsRefusedWith, IsCheckedText}
use Rattle.ir_accept.specs.declared.texts.Refusal.{Refusal}
use Rattle.ir_accept.specs.declared.texts.Refusal.TheVariants.{Text, Module}

module_accepted : (text : List ℕ) (m : ModuleShape) (error : CheckError) → IsModuleOf text m → IsProper m → IsWithin m → IsRefusedWith text error
    → error ≡ CheckError.OutOfMemory
module_accepted text m error has proper within (p, is, spots, refused) =
    let same = one_module text m (module_shape p.«module») has is in
    module_not_refused p error (subst IsProper same proper) (subst IsWithin same within) refused

pub accepted : (text : List ℕ) (m : ModuleShape) (error : Refusal) → IsModuleOf text m → IsProper m → IsWithin m → IsCheckedText text (Err error)
    → (error ≡ Text SourceError.OutOfMemory) ⊎ (error ≡ Module CheckError.OutOfMemory)
accepted text m (Text (source.Bad at)) has proper within refused = absurd (not_refused text m (source.Bad at) has refused)
accepted text m (Text (source.Outside at len)) has proper within refused = absurd (not_refused text m (source.Outside at len) has refused)
accepted text m (Text (source.Deep at)) has proper within refused = absurd (not_refused text m (source.Deep at) has refused)
accepted text m (Text (source.Syntax at)) has proper within refused = absurd (not_refused text m (source.Syntax at) has refused)
accepted text m (Text source.OutOfMemory) has proper within refused = inl refl
accepted text m (Module error) has proper within refused = inr (ap (λ (e : CheckError). Module e) (module_accepted text m error has proper within refused))

-- ---- the way of a text
-- what is read has the form that the grammar gives
pub read_form : (text : List ℕ) (p : Parsed) → IsModuleOf text (module_shape p.«module»)
    → ((symbols : List Symbol) (m : ModuleShape) → whole_module symbols m → HasForm m) → HasForm (module_shape p.«module»)
read_form text p is law = law _ (module_shape p.«module») is.spelled

pub accepted_as : (text : List ℕ) (p : Parsed) (c : Checked) → c.parsed ≡ p → IsModuleOf text (module_shape p.«module») → HasSpots text p → IsChecked c
    → IsCheckedText text (Ok c)
accepted_as text p c same is spots checked =
    (subst (λ (q : Parsed). IsModuleOf text (module_shape q.«module»)) (sym same) is, subst (HasSpots text) (sym same) spots, checked)

pub refused_as : (text : List ℕ) (p : Parsed) (error : CheckError) → IsModuleOf text (module_shape p.«module») → HasSpots text p → IsRefusedModule p error
    → IsCheckedText text (Err (Module error))
refused_as text p error is spots refused = (p, is, spots, refused)
