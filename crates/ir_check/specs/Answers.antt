-- What the answers to a check of a module say.
use Rattle.std.specs.Prelude.{◌≡◌, true, Some}
use Rattle.ir_tree.specs.Known.{module_known}
use Rattle.ir_tree.specs.ShapeOf.{module_shape}
use Rattle.ir_tree.specs.declared.parsed.Parsed.{Parsed}
use Rattle.ir_rules.specs.NameRules.{HasNames}
use Rattle.ir_rules.specs.TypeRules.{HasTypes}
use Rattle.ir_rules.specs.Faults.{NameFault, TypeFault, IsFirst}
use Rattle.ir_proper.specs.FlowRules.{HasFlow, FlowFault}
use Rattle.ir_proper.specs.Limits.{most_of, IsWithin, IsFirstPassed}
use Rattle.ir_proper.specs.Proper.{HasMain, IsProper}
use Rattle.ir_names.specs.Scopes.{AreScopesOf}
use Rattle.ir_forms.specs.Modules.{HasForm}
use Rattle.ir_check.specs.declared.checked.Checked.{Checked}
use Rattle.ir_check.specs.declared.error.CheckError.{CheckError}
use Rattle.ir_check.specs.declared.error.CheckError.TheVariants.{Name, Typing, Flow, NoMain, Limit, OutOfMemory}

-- why a module that was read is refused: the first kind of rule that fails, in this order, and where it fails first. A lack of memory says
-- nothing of the module
abbrev pub IsRefused : Parsed → CheckError → Type 0
IsRefused p (Name at) = IsFirst (NameFault p) (Some at)
IsRefused p (Typing at) = HasNames (module_shape p.«module») × IsFirst (TypeFault p) (Some at)
IsRefused p (Flow at) = HasNames (module_shape p.«module») × HasTypes (module_shape p.«module») × IsFirst (FlowFault p) (Some at)
IsRefused p NoMain =
    HasNames (module_shape p.«module») × HasTypes (module_shape p.«module») × HasFlow (module_shape p.«module»)
    × (HasMain (module_shape p.«module») → ⊥)
IsRefused p (Limit which found most) =
    IsProper (module_shape p.«module») × IsFirstPassed (module_shape p.«module») which found × (most ≡ most_of which)
IsRefused p OutOfMemory = Unit {0}

-- what is known of a checked module: its names are known, it has the form that the grammar gives, it is proper and within the limits, and the
-- tables say what its names stand for
pub record IsChecked (c : Checked) : Type 0 where
  pub known : module_known c.parsed.«module» ≡ true
  pub form : HasForm (module_shape c.parsed.«module»)
  pub proper : IsProper (module_shape c.parsed.«module»)
  pub within : IsWithin (module_shape c.parsed.«module»)
  pub tables : AreScopesOf c.parsed.«module» c.scopes
