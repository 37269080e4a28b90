-- Which texts have a module that is proper and within the limits, and why others are refused.
use Rattle.std.specs.Prelude.{Result, Ok, Err, List, ℕ}
use Rattle.ir_tree.specs.ShapeOf.{module_shape}
use Rattle.ir_tree.specs.declared.parsed.Parsed.{Parsed}
use Rattle.ir_check.specs.declared.checked.Checked.{Checked}
use Rattle.ir_check.specs.declared.error.CheckError.{CheckError}
use Rattle.ir_check.specs.Answers.{IsChecked, IsRefused as IsRefusedModule}
use Rattle.ir_source.specs.Texts.{IsModuleOf, IsRead, HasSpots}
use Rattle.ir_accept.specs.declared.texts.Refusal.{Refusal}
use Rattle.ir_accept.specs.declared.texts.Refusal.TheVariants.{Text, Module}

-- the text has this module, whose parts stand at these places, and the module is refused for this reason
abbrev pub IsRefusedWith : List ℕ → CheckError → Type 0
IsRefusedWith text error = (p : Parsed) × IsModuleOf text (module_shape p.«module») × HasSpots text p × IsRefusedModule p error

-- the answer to a text that is checked: its module, which was found to be proper and within the limits; or why it has none; or why its module
-- is refused
abbrev pub IsCheckedText : List ℕ → Result Checked Refusal → Type 0
IsCheckedText text (Ok checked) = IsModuleOf text (module_shape checked.parsed.«module») × HasSpots text checked.parsed × IsChecked checked
IsCheckedText text (Err (Text error)) = IsRead text (Err error)
IsCheckedText text (Err (Module error)) = IsRefusedWith text error
