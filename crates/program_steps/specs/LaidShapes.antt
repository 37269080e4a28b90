-- What types that are laid out in code stand for.
use Rattle.std.specs.Prelude.{ℕ, nat_lt, if◌then◌else◌, List, length}
use Rattle.ir_tree.specs.NameTable.{text_of}
use Rattle.program_steps.specs.Laid.{LaidShape, plain, elements, fields, name_of, laid_row}
use Rattle.program_steps.specs.declared.laid.Laid.{Laid}
use Rattle.program_steps.specs.declared.laid.Laid.TheOpen as laid
use Rattle.program_steps.specs.declared.laid.Laid.TheFolds.{fold-Laid}

-- the name of a number; one that isn't in the table leads nowhere
abbrev pub named_at : List (List ℕ) → ℕ → LaidShape
named_at names id = if nat_lt id (length names) then name_of (text_of names id) else plain

abbrev pub laid_step : List (List ℕ) → laid.Laid-F LaidShape → LaidShape
laid_step names laid.Plain = plain
laid_step names (laid.Array size element) = elements size element.value
laid_step names (laid.Struct starts row) = fields starts.items (laid_row row.items)
laid_step names (laid.Named id) = named_at names id.0

-- the shape of a type that is laid out
abbrev pub laid_shape : List (List ℕ) → Laid → LaidShape
laid_shape names = fold-Laid LaidShape (laid_step names)
