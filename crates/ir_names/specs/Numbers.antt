-- Items by the numbers of their names.
use Rattle.std.specs.Prelude.{ℕ, ◌==◌, Bool, false, not, if◌then◌else◌, List, Option, Some, None, codes}
use Rattle.std.specs.List.{position_from}
use Rattle.std.specs.Str.{bytes_eq}
use Rattle.ir_tree.specs.NameTable.{text_of}
use Rattle.ir_tree.specs.declared.names.NameId.{NameId}
use Rattle.ir_tree.specs.declared.module.Function.{Function}
use Rattle.ir_tree.specs.declared.module.Declare.{Declare}
use Rattle.ir_rules.specs.Things.{is_outside_name}

-- whether there is a name, and it has this number
abbrev pub has_number : ℕ → Option NameId → Bool
has_number number None = false
has_number number (Some id) = id.0 == number

-- which item is the first one whose name has this number
abbrev pub first_with : List (Option NameId) → ℕ → Option ℕ
first_with ids number = position_from (has_number number) 0 ids

-- the name of a defined function, unless it is `main`, which may not be called
abbrev pub defined_id : List (List ℕ) → Function → Option NameId
defined_id names f = if not (bytes_eq (text_of names f.name.0) (codes "main")) then Some f.name else None

-- the name of a declared function, if it is one of the two that may be called
abbrev pub declared_id : List (List ℕ) → Declare → Option NameId
declared_id names d = if is_outside_name (text_of names d.name.0) then Some d.name else None
