-- The function where a program begins, among functions as code has them.
use Rattle.std.specs.Prelude.{ℕ, Bool, List, Option, codes}
use Rattle.std.specs.List.{position_from}
use Rattle.std.specs.Str.{bytes_eq}
use Rattle.ir_tree.specs.NameTable.{text_of}
use Rattle.ir_tree.specs.declared.module.Function.{Function}

-- whether a function is named `main`
abbrev pub is_main : List (List ℕ) → Function → Bool
is_main names f = bytes_eq (text_of names f.name.0) (codes "main")

-- which of some functions is the first one named `main`
abbrev pub main_among : List (List ℕ) → List Function → Option ℕ
main_among names fs = position_from (is_main names) 0 fs
