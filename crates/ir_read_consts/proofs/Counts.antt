-- How many names a table has after one more.
use Rattle.std.proofs.Common.{ℕ, ◌+◌, ◌≤◌, Bool, true, false, List, [], ◌∷◌, ◌++◌, length, arith, if◌then◌else◌, length-append}
use Rattle.std.specs.List.{list_any}
use Rattle.std.specs.Str.{bytes_eq}
use Rattle.ir_tree.specs.NameTable.{with_name}

longer_if : (b : Bool) (names : List (List ℕ)) (name : List ℕ) → length (if b then names else names ++ name ∷ []) ≤ length names + 1
longer_if true names name = omega arith
longer_if false names name = omega (arith, length-append names (name ∷ []))

pub length_with_name : (names : List (List ℕ)) (name : List ℕ) → length (with_name names name) ≤ length names + 1
length_with_name names name = longer_if (list_any (bytes_eq name) names) names name
