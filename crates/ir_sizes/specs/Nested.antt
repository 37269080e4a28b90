-- The layouts of names by their numbers, as they are computed where named types nest so deep at most.
use Rattle.std.specs.Prelude.{ℕ, zero, suc, ◌+◌, List, [], ◌∷◌, Option, None}
use Rattle.std.specs.Option.{option_and_then}
use Rattle.ir_tree.specs.declared.module.NamedTy.{NamedTy}
use Rattle.ir_layout.specs.declared.sizes.Layout.{Layout}
use Rattle.ir_layout.specs.Computed.{ty_layout}
use Rattle.ir_layout.specs.Tables.{type_of_number}

-- what is given for so many numbers, from some number on
abbrev pub given_from : (ℕ → Option Layout) → ℕ → ℕ → List (Option Layout)
given_from f at zero = []
given_from f at (suc count) = f at ∷ given_from f (at + 1) count

-- for so many names, the layout of each in which named types nest so deep at most: that of the type that the name stands for, where they nest
-- one less deep
abbrev pub layouts_within : List NamedTy → ℕ → ℕ → List (Option Layout)
layouts_within ts count zero = given_from (λ id. None) 0 count
layouts_within ts count (suc depth) =
    given_from (λ id. option_and_then (ty_layout (layouts_within ts count depth)) (type_of_number ts id)) 0 count
