-- What a global adds to the bytes of all globals.
use Rattle.std.specs.Prelude.{◌≡◌, ℕ, List}
use Rattle.ir_tree.specs.Shape.{GlobalShape, NamedTyShape}
use Rattle.ir_layout.specs.declared.sizes.Layout.{Layout}
use Rattle.ir_layout.specs.Layout.{next_multiple}
use Rattle.ir_layout.specs.Rules.{HasLayout}

-- the bytes that a global takes: its size, rounded up to a multiple of 16
abbrev pub GlobalTakes : List NamedTyShape → GlobalShape → ℕ → Type 0
GlobalTakes ts g n = (l : Layout) × HasLayout ts g.ty l × (n ≡ next_multiple 16 l.size)
