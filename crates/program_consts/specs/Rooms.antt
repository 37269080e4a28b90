-- The sizes of the blocks of memory that are there at the start.
use Rattle.std.specs.Prelude.{◌≡◌, ℕ, List, ◌∷◌, map, length, Some, slice_get}
use Rattle.ir_tree.specs.Shape.{GlobalShape, ModuleShape}
use Rattle.ir_tree.specs.ShapeOf.{module_shape}
use Rattle.ir_tree.specs.declared.module.Module.{Module}
use Rattle.ir_layout.specs.Rules.{IsSized}
use Rattle.ir_model.specs.Values.{MemoryBlock}
use Rattle.ir_program.specs.Sizes.{ty_size}

-- each global's type has a layout
abbrev pub AreGlobalsSized : Module → Type 0
AreGlobalsSized m = (k : ℕ) (g : GlobalShape) → slice_get (module_shape m).globals k ≡ Some g → IsSized (module_shape m).types g.ty

-- the sizes of null's block, which is empty, and of a block for each global
abbrev pub block_sizes : ModuleShape → List ℕ
block_sizes m = 0 ∷ map (λ g. ty_size m.types g.ty) m.globals

-- these are the sizes of the blocks of memory
abbrev pub AreSizesOf : List MemoryBlock → List ℕ → Type 0
AreSizesOf memory sizes = sizes ≡ map (λ b. length b.cells) memory
