-- Functions as the code reads them, under a table of names.
use Rattle.std.specs.Prelude.{ℕ, Bool, List, map}
use Rattle.std.specs.List.{list_all}
use Rattle.ir_tree.specs.Shape.{BlockShape, FunctionShape}
use Rattle.ir_tree.specs.ShapeOf.{block_shape, function_shape}
use Rattle.ir_tree.specs.Known.{block_known, function_known}
use Rattle.ir_grammar_modules.specs.Items.{ItemShape, function_item}
use Rattle.ir_parse.specs.declared.functions.Blocks.{Blocks}
use Rattle.ir_parse.specs.declared.functions.SpottedFunction.{SpottedFunction}

abbrev pub blocks_shape : List (List ℕ) → Blocks → List BlockShape
blocks_shape names x = map (block_shape names) x.blocks.items

abbrev pub blocks_known : ℕ → Blocks → Bool
blocks_known count x = list_all (block_known count) x.blocks.items

abbrev pub block_spots : Blocks → List (List ℕ)
block_spots x = map (λ v. v.items) x.spots.items

abbrev pub function_of_shape : List (List ℕ) → SpottedFunction → FunctionShape
function_of_shape names x = function_shape names x.function

abbrev pub spotted_function_shape : List (List ℕ) → SpottedFunction → ItemShape
spotted_function_shape names x = function_item (function_shape names x.function)

abbrev pub spotted_function_known : ℕ → SpottedFunction → Bool
spotted_function_known count x = function_known count x.function
