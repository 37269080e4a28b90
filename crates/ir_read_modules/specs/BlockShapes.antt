-- Blocks as the code reads them, under a table of names.
use Rattle.std.specs.Prelude.{ℕ, Bool, ◌&&◌, List, map, option_map}
use Rattle.std.specs.List.{list_all}
use Rattle.ir_tree.specs.Shape.{InstShape, BlockShape}
use Rattle.ir_tree.specs.ShapeOf.{name_shape, inst_shape, block_shape}
use Rattle.ir_tree.specs.Known.{result_known, inst_known, block_known}
use Rattle.ir_grammar_modules.specs.Blocks.{FirstBlock}
use Rattle.ir_read_modules.specs.declared.blocks.Lines.{Lines}
use Rattle.ir_read_modules.specs.declared.blocks.LabelledBlock.{LabelledBlock}
use Rattle.ir_read_modules.specs.declared.blocks.EntryBlock.{EntryBlock}

abbrev pub lines_shape : List (List ℕ) → Lines → List InstShape
lines_shape names x = map (inst_shape names) x.insts.items

abbrev pub lines_known : ℕ → Lines → Bool
lines_known count x = list_all (inst_known count) x.insts.items

abbrev pub labelled_shape : List (List ℕ) → LabelledBlock → BlockShape
labelled_shape names x = block_shape names x.block

abbrev pub labelled_known : ℕ → LabelledBlock → Bool
labelled_known count x = block_known count x.block

abbrev pub entry_shape : List (List ℕ) → EntryBlock → FirstBlock
entry_shape names x = (option_map (name_shape names) x.label, lines_shape names x.lines)

abbrev pub entry_known : ℕ → EntryBlock → Bool
entry_known count x = result_known count x.label && lines_known count x.lines
