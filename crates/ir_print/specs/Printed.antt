-- The printed form of a module: its spelling, line by line.
use Rattle.std.specs.Prelude.{ℕ, List, [], ◌∷◌, ◌++◌, map}
use Rattle.std.specs.List.{flat_map}
use Rattle.ir_tree.specs.Shape.{InstShape, BlockShape, FunctionShape, ModuleShape}
use Rattle.ir_words.specs.declared.words.Keyword.TheVariants.{Define}
use Rattle.ir_lex.specs.Symbols.{Symbol, KeywordSymbol, LabelSymbol, MarkSymbol}
use Rattle.ir_print_symbols.specs.Printed.{Line, text_of_lines}
use Rattle.ir_grammar_modules.specs.Spelling.{line_spelling, signature_spelling, type_spelling, global_spelling, declare_spelling}

-- a line without an indent
abbrev pub outer : List Symbol → Line
outer row = record { indent = []; row = row }

-- a phi, an instruction or a terminator, after two blanks
abbrev pub inner : InstShape → Line
inner v = record { indent = 32 ∷ 32 ∷ []; row = line_spelling v }

-- the label of a block, then its lines
abbrev pub block_lines : BlockShape → List Line
block_lines v = outer (LabelSymbol v.name ∷ []) ∷ map inner v.insts

-- `define`, the signature and `{`, then the blocks, and `}`
abbrev pub function_lines : FunctionShape → List Line
function_lines v =
    outer (KeywordSymbol Define ∷ (signature_spelling v.ret v.name v.params ++ MarkSymbol 123 ∷ [])) ∷ (flat_map block_lines v.blocks ++ outer (MarkSymbol 125 ∷ []) ∷ [])

-- named types, globals, declarations and functions, in this order
abbrev pub module_lines : ModuleShape → List Line
module_lines m =
    map (λ v. outer (type_spelling v)) m.types
    ++ (map (λ v. outer (global_spelling v)) m.globals ++ (map (λ v. outer (declare_spelling v)) m.declares ++ flat_map function_lines m.functions))

-- the printed form of a module
abbrev pub module_text : ModuleShape → List ℕ
module_text m = text_of_lines (module_lines m)
