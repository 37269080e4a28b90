-- The grammar of modules, and its reader:
--     module = { item }
use Rattle.std.specs.Prelude.{ℕ, Bool, true, false, List, [], ◌∷◌}
use Rattle.grammar.specs.Language.{Lang, map_to, many}
use Rattle.grammar.specs.Reader.{Reader, run_map, run_many}
use Rattle.ir_tree.specs.Shape.{ModuleShape}
use Rattle.ir_words.specs.declared.words.Keyword.TheVariants.{Declare, Define}
use Rattle.ir_lex.specs.Symbols.{Symbol, KeywordSymbol, LocalSymbol, GlobalSymbol}
use Rattle.ir_grammar_modules.specs.Items.{ItemShape, type_item, global_item, declare_item, function_item, item, run_item}

-- an item before those of a module
abbrev pub with_item : ItemShape → ModuleShape → ModuleShape
with_item (type_item v) m = record { types = v ∷ m.types; globals = m.globals; declares = m.declares; functions = m.functions }
with_item (global_item v) m = record { types = m.types; globals = v ∷ m.globals; declares = m.declares; functions = m.functions }
with_item (declare_item v) m = record { types = m.types; globals = m.globals; declares = v ∷ m.declares; functions = m.functions }
with_item (function_item v) m = record { types = m.types; globals = m.globals; declares = m.declares; functions = v ∷ m.functions }

-- each kind of item in text order
abbrev pub module_of : List ItemShape → ModuleShape
module_of [] = record { types = []; globals = []; declares = []; functions = [] }
module_of (v ∷ vs) = with_item v (module_of vs)

-- which symbols spell which modules
abbrev pub whole_module : Lang Symbol ModuleShape
whole_module = map_to module_of (many item)

-- what an item begins with
abbrev pub begins_item : Symbol → Bool
begins_item (LocalSymbol name) = true
begins_item (GlobalSymbol name) = true
begins_item (KeywordSymbol Declare) = true
begins_item (KeywordSymbol Define) = true
begins_item _ = false

-- the reader of modules, of at most n symbols
abbrev pub run_module : ℕ → Reader Symbol ModuleShape
run_module n = run_map module_of (run_many n begins_item (run_item n))
