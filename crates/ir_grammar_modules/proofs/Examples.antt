-- Examples: what the reader answers at short modules, each with its text; `Wrong` has the list from the first wrong symbol on.
use Rattle.std.proofs.Common.{◌≡◌, false, true, [], ◌∷◌, Some, None, refl, pos}
use Rattle.std.specs.Fmt.{decimal}
use Rattle.grammar.specs.Reader.{Got, Wrong, run_recursive, run_many, run_until, run_items}
use Rattle.ir_tree.specs.Shape.{integer, pointer, void, number, return_void}
use Rattle.ir_words.specs.Digits.{is_digit}
use Rattle.ir_words.specs.declared.words.Keyword.TheVariants.{Global, Constant, Define, Integer, Void, Phi, Freeze, Ret}
use Rattle.ir_lex.specs.Symbols.{KeywordSymbol, LocalSymbol, GlobalSymbol, LabelSymbol, NumberSymbol, MarkSymbol}
use Rattle.ir_grammar_modules.specs.Blocks.{run_lines}
use Rattle.ir_grammar_modules.specs.Items.{first_name}
use Rattle.ir_grammar_modules.specs.Modules.{run_module}

-- (i32, ptr %a, i32 %7, i8 %""): the first and the third are counted
counted : first_name (record { ty = integer 32; name = None } ∷ record { ty = pointer; name = Some (97 ∷ []) } ∷ record { ty = integer 32; name = Some (55 ∷ []) } ∷ record { ty = integer 8; name = Some [] } ∷ []) None ≡ decimal 2
unfolding is_digit
counted = refl

-- @a = global i8 5 @b = constant i8 6
two_globals : run_module 30 (GlobalSymbol (97 ∷ []) ∷ MarkSymbol 61 ∷ KeywordSymbol Global ∷ KeywordSymbol (Integer 8) ∷ NumberSymbol (pos 5) ∷ GlobalSymbol (98 ∷ []) ∷ MarkSymbol 61 ∷ KeywordSymbol Constant ∷ KeywordSymbol (Integer 8) ∷ NumberSymbol (pos 6) ∷ []) ≡ Got (record { types = []; globals = record { name = 97 ∷ []; constant = false; ty = integer 8; init = number (pos 5) } ∷ record { name = 98 ∷ []; constant = true; ty = integer 8; init = number (pos 6) } ∷ []; declares = []; functions = [] }) []
unfolding run_recursive run_many run_until run_items
two_globals = refl

-- %x = freeze i8 5 %y = phi
phi_too_late : run_lines 30 (LocalSymbol (120 ∷ []) ∷ MarkSymbol 61 ∷ KeywordSymbol Freeze ∷ KeywordSymbol (Integer 8) ∷ NumberSymbol (pos 5) ∷ LocalSymbol (121 ∷ []) ∷ MarkSymbol 61 ∷ KeywordSymbol Phi ∷ []) ≡ Wrong (KeywordSymbol Phi ∷ [])
unfolding run_recursive run_many run_until run_items run_lines
phi_too_late = refl

-- define void @f() { ret void a: ret void }
two_blocks : run_module 30 (KeywordSymbol Define ∷ KeywordSymbol Void ∷ GlobalSymbol (102 ∷ []) ∷ MarkSymbol 40 ∷ MarkSymbol 41 ∷ MarkSymbol 123 ∷ KeywordSymbol Ret ∷ KeywordSymbol Void ∷ LabelSymbol (97 ∷ []) ∷ KeywordSymbol Ret ∷ KeywordSymbol Void ∷ MarkSymbol 125 ∷ []) ≡ Got (record { types = []; globals = []; declares = []; functions = record { name = 102 ∷ []; ret = void; params = []; blocks = record { name = decimal 0; insts = record { result = None; body = return_void } ∷ [] } ∷ record { name = 97 ∷ []; insts = record { result = None; body = return_void } ∷ [] } ∷ [] } ∷ [] }) []
unfolding run_recursive run_many run_until run_items run_lines
two_blocks = refl

-- define void @f() { ret void ret void }
label_missing : run_module 30 (KeywordSymbol Define ∷ KeywordSymbol Void ∷ GlobalSymbol (102 ∷ []) ∷ MarkSymbol 40 ∷ MarkSymbol 41 ∷ MarkSymbol 123 ∷ KeywordSymbol Ret ∷ KeywordSymbol Void ∷ KeywordSymbol Ret ∷ KeywordSymbol Void ∷ MarkSymbol 125 ∷ []) ≡ Wrong (KeywordSymbol Ret ∷ KeywordSymbol Void ∷ MarkSymbol 125 ∷ [])
unfolding run_recursive run_many run_until run_items run_lines
label_missing = refl
