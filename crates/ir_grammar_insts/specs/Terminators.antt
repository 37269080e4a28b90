-- The grammar of terminators, and its reader: a word, and what follows it.
--     term = "br" "label" Local
--          | "br" ty val "," "label" Local "," "label" Local
--          | "switch" ty val "," "label" Local "[" { ty Int "," "label" Local } "]"
--          | "ret" "void" | "ret" ty val | "unreachable"
use Rattle.std.specs.Prelude.{ℕ, ℤ, List, Option, None, Some}
use Rattle.grammar.specs.Language.{Lang, Mark, mark, empty, pick, one, skip, seq, map_to, or_else, until}
use Rattle.grammar.specs.Reader.{Reader, heads, run_empty, run_pick, run_one, run_skip, run_seq, run_map, run_maybe, run_or, run_until}
use Rattle.ir_tree.specs.Shape.{TyShape, void, ValShape, TyValShape, CaseShape, BodyShape, jump, branch, return_void, return_value, unreachable}
use Rattle.ir_tree.specs.Shape as shape
use Rattle.ir_words.specs.declared.words.Keyword.TheVariants.{Void, Br, Switch, Ret, Unreachable}
use Rattle.ir_lex.specs.Symbols.{Symbol, KeywordSymbol, number_in}
use Rattle.ir_cursor.specs.Marks.{punct}
use Rattle.ir_grammar_consts.specs.Types.{ty, run_ty}
use Rattle.ir_grammar_insts.specs.Operands.{label, ty_val, target, begins_val, run_val, run_ty_val, run_target}
use Rattle.ir_grammar_insts.specs.declared.heads.TermHead.{TermHead}
use Rattle.ir_grammar_insts.specs.declared.heads.TermHead.TheVariants.{BrWord, SwitchWord, RetWord, UnreachableWord}

-- `void`
abbrev pub void_word : Symbol → Option Mark
void_word (KeywordSymbol Void) = Some mark
void_word _ = None

-- "," "label" Local
abbrev pub more_target : Lang Symbol (List ℕ)
more_target = skip (punct 44) target

-- ty val "," "label" Local "," "label" Local
abbrev pub branch_of : TyValShape × (List ℕ × List ℕ) → BodyShape
branch_of v = branch v.0 v.1.0 v.1.1

abbrev pub two_ways : Lang Symbol BodyShape
two_ways = map_to branch_of (seq ty_val (seq more_target more_target))

-- ty Int "," "label" Local
abbrev pub case_of : TyShape × (ℤ × List ℕ) → CaseShape
case_of v = record { ty = v.0; value = v.1.0; to = v.1.1 }

abbrev pub switch_case : Lang Symbol CaseShape
switch_case = map_to case_of (seq ty (seq (one number_in) more_target))

-- ty val "," "label" Local "[" { ty Int "," "label" Local } "]"
abbrev pub switch_of : TyValShape × (List ℕ × List CaseShape) → BodyShape
switch_of v = shape.switch v.0 v.1.0 v.1.1

abbrev pub switch : Lang Symbol BodyShape
switch = map_to switch_of (seq ty_val (seq more_target (skip (punct 91) (until (punct 93) switch_case))))

abbrev pub term_head : Symbol → Option TermHead
term_head (KeywordSymbol Br) = Some BrWord
term_head (KeywordSymbol Switch) = Some SwitchWord
term_head (KeywordSymbol Ret) = Some RetWord
term_head (KeywordSymbol Unreachable) = Some UnreachableWord
term_head _ = None

-- what follows the word, by the lines of the rule
abbrev pub term_rest : TermHead → Lang Symbol BodyShape
term_rest BrWord = or_else (map_to jump target) two_ways
term_rest SwitchWord = switch
term_rest RetWord = or_else (skip void_word (empty return_void)) (map_to return_value ty_val)
term_rest UnreachableWord = empty unreachable

-- which symbols spell which terminators
abbrev pub term : Lang Symbol BodyShape
term = pick term_head term_rest

-- the words of terminators
abbrev pub br_word : Symbol → Option Mark
br_word (KeywordSymbol Br) = Some mark
br_word _ = None

abbrev pub switch_word : Symbol → Option Mark
switch_word (KeywordSymbol Switch) = Some mark
switch_word _ = None

abbrev pub ret_word : Symbol → Option Mark
ret_word (KeywordSymbol Ret) = Some mark
ret_word _ = None

abbrev pub unreachable_word : Symbol → Option Mark
unreachable_word (KeywordSymbol Unreachable) = Some mark
unreachable_word _ = None

-- the same rule as it is written: six lines, each with its own word
abbrev pub term_lines : Lang Symbol BodyShape
term_lines =
    or_else (skip br_word (map_to jump target))
    (or_else (skip br_word two_ways)
    (or_else (skip switch_word switch)
    (or_else (skip ret_word (skip void_word (empty return_void)))
    (or_else (skip ret_word (map_to return_value ty_val))
    (skip unreachable_word (empty unreachable))))))

-- the readers of these, of at most n symbols
abbrev pub run_more_target : Reader Symbol (List ℕ)
run_more_target = run_skip (punct 44) run_target

abbrev pub run_two_ways : ℕ → Reader Symbol BodyShape
run_two_ways n = run_map branch_of (run_seq (run_ty_val n) (run_seq run_more_target run_more_target))

abbrev pub run_switch_case : ℕ → Reader Symbol CaseShape
run_switch_case n = run_map case_of (run_seq (run_ty n) (run_seq (run_one number_in) run_more_target))

abbrev pub run_switch : ℕ → Reader Symbol BodyShape
run_switch n = run_map switch_of (run_seq (run_ty_val n) (run_seq run_more_target (run_skip (punct 91) (run_until n (punct 93) (run_switch_case n)))))

-- `void` is a type, so a value may follow it
abbrev pub return_of : Option ValShape → BodyShape
return_of None = return_void
return_of (Some v) = return_value (record { ty = void; val = v })

abbrev pub run_ret : ℕ → Reader Symbol BodyShape
run_ret n = run_or (heads void_word) (run_skip void_word (run_map return_of (run_maybe begins_val (run_val n)))) (run_map return_value (run_ty_val n))

abbrev pub run_term_rest : ℕ → TermHead → Reader Symbol BodyShape
run_term_rest n BrWord = run_or (heads label) (run_map jump run_target) (run_two_ways n)
run_term_rest n SwitchWord = run_switch n
run_term_rest n RetWord = run_ret n
run_term_rest n UnreachableWord = run_empty unreachable

abbrev pub run_term : ℕ → Reader Symbol BodyShape
run_term n = run_pick term_head (run_term_rest n)
