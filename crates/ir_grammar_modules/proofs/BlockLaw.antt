-- The laws of the readers of blocks.
use Rattle.std.proofs.Common.{◌≡◌, ℕ, zero, suc, Bool, true, false, ◌||◌, List, [], ◌∷◌, refl, inr}
use Rattle.grammar.specs.Language.{Lang}
use Rattle.grammar.specs.Reader.{Reader, heads}
use Rattle.grammar.proofs.Good.{never, Good, Starts}
use Rattle.grammar.proofs.Sides.{starts_pick, starts_map, starts_seq, starts_or, starts_more, starts_maybe, starts_many, joins_starts}
use Rattle.grammar.proofs.Laws.{good_one, good_map, good_seq, good_then, good_maybe, good_or, good_closed, good_same, good_none}
use Rattle.grammar.proofs.Lists.{good_many}
use Rattle.ir_tree.specs.Shape.{InstShape, unreachable}
use Rattle.ir_words.specs.declared.words.Keyword.TheVariants.{Phi, Unreachable}
use Rattle.ir_lex.specs.Symbols.{Symbol, KeywordSymbol, LocalSymbol, LabelSymbol, MarkSymbol}
use Rattle.ir_cursor.specs.Marks.{punct}
use Rattle.ir_grammar_consts.proofs.TypeLaw.{good_closed_by}
use Rattle.ir_grammar_insts.specs.Operands.{local_name, begins_val}
use Rattle.ir_grammar_insts.specs.Instructions.{phi_word, phi, inst_head, inst}
use Rattle.ir_grammar_insts.specs.Terminators.{term_head}
use Rattle.ir_grammar_insts.specs.declared.heads.TermHead.TheVariants.{UnreachableWord}
use Rattle.ir_grammar_insts.proofs.OperandLaw.{good_before, good_name}
use Rattle.ir_grammar_insts.proofs.InstLaw.{good_phi, good_inst}
use Rattle.ir_grammar_insts.proofs.TermLaw.{good_term}
use Rattle.ir_grammar_modules.specs.Blocks.{label_name, result, line_of, inst_line, last_of, last_line, after_phis, lines, block_of, block, first_block, line_word, told_lines, run_result, begins_inst, run_inst_line, run_last_line, run_after_phis, begins_word, run_line_word, run_told_lines, run_lines, run_block, run_first_block}
use Rattle.ir_grammar_modules.proofs.LinesToldApart.{lines_in, lines_out}

good_result : (n : ℕ) → Good n result run_result never
good_result n = good_closed_by 61 refl (good_name n never)

pub starts_result : Starts (heads local_name) result
starts_result = starts_map _ (starts_seq _ (starts_pick local_name _))

-- what instructions, phis and terminators begin with

named_inst : (t : Symbol) → heads local_name t ≡ true → begins_inst t ≡ true
named_inst (LocalSymbol name) h = refl
named_inst _ h = cc

bare_inst : (t : Symbol) → heads inst_head t ≡ true → begins_inst t ≡ true
bare_inst (LocalSymbol name) h = refl
bare_inst _ h = h

pub starts_phi : Starts (heads phi_word) phi
starts_phi = starts_pick phi_word _

starts_inst : Starts (heads inst_head) inst
starts_inst = starts_pick inst_head _

pub starts_inst_line : Starts begins_inst inst_line
starts_inst_line =
    starts_map line_of (starts_maybe (starts_more begins_inst named_inst starts_result) (starts_more begins_inst bare_inst starts_inst))

starts_last : Starts (heads term_head) last_line
starts_last = starts_map last_of (starts_pick term_head _)

-- no instruction begins with a Local
inst_unnamed : (t : Symbol) → heads inst_head t ≡ true → heads local_name t ≡ false
inst_unnamed (LocalSymbol name) h = cc
inst_unnamed _ h = refl

good_inst_line : (n : ℕ) → Good n inst_line (run_inst_line n) (heads (punct 44))
good_inst_line n =
    good_map line_of (good_seq (joins_starts starts_inst inst_unnamed)
    (good_maybe (heads local_name) starts_result (λ t h. h) (good_closed (heads local_name) (good_result n))) (good_inst n))

-- what goes on with a list of instructions
abbrev goes_on : Symbol → Bool
goes_on t = begins_inst t || heads (punct 44) t

or_left : (x y : Bool) → (x || y) ≡ false → x ≡ false
or_left true y h = cc
or_left false y h = refl

or_right : (x y : Bool) → (x || y) ≡ false → y ≡ false
or_right true y h = cc
or_right false y h = h

no_comma : (t : Symbol) → begins_inst t ≡ true → heads (punct 44) t ≡ false
no_comma (MarkSymbol b) h = cc
no_comma _ h = refl

term_ends : (t : Symbol) → heads term_head t ≡ true → goes_on t ≡ false
term_ends (KeywordSymbol Unreachable) h = refl
term_ends _ h = cc

good_last : (n : ℕ) → Good n last_line (run_last_line n) begins_val
good_last n = good_map last_of (good_term n)

good_after : (n : ℕ) → Good n after_phis (run_after_phis n) begins_val
good_after n =
    good_map _ (good_seq {sa = goes_on} (joins_starts starts_last term_ends)
    (good_many n starts_inst_line no_comma (λ t h. or_right (begins_inst t) _ h) (λ t h. or_left (begins_inst t) _ h) (good_inst_line n)) (good_last n))

-- the lines of a block

begins_line_word : (t : Symbol) → heads phi_word t ≡ true → begins_word t ≡ true
begins_line_word (KeywordSymbol Phi) h = refl
begins_line_word _ h = cc

or_true : (x y : Bool) → y ≡ true → (x || y) ≡ true
or_true true y h = refl
or_true false y h = h

starts_word : (more : Lang Symbol (List InstShape)) → Starts begins_word (line_word more)
starts_word more =
    starts_or (starts_seq _ (starts_more begins_word begins_line_word starts_phi))
    (starts_seq _ (starts_more begins_word (λ t h. or_true (heads phi_word t) _ h) starts_inst))

-- what lines begin with
abbrev begins_line : Symbol → Bool
begins_line (LocalSymbol name) = true
begins_line t = begins_word t || heads term_head t

named_line : (t : Symbol) → heads local_name t ≡ true → begins_line t ≡ true
named_line (LocalSymbol name) h = refl
named_line _ h = cc

or_first : (x y : Bool) → x ≡ true → (x || y) ≡ true
or_first true y h = refl
or_first false y h = cc

word_line : (t : Symbol) → begins_word t ≡ true → begins_line t ≡ true
word_line (LocalSymbol name) h = refl
word_line t h = or_first (begins_word t) (heads term_head t) h

term_line : (t : Symbol) → heads term_head t ≡ true → begins_line t ≡ true
term_line (LocalSymbol name) h = refl
term_line t h = or_true (begins_word t) (heads term_head t) h

starts_told : (more : Lang Symbol (List InstShape)) → Starts begins_line (told_lines more)
starts_told more =
    starts_or (starts_map _ (starts_seq _ (starts_more begins_line named_line starts_result)))
    (starts_or (starts_map _ (starts_more begins_line word_line (starts_word more))) (starts_more begins_line term_line starts_last))

pub starts_lines : Starts begins_line lines
starts_lines = record { at = λ ts v word. (starts_told lines).at ts v (lines_out ts v word) }

-- no line begins with a comma, with a Label or with `}`
line_no_comma : (t : Symbol) → begins_line t ≡ true → heads (punct 44) t ≡ false
line_no_comma (MarkSymbol b) h = cc
line_no_comma _ h = refl

line_no_label : (t : Symbol) → begins_line t ≡ true → heads label_name t ≡ false
line_no_label (LabelSymbol name) h = cc
line_no_label _ h = refl

inst_no_phi : (t : Symbol) → heads inst_head t ≡ true → heads phi_word t ≡ false
inst_no_phi (KeywordSymbol Phi) h = cc
inst_no_phi _ h = refl

term_no_word : (t : Symbol) → heads term_head t ≡ true → begins_word t ≡ false
term_no_word (KeywordSymbol Unreachable) h = refl
term_no_word _ h = cc

starts_after : Starts begins_line after_phis
starts_after = starts_map _ (starts_many (starts_more begins_line inst_line_begins starts_inst_line) (starts_more begins_line term_line starts_last))
  where
    inst_line_begins : (t : Symbol) → begins_inst t ≡ true → begins_line t ≡ true
    inst_line_begins (LocalSymbol name) h = refl
    inst_line_begins t h = or_first (begins_word t) (heads term_head t) (or_true (heads phi_word t) (heads inst_head t) h)

good_word : (n : ℕ) (r : Reader Symbol (List InstShape)) → Good n lines r begins_val → Good (suc n) (line_word lines) (run_line_word (suc n) r) begins_val
good_word n r g =
    good_or (heads phi_word) (starts_seq _ starts_phi) (joins_starts (starts_seq _ starts_inst) inst_no_phi)
    (good_then (heads phi_word) starts_phi (joins_starts starts_lines line_no_comma) (good_phi (suc n)) g)
    (good_seq (joins_starts starts_after line_no_comma) (good_inst (suc n)) (good_after (suc n)))

good_told : (n : ℕ) (r : Reader Symbol (List InstShape)) → Good n lines r begins_val → Good (suc n) (told_lines lines) (run_told_lines (suc n) r) begins_val
good_told n r g =
    good_or (heads local_name) (starts_map _ (starts_seq _ starts_result))
    (joins_starts (starts_or (starts_map _ (starts_more begins_rest word_rest (starts_word lines))) (starts_more begins_rest term_rest starts_last)) rest_unnamed)
    (good_map _ (good_before (good_result (suc n)) (good_word n r g)))
    (good_or begins_word (starts_map _ (starts_word lines)) (joins_starts starts_last term_no_word) (good_map _ (good_word n r g)) (good_last (suc n)))
  where
    begins_rest : Symbol → Bool
    begins_rest t = begins_word t || heads term_head t

    word_rest : (t : Symbol) → begins_word t ≡ true → begins_rest t ≡ true
    word_rest t h = or_first (begins_word t) (heads term_head t) h

    term_rest : (t : Symbol) → heads term_head t ≡ true → begins_rest t ≡ true
    term_rest t h = or_true (begins_word t) (heads term_head t) h

    rest_unnamed : (t : Symbol) → begins_rest t ≡ true → heads local_name t ≡ false
    rest_unnamed (LocalSymbol name) h = cc
    rest_unnamed _ h = refl

unreachable_line : lines (KeywordSymbol Unreachable ∷ []) (last_of unreachable)
unreachable_line = lines_in _ _ (inr (inr (unreachable, (KeywordSymbol Unreachable, [], UnreachableWord, refl, refl, (refl, refl)), refl)))

pub good_lines : (n : ℕ) → Good n lines (run_lines n) begins_val
unfolding run_lines
good_lines zero = good_none begins_line begins_val (KeywordSymbol Unreachable ∷ []) (last_of unreachable) unreachable_line starts_lines
good_lines (suc n) = good_same (record { at = lines_in }) (record { at = lines_out }) (good_told n (run_lines n) (good_lines n))

-- blocks

pub good_block : (n : ℕ) → Good n block (run_block n) begins_val
good_block n = good_map block_of (good_before (good_one n label_name (LabelSymbol []) [] never refl) (good_lines n))

pub starts_block : Starts (heads label_name) block
starts_block = starts_map block_of (starts_seq lines (starts_pick label_name _))

pub good_first_block : (n : ℕ) → Good n first_block (run_first_block n) begins_val
good_first_block n =
    good_seq (joins_starts starts_lines line_no_label)
    (good_maybe (heads label_name) (starts_pick label_name _) (λ t h. h) (good_one n label_name (LabelSymbol []) [] (heads label_name) refl)) (good_lines n)
