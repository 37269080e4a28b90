-- The laws of the readers of phis and of instructions.
use Rattle.std.proofs.Common.{ℕ, refl}
use Rattle.grammar.specs.Language.{mark}
use Rattle.grammar.specs.Reader.{heads}
use Rattle.grammar.proofs.Good.{never, Good}
use Rattle.grammar.proofs.Sides.{starts_pick}
use Rattle.grammar.proofs.Laws.{good_next, good_map, good_closed}
use Rattle.grammar.proofs.Lists.{good_many}
use Rattle.ir_words.specs.declared.words.Keyword.TheVariants.{Phi, Select}
use Rattle.ir_lex.specs.Symbols.{KeywordSymbol, MarkSymbol}
use Rattle.ir_cursor.specs.Marks.{punct}
use Rattle.ir_grammar_consts.proofs.TypeLaw.{good_ty, good_closed_by}
use Rattle.ir_grammar_insts.specs.Instructions.{phi_word, phi_input, phi, inst_head, inst_rest, inst, run_phi_input, run_phi, run_inst_rest, run_inst}
use Rattle.ir_grammar_insts.specs.declared.heads.InstHead.{InstHead}
use Rattle.ir_grammar_insts.specs.declared.heads.InstHead.TheVariants.{WrappingWord, ExactWord, PlainWord, IcmpWord, SelectWord, ExtendWord, TruncWord, FreezeWord, AllocaWord, LoadWord, StoreWord, ElementWord, CallWord}
use Rattle.ir_grammar_insts.proofs.OperandLaw.{good_before, good_comma, good_val, good_name}
use Rattle.ir_grammar_insts.proofs.ArithmeticLaw.{good_wrapping_binary, good_exact_binary, good_plain_binary, good_icmp, good_select, good_extend, good_trunc, good_freeze}
use Rattle.ir_grammar_insts.proofs.MemoryLaw.{good_alloca, good_load, good_store, good_get_element, good_call}

pub good_phi_input : (n : ℕ) → Good n phi_input (run_phi_input n) never
good_phi_input n =
    good_next (punct 91) (MarkSymbol 91) mark refl
    (λ _. good_closed_by 93 refl (good_map _ (good_before (good_val n) (good_comma (good_name n never)))))

-- a comma goes on with a phi
pub good_phi : (n : ℕ) → Good n phi (run_phi n) (heads (punct 44))
good_phi n =
    good_next phi_word (KeywordSymbol Phi) mark refl
    (λ _. good_map _ (good_before (good_ty n) (good_map _ (good_before (good_phi_input n)
    (good_many n (starts_pick (punct 44) _) (λ t h. refl) (λ t h. refl) (λ t h. h) (good_comma (good_phi_input n)))))))

rest_good : (n : ℕ) (head : InstHead) → Good n (inst_rest head) (run_inst_rest n head) (heads (punct 44))
rest_good n (WrappingWord operation) = good_closed _ (good_wrapping_binary n operation)
rest_good n (ExactWord operation) = good_closed _ (good_exact_binary n operation)
rest_good n (PlainWord operation) = good_closed _ (good_plain_binary n operation)
rest_good n IcmpWord = good_closed _ (good_icmp n)
rest_good n SelectWord = good_closed _ (good_select n)
rest_good n (ExtendWord conversion) = good_closed _ (good_extend n conversion)
rest_good n TruncWord = good_closed _ (good_trunc n)
rest_good n FreezeWord = good_closed _ (good_freeze n)
rest_good n AllocaWord = good_alloca n
rest_good n LoadWord = good_closed _ (good_load n)
rest_good n StoreWord = good_closed _ (good_store n)
rest_good n ElementWord = good_get_element n
rest_good n CallWord = good_closed _ (good_call n)

-- a comma goes on with an instruction
pub good_inst : (n : ℕ) → Good n inst (run_inst n) (heads (punct 44))
good_inst n = good_next inst_head (KeywordSymbol Select) SelectWord refl (rest_good n)
