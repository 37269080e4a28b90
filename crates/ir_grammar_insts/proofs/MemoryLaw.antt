-- The laws of the readers of instructions that reach memory or call.
use Rattle.std.proofs.Common.{◌≡◌, ℕ, Bool, true, false, [], refl, pos}
use Rattle.grammar.specs.Language.{mark}
use Rattle.grammar.specs.Reader.{heads}
use Rattle.grammar.proofs.Good.{never, Good}
use Rattle.grammar.proofs.Sides.{starts_pick, starts_seq, joins_starts}
use Rattle.grammar.proofs.Laws.{good_one, good_next, good_map, good_seq, good_maybe}
use Rattle.grammar.proofs.Lists.{good_many, good_listed}
use Rattle.ir_words.specs.declared.words.Keyword.TheVariants.{InBounds, Nuw}
use Rattle.ir_lex.specs.Symbols.{Symbol, KeywordSymbol, GlobalSymbol, NumberSymbol, MarkSymbol, number_in}
use Rattle.ir_cursor.specs.Marks.{punct}
use Rattle.ir_grammar_consts.specs.Types.{ty_head}
use Rattle.ir_grammar_consts.specs.Constants.{address_flag, address_flags, run_address_flags}
use Rattle.ir_grammar_consts.proofs.Sides.{punct_apart}
use Rattle.ir_grammar_consts.proofs.TypeLaw.{starts_ty, good_ty}
use Rattle.ir_grammar_insts.specs.Operands.{global_name}
use Rattle.ir_grammar_insts.specs.Memory.{counted, alloca, load, store, get_element, call, run_counted, run_alloca, run_load, run_store, run_get_element, run_call}
use Rattle.ir_grammar_insts.proofs.OperandLaw.{good_before, good_comma, good_ty_val, starts_ty_val, good_more_ty_val}

good_counted : (n : ℕ) (s : Symbol → Bool) → Good n counted (run_counted n) s
good_counted n s = good_comma (good_before (good_ty n) (good_one n number_in (NumberSymbol (pos 0)) (pos 0) s refl))

pub good_alloca : (n : ℕ) → Good n alloca (run_alloca n) (heads (punct 44))
good_alloca n =
    good_map _ (good_before (good_ty n) (good_maybe (heads (punct 44)) (starts_pick (punct 44) _) (λ t h. h) (good_counted n (heads (punct 44)))))

pub good_load : (n : ℕ) → Good n load (run_load n) never
good_load n = good_map _ (good_before (good_ty n) (good_more_ty_val n))

pub good_store : (n : ℕ) → Good n store (run_store n) never
good_store n = good_map _ (good_before (good_ty_val n) (good_more_ty_val n))

-- no type begins with a flag
ty_flagless : (t : Symbol) → heads ty_head t ≡ true → heads address_flag t ≡ false
ty_flagless (KeywordSymbol InBounds) h = cc
ty_flagless (KeywordSymbol Nuw) h = cc
ty_flagless _ h = refl

good_flags : (n : ℕ) → Good n address_flags (run_address_flags n) (heads address_flag)
good_flags n =
    good_map _ (good_many n (starts_pick address_flag _) (λ t h. refl) (λ t h. refl) (λ t h. h)
    (good_one n address_flag (KeywordSymbol Nuw) false never refl))

pub good_get_element : (n : ℕ) → Good n get_element (run_get_element n) (heads (punct 44))
good_get_element n =
    good_map _ (good_seq (joins_starts (starts_seq _ starts_ty) ty_flagless) (good_flags n)
    (good_before (good_ty n) (good_before (good_more_ty_val n)
    (good_many n (starts_pick (punct 44) _) (λ t h. refl) (λ t h. refl) (λ t h. h) (good_more_ty_val n)))))

pub good_call : (n : ℕ) → Good n call (run_call n) never
good_call n =
    good_map _ (good_before (good_ty n) (good_before (good_one n global_name (GlobalSymbol []) [] never refl)
    (good_next (punct 40) (MarkSymbol 40) mark refl
    (λ _. good_listed n (punct 44) (punct 41) (MarkSymbol 44) mark (MarkSymbol 41) mark never refl refl starts_ty_val
    (punct_apart ty_head 41 refl) (punct_apart (punct 44) 41 refl) (λ t h. refl) (λ t h. refl) (good_ty_val n)))))
