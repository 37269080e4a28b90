-- The laws of the readers of instructions that compute from values.
use Rattle.std.proofs.Common.{◌≡◌, ℕ, true, false, refl}
use Rattle.grammar.specs.Language.{mark}
use Rattle.grammar.specs.Reader.{heads}
use Rattle.grammar.proofs.Good.{never, Good, Starts}
use Rattle.grammar.proofs.Sides.{starts_pick, starts_seq, joins_starts}
use Rattle.grammar.proofs.Laws.{good_one, good_next, good_map, good_seq, good_maybe}
use Rattle.grammar.proofs.Lists.{good_many}
use Rattle.ir_tree.specs.declared.module.Bin.{Bin}
use Rattle.ir_tree.specs.declared.module.Conv.{Conv}
use Rattle.ir_tree.specs.declared.module.Pred.TheVariants as preds
use Rattle.ir_words.specs.declared.words.Keyword.TheVariants.{Nuw, Nsw, Exact, Eq, To}
use Rattle.ir_lex.specs.Symbols.{Symbol, KeywordSymbol}
use Rattle.ir_grammar_consts.specs.Types.{ty_head}
use Rattle.ir_grammar_consts.proofs.TypeLaw.{starts_ty, good_ty}
use Rattle.ir_grammar_insts.specs.Operands.{asked, into}
use Rattle.ir_grammar_insts.specs.Arithmetic.{wrap_flag, exact, wrapping, exactly, wrap_flags, exact_flag, wrapping_binary, exact_binary, plain_binary, icmp, select, converted, extend, trunc, freeze, run_wrap_flags, run_exact_flag, run_wrapping_binary, run_exact_binary, run_plain_binary, run_icmp, run_select, run_converted, run_extend, run_trunc, run_freeze}
use Rattle.ir_grammar_insts.proofs.OperandLaw.{good_before, good_val, good_ty_val, good_more_ty_val, good_two_vals, starts_two_vals}

pub good_wrap_flags : (n : ℕ) → Good n wrap_flags (run_wrap_flags n) (heads wrap_flag)
good_wrap_flags n =
    good_map wrapping (good_many n (starts_pick wrap_flag _) (λ t h. refl) (λ t h. refl) (λ t h. h)
    (good_one n wrap_flag (KeywordSymbol Nuw) true never refl))

pub good_exact_flag : (n : ℕ) → Good n exact_flag run_exact_flag (heads exact)
good_exact_flag n = good_map exactly (good_maybe (heads exact) (starts_pick exact _) (λ t h. h) (good_one n exact (KeywordSymbol Exact) mark (heads exact) refl))

-- no type begins with a flag
ty_unwrapped : (t : Symbol) → heads ty_head t ≡ true → heads wrap_flag t ≡ false
ty_unwrapped (KeywordSymbol Nuw) h = cc
ty_unwrapped (KeywordSymbol Nsw) h = cc
ty_unwrapped _ h = refl

ty_inexact : (t : Symbol) → heads ty_head t ≡ true → heads exact t ≡ false
ty_inexact (KeywordSymbol Exact) h = cc
ty_inexact _ h = refl

pub good_wrapping_binary : (n : ℕ) (operation : Bin) → Good n (wrapping_binary operation) (run_wrapping_binary n operation) never
good_wrapping_binary n operation = good_map _ (good_seq (joins_starts starts_two_vals ty_unwrapped) (good_wrap_flags n) (good_two_vals n))

pub good_exact_binary : (n : ℕ) (operation : Bin) → Good n (exact_binary operation) (run_exact_binary n operation) never
good_exact_binary n operation = good_map _ (good_seq (joins_starts starts_two_vals ty_inexact) (good_exact_flag n) (good_two_vals n))

pub good_plain_binary : (n : ℕ) (operation : Bin) → Good n (plain_binary operation) (run_plain_binary n operation) never
good_plain_binary n operation = good_map _ (good_two_vals n)

pub good_icmp : (n : ℕ) → Good n icmp (run_icmp n) never
good_icmp n = good_map _ (good_before (good_one n asked (KeywordSymbol Eq) preds.Eq never refl) (good_two_vals n))

pub good_select : (n : ℕ) → Good n select (run_select n) never
good_select n = good_map _ (good_before (good_ty_val n) (good_before (good_more_ty_val n) (good_more_ty_val n)))

pub good_converted : (n : ℕ) → Good n converted (run_converted n) never
good_converted n = good_before (good_ty n) (good_before (good_val n) (good_next into (KeywordSymbol To) mark refl (λ _. good_ty n)))

starts_converted : Starts (heads ty_head) converted
starts_converted = starts_seq _ starts_ty

pub good_extend : (n : ℕ) (conversion : Conv) → Good n (extend conversion) (run_extend n conversion) never
good_extend n conversion = good_map _ (good_converted n)

pub good_trunc : (n : ℕ) → Good n trunc (run_trunc n) never
good_trunc n = good_map _ (good_seq (joins_starts starts_converted ty_unwrapped) (good_wrap_flags n) (good_converted n))

pub good_freeze : (n : ℕ) → Good n freeze (run_freeze n) never
good_freeze n = good_map _ (good_before (good_ty n) (good_val n))
