-- What follows the words of instructions that compute from values, and the readers of it:
--     ("add"|"sub"|"mul"|"shl") { "nuw"|"nsw" } ty val "," val
--     ("udiv"|"sdiv"|"lshr"|"ashr") [ "exact" ] ty val "," val
--     ("urem"|"srem"|"and"|"or"|"xor") ty val "," val
--     "icmp" pred ty val "," val
--     "select" ty val "," ty val "," ty val
--     ("zext"|"sext") ty val "to" ty
--     "trunc" { "nuw"|"nsw" } ty val "to" ty
--     "freeze" ty val
use Rattle.std.specs.Prelude.{ℕ, Bool, true, false, not, List, Option, None, Some, is_some}
use Rattle.std.specs.List.{list_any}
use Rattle.grammar.specs.Language.{Lang, Mark, mark, one, skip, seq, map_to, maybe, many}
use Rattle.grammar.specs.Reader.{Reader, heads, run_one, run_skip, run_seq, run_map, run_maybe, run_many}
use Rattle.ir_tree.specs.Shape.{TyShape, ValShape, BodyShape, TyValShape}
use Rattle.ir_tree.specs.Shape as shape
use Rattle.ir_tree.specs.declared.module.Bin.{Bin}
use Rattle.ir_tree.specs.declared.module.Flags.{Flags}
use Rattle.ir_tree.specs.declared.module.Pred.{Pred}
use Rattle.ir_tree.specs.declared.module.Conv.{Conv}
use Rattle.ir_tree.specs.declared.module.Conv.TheVariants as convs
use Rattle.ir_words.specs.declared.words.Keyword.TheVariants.{Nuw, Nsw, Exact}
use Rattle.ir_lex.specs.Symbols.{Symbol, KeywordSymbol}
use Rattle.ir_grammar_consts.specs.Types.{ty, run_ty}
use Rattle.ir_grammar_insts.specs.Operands.{predicate, asked, into, val, ty_val, more_ty_val, TwoVals, two_vals, run_val, run_ty_val, run_more_ty_val, run_two_vals}

-- `nuw` and `nsw`: whether it is `nuw`
abbrev pub wrap_flag : Symbol → Option Bool
wrap_flag (KeywordSymbol Nuw) = Some true
wrap_flag (KeywordSymbol Nsw) = Some false
wrap_flag _ = None

-- `exact`
abbrev pub exact : Symbol → Option Mark
exact (KeywordSymbol Exact) = Some mark
exact _ = None

-- the flags `nuw` and `nsw` that are among these, however often
abbrev pub wrapping : List Bool → Flags
wrapping v = record { nuw = list_any (λ b. b) v; nsw = list_any not v; exact = false }

-- the flag `exact`, or no flag
abbrev pub exactly : Option Mark → Flags
exactly v = record { nuw = false; nsw = false; exact = is_some v }

abbrev pub no_flags : Flags
no_flags = record { nuw = false; nsw = false; exact = false }

-- { "nuw"|"nsw" }
abbrev pub wrap_flags : Lang Symbol Flags
wrap_flags = map_to wrapping (many (one wrap_flag))

-- [ "exact" ]
abbrev pub exact_flag : Lang Symbol Flags
exact_flag = map_to exactly (maybe (one exact))

-- an operation with flags, a type and two operands
abbrev pub binary_of : Bin → Flags × TwoVals → BodyShape
binary_of operation v = shape.binary operation v.0 v.1.0 v.1.1.0 v.1.1.1

-- { "nuw"|"nsw" } ty val "," val
abbrev pub wrapping_binary : Bin → Lang Symbol BodyShape
wrapping_binary operation = map_to (binary_of operation) (seq wrap_flags two_vals)

-- [ "exact" ] ty val "," val
abbrev pub exact_binary : Bin → Lang Symbol BodyShape
exact_binary operation = map_to (binary_of operation) (seq exact_flag two_vals)

-- ty val "," val
abbrev pub plain_binary : Bin → Lang Symbol BodyShape
plain_binary operation = map_to (λ v. binary_of operation (no_flags, v)) two_vals

-- pred ty val "," val
abbrev pub icmp_of : Pred × TwoVals → BodyShape
icmp_of v = shape.icmp v.0 v.1.0 v.1.1.0 v.1.1.1

abbrev pub icmp : Lang Symbol BodyShape
icmp = map_to icmp_of (seq predicate two_vals)

-- ty val "," ty val "," ty val
abbrev pub select_of : TyValShape × (TyValShape × TyValShape) → BodyShape
select_of v = shape.select v.0 v.1.0 v.1.1

abbrev pub select : Lang Symbol BodyShape
select = map_to select_of (seq ty_val (seq more_ty_val more_ty_val))

-- ty val "to" ty
abbrev pub Converted : Type 0
Converted = TyShape × (ValShape × TyShape)

abbrev pub converted : Lang Symbol Converted
converted = seq ty (seq val (skip into ty))

abbrev pub convert_of : Conv → Converted → BodyShape
convert_of conversion v = shape.convert conversion v.0 v.1.0 v.1.1

abbrev pub extend : Conv → Lang Symbol BodyShape
extend conversion = map_to (convert_of conversion) converted

-- { "nuw"|"nsw" } ty val "to" ty; the flags are dropped
abbrev pub trunc : Lang Symbol BodyShape
trunc = map_to (λ v. convert_of convs.Trunc v.1) (seq wrap_flags converted)

-- ty val
abbrev pub freeze : Lang Symbol BodyShape
freeze = map_to (λ v. shape.freeze v.0 v.1) (seq ty val)

-- the readers of these, of at most n symbols
abbrev pub run_wrap_flags : ℕ → Reader Symbol Flags
run_wrap_flags n = run_map wrapping (run_many n (heads wrap_flag) (run_one wrap_flag))

abbrev pub run_exact_flag : Reader Symbol Flags
run_exact_flag = run_map exactly (run_maybe (heads exact) (run_one exact))

abbrev pub run_wrapping_binary : ℕ → Bin → Reader Symbol BodyShape
run_wrapping_binary n operation = run_map (binary_of operation) (run_seq (run_wrap_flags n) (run_two_vals n))

abbrev pub run_exact_binary : ℕ → Bin → Reader Symbol BodyShape
run_exact_binary n operation = run_map (binary_of operation) (run_seq run_exact_flag (run_two_vals n))

abbrev pub run_plain_binary : ℕ → Bin → Reader Symbol BodyShape
run_plain_binary n operation = run_map (λ v. binary_of operation (no_flags, v)) (run_two_vals n)

abbrev pub run_icmp : ℕ → Reader Symbol BodyShape
run_icmp n = run_map icmp_of (run_seq (run_one asked) (run_two_vals n))

abbrev pub run_select : ℕ → Reader Symbol BodyShape
run_select n = run_map select_of (run_seq (run_ty_val n) (run_seq (run_more_ty_val n) (run_more_ty_val n)))

abbrev pub run_converted : ℕ → Reader Symbol Converted
run_converted n = run_seq (run_ty n) (run_seq (run_val n) (run_skip into (run_ty n)))

abbrev pub run_extend : ℕ → Conv → Reader Symbol BodyShape
run_extend n conversion = run_map (convert_of conversion) (run_converted n)

abbrev pub run_trunc : ℕ → Reader Symbol BodyShape
run_trunc n = run_map (λ v. convert_of convs.Trunc v.1) (run_seq (run_wrap_flags n) (run_converted n))

abbrev pub run_freeze : ℕ → Reader Symbol BodyShape
run_freeze n = run_map (λ v. shape.freeze v.0 v.1) (run_seq (run_ty n) (run_val n))
