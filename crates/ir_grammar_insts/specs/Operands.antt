-- The parts that instructions are made of, and their readers:
--     val  = Local | const
--     pred = "eq"|"ne"|"ugt"|"uge"|"ult"|"ule"|"sgt"|"sge"|"slt"|"sle"
use Rattle.std.specs.Prelude.{ℕ, Bool, true, List, Option, None, Some}
use Rattle.grammar.specs.Language.{Lang, Mark, mark, one, skip, seq, map_to, or_else}
use Rattle.grammar.specs.Reader.{Reader, heads, run_one, run_skip, run_seq, run_map, run_or}
use Rattle.ir_tree.specs.Shape.{TyShape, ValShape, local, fixed, TyValShape}
use Rattle.ir_tree.specs.declared.module.Pred.{Pred}
use Rattle.ir_tree.specs.declared.module.Pred.TheVariants as preds
use Rattle.ir_words.specs.declared.words.Keyword.TheVariants.{Eq, Ne, Ugt, Uge, Ult, Ule, Sgt, Sge, Slt, Sle, Label, To}
use Rattle.ir_lex.specs.Symbols.{Symbol, KeywordSymbol, LocalSymbol, GlobalSymbol}
use Rattle.ir_cursor.specs.Marks.{punct}
use Rattle.ir_grammar_consts.specs.Types.{ty, run_ty}
use Rattle.ir_grammar_consts.specs.Constants.{const_head, const, run_const}

-- the name of a Local
abbrev pub local_name : Symbol → Option (List ℕ)
local_name (LocalSymbol name) = Some name
local_name _ = None

-- the name of a Global
abbrev pub global_name : Symbol → Option (List ℕ)
global_name (GlobalSymbol name) = Some name
global_name _ = None

-- `label`
abbrev pub label : Symbol → Option Mark
label (KeywordSymbol Label) = Some mark
label _ = None

-- `to`
abbrev pub into : Symbol → Option Mark
into (KeywordSymbol To) = Some mark
into _ = None

-- what `icmp` asks
abbrev pub asked : Symbol → Option Pred
asked (KeywordSymbol Eq) = Some preds.Eq
asked (KeywordSymbol Ne) = Some preds.Ne
asked (KeywordSymbol Ugt) = Some preds.Ugt
asked (KeywordSymbol Uge) = Some preds.Uge
asked (KeywordSymbol Ult) = Some preds.Ult
asked (KeywordSymbol Ule) = Some preds.Ule
asked (KeywordSymbol Sgt) = Some preds.Sgt
asked (KeywordSymbol Sge) = Some preds.Sge
asked (KeywordSymbol Slt) = Some preds.Slt
asked (KeywordSymbol Sle) = Some preds.Sle
asked _ = None

-- pred
abbrev pub predicate : Lang Symbol Pred
predicate = one asked

-- val = Local | const
abbrev pub val : Lang Symbol ValShape
val = or_else (map_to local (one local_name)) (map_to fixed const)

-- what a value begins with
abbrev pub begins_val : Symbol → Bool
begins_val (LocalSymbol name) = true
begins_val t = heads const_head t

-- ty val
abbrev pub ty_val_of : TyShape × ValShape → TyValShape
ty_val_of v = record { ty = v.0; val = v.1 }

abbrev pub ty_val : Lang Symbol TyValShape
ty_val = map_to ty_val_of (seq ty val)

-- "," ty val
abbrev pub more_ty_val : Lang Symbol TyValShape
more_ty_val = skip (punct 44) ty_val

-- ty val "," val
abbrev pub TwoVals : Type 0
TwoVals = TyShape × (ValShape × ValShape)

abbrev pub two_vals : Lang Symbol TwoVals
two_vals = seq ty (seq val (skip (punct 44) val))

-- "label" Local
abbrev pub target : Lang Symbol (List ℕ)
target = skip label (one local_name)

-- the readers of these, of at most n symbols
abbrev pub run_val : ℕ → Reader Symbol ValShape
run_val n = run_or (heads local_name) (run_map local (run_one local_name)) (run_map fixed (run_const n))

abbrev pub run_ty_val : ℕ → Reader Symbol TyValShape
run_ty_val n = run_map ty_val_of (run_seq (run_ty n) (run_val n))

abbrev pub run_more_ty_val : ℕ → Reader Symbol TyValShape
run_more_ty_val n = run_skip (punct 44) (run_ty_val n)

abbrev pub run_two_vals : ℕ → Reader Symbol TwoVals
run_two_vals n = run_seq (run_ty n) (run_seq (run_val n) (run_skip (punct 44) (run_val n)))

abbrev pub run_target : Reader Symbol (List ℕ)
run_target = run_skip label (run_one local_name)
