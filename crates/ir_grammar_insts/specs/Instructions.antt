-- The grammar of phis and of instructions, and its readers: a word, and what follows it.
--     phi  = "phi" ty "[" val "," Local "]" { "," "[" val "," Local "]" }
--     inst = ("add"|"sub"|"mul"|"shl") { "nuw"|"nsw" } ty val "," val
--          | ("udiv"|"sdiv"|"lshr"|"ashr") [ "exact" ] ty val "," val
--          | ("urem"|"srem"|"and"|"or"|"xor") ty val "," val
--          | "icmp" pred ty val "," val
--          | "select" ty val "," ty val "," ty val
--          | ("zext"|"sext") ty val "to" ty
--          | "trunc" { "nuw"|"nsw" } ty val "to" ty
--          | "freeze" ty val
--          | "alloca" ty [ "," ty Int ]
--          | "load" ty "," ty val
--          | "store" ty val "," ty val
--          | "getelementptr" { "inbounds"|"nuw" } ty "," ty val { "," ty val }
--          | "call" ty Global "(" [ ty val { "," ty val } ] ")"
use Rattle.std.specs.Prelude.{ℕ, List, Option, None, Some}
use Rattle.grammar.specs.Language.{Lang, Mark, mark, pick, one, skip, seq, map_to, cons, up_to, items}
use Rattle.grammar.specs.Reader.{Reader, heads, run_pick, run_one, run_skip, run_seq, run_map, run_many, run_up_to}
use Rattle.ir_tree.specs.Shape.{ValShape, PhiInShape, BodyShape}
use Rattle.ir_tree.specs.Shape as shape
use Rattle.ir_tree.specs.declared.module.Bin.TheVariants as bins
use Rattle.ir_tree.specs.declared.module.Conv.TheVariants as convs
use Rattle.ir_words.specs.declared.words.Keyword.TheVariants.{Phi, Add, Sub, Mul, Shl, Udiv, Sdiv, Lshr, Ashr, Urem, Srem, And, Or, Xor, Icmp, Select, Zext, Sext, Trunc, Freeze, Alloca, Load, Store, GetElementPtr, Call}
use Rattle.ir_lex.specs.Symbols.{Symbol, KeywordSymbol}
use Rattle.ir_cursor.specs.Marks.{punct}
use Rattle.ir_grammar_consts.specs.Types.{ty, run_ty}
use Rattle.ir_grammar_insts.specs.Operands.{local_name, val, run_val}
use Rattle.ir_grammar_insts.specs.Arithmetic.{wrapping_binary, exact_binary, plain_binary, icmp, select, extend, trunc, freeze, run_wrapping_binary, run_exact_binary, run_plain_binary, run_icmp, run_select, run_extend, run_trunc, run_freeze}
use Rattle.ir_grammar_insts.specs.Memory.{alloca, load, store, get_element, call, run_alloca, run_load, run_store, run_get_element, run_call}
use Rattle.ir_grammar_insts.specs.declared.heads.InstHead.{InstHead}
use Rattle.ir_grammar_insts.specs.declared.heads.InstHead.TheVariants.{WrappingWord, ExactWord, PlainWord, IcmpWord, SelectWord, ExtendWord, TruncWord, FreezeWord, AllocaWord, LoadWord, StoreWord, ElementWord, CallWord}

-- `phi`
abbrev pub phi_word : Symbol → Option Mark
phi_word (KeywordSymbol Phi) = Some mark
phi_word _ = None

-- "[" val "," Local "]"
abbrev pub phi_input_of : ValShape × List ℕ → PhiInShape
phi_input_of v = record { val = v.0; from = v.1 }

abbrev pub phi_input : Lang Symbol PhiInShape
phi_input = skip (punct 91) (up_to (punct 93) (map_to phi_input_of (seq val (skip (punct 44) (one local_name)))))

-- phi = "phi" ty "[" val "," Local "]" { "," "[" val "," Local "]" }
abbrev pub phi : Lang Symbol BodyShape
phi = skip phi_word (map_to (λ v. shape.phi v.0 v.1) (seq ty (items (punct 44) phi_input)))

abbrev pub inst_head : Symbol → Option InstHead
inst_head (KeywordSymbol Add) = Some (WrappingWord bins.Add)
inst_head (KeywordSymbol Sub) = Some (WrappingWord bins.Sub)
inst_head (KeywordSymbol Mul) = Some (WrappingWord bins.Mul)
inst_head (KeywordSymbol Shl) = Some (WrappingWord bins.Shl)
inst_head (KeywordSymbol Udiv) = Some (ExactWord bins.Udiv)
inst_head (KeywordSymbol Sdiv) = Some (ExactWord bins.Sdiv)
inst_head (KeywordSymbol Lshr) = Some (ExactWord bins.Lshr)
inst_head (KeywordSymbol Ashr) = Some (ExactWord bins.Ashr)
inst_head (KeywordSymbol Urem) = Some (PlainWord bins.Urem)
inst_head (KeywordSymbol Srem) = Some (PlainWord bins.Srem)
inst_head (KeywordSymbol And) = Some (PlainWord bins.And)
inst_head (KeywordSymbol Or) = Some (PlainWord bins.Or)
inst_head (KeywordSymbol Xor) = Some (PlainWord bins.Xor)
inst_head (KeywordSymbol Icmp) = Some IcmpWord
inst_head (KeywordSymbol Select) = Some SelectWord
inst_head (KeywordSymbol Zext) = Some (ExtendWord convs.Zext)
inst_head (KeywordSymbol Sext) = Some (ExtendWord convs.Sext)
inst_head (KeywordSymbol Trunc) = Some TruncWord
inst_head (KeywordSymbol Freeze) = Some FreezeWord
inst_head (KeywordSymbol Alloca) = Some AllocaWord
inst_head (KeywordSymbol Load) = Some LoadWord
inst_head (KeywordSymbol Store) = Some StoreWord
inst_head (KeywordSymbol GetElementPtr) = Some ElementWord
inst_head (KeywordSymbol Call) = Some CallWord
inst_head _ = None

-- what follows the word, by the lines of the rule
abbrev pub inst_rest : InstHead → Lang Symbol BodyShape
inst_rest (WrappingWord operation) = wrapping_binary operation
inst_rest (ExactWord operation) = exact_binary operation
inst_rest (PlainWord operation) = plain_binary operation
inst_rest IcmpWord = icmp
inst_rest SelectWord = select
inst_rest (ExtendWord conversion) = extend conversion
inst_rest TruncWord = trunc
inst_rest FreezeWord = freeze
inst_rest AllocaWord = alloca
inst_rest LoadWord = load
inst_rest StoreWord = store
inst_rest ElementWord = get_element
inst_rest CallWord = call

-- which symbols spell which instructions
abbrev pub inst : Lang Symbol BodyShape
inst = pick inst_head inst_rest

-- the readers of these, of at most n symbols
abbrev pub run_phi_input : ℕ → Reader Symbol PhiInShape
run_phi_input n = run_skip (punct 91) (run_up_to (punct 93) (run_map phi_input_of (run_seq (run_val n) (run_skip (punct 44) (run_one local_name)))))

abbrev pub run_phi_inputs : ℕ → Reader Symbol (List PhiInShape)
run_phi_inputs n = run_map cons (run_seq (run_phi_input n) (run_many n (heads (punct 44)) (run_skip (punct 44) (run_phi_input n))))

abbrev pub run_phi : ℕ → Reader Symbol BodyShape
run_phi n = run_skip phi_word (run_map (λ v. shape.phi v.0 v.1) (run_seq (run_ty n) (run_phi_inputs n)))

abbrev pub run_inst_rest : ℕ → InstHead → Reader Symbol BodyShape
run_inst_rest n (WrappingWord operation) = run_wrapping_binary n operation
run_inst_rest n (ExactWord operation) = run_exact_binary n operation
run_inst_rest n (PlainWord operation) = run_plain_binary n operation
run_inst_rest n IcmpWord = run_icmp n
run_inst_rest n SelectWord = run_select n
run_inst_rest n (ExtendWord conversion) = run_extend n conversion
run_inst_rest n TruncWord = run_trunc n
run_inst_rest n FreezeWord = run_freeze n
run_inst_rest n AllocaWord = run_alloca n
run_inst_rest n LoadWord = run_load n
run_inst_rest n StoreWord = run_store n
run_inst_rest n ElementWord = run_get_element n
run_inst_rest n CallWord = run_call n

abbrev pub run_inst : ℕ → Reader Symbol BodyShape
run_inst n = run_pick inst_head (run_inst_rest n)
