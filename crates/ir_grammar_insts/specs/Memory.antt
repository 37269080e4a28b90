-- What follows the words of instructions that reach memory or call, and the readers of it:
--     "alloca" ty [ "," ty Int ]
--     "load" ty "," ty val
--     "store" ty val "," ty val
--     "getelementptr" { "inbounds"|"nuw" } ty "," ty val { "," ty val }
--     "call" ty Global "(" [ ty val { "," ty val } ] ")"
use Rattle.std.specs.Prelude.{ℕ, ℤ, pos, Bool, List, Option, None, Some}
use Rattle.grammar.specs.Language.{Lang, one, skip, seq, map_to, maybe, many, listed}
use Rattle.grammar.specs.Reader.{Reader, heads, run_one, run_skip, run_seq, run_map, run_maybe, run_many, run_listed}
use Rattle.ir_tree.specs.Shape.{TyShape, ValShape, BodyShape, TyValShape, fixed, global}
use Rattle.ir_tree.specs.Shape as shape
use Rattle.ir_lex.specs.Symbols.{Symbol, number_in}
use Rattle.ir_cursor.specs.Marks.{punct}
use Rattle.ir_grammar_consts.specs.Types.{ty, run_ty}
use Rattle.ir_grammar_consts.specs.Constants.{address_flags, run_address_flags}
use Rattle.ir_grammar_insts.specs.Operands.{global_name, ty_val, more_ty_val, run_ty_val, run_more_ty_val}

-- how many there are, after a type that is dropped; one where nothing is said
abbrev pub count_of : Option (TyShape × ℤ) → ℤ
count_of None = pos 1
count_of (Some v) = v.1

-- "," ty Int
abbrev pub counted : Lang Symbol (TyShape × ℤ)
counted = skip (punct 44) (seq ty (one number_in))

-- ty [ "," ty Int ]
abbrev pub alloca_of : TyShape × Option (TyShape × ℤ) → BodyShape
alloca_of v = shape.alloca v.0 (count_of v.1)

abbrev pub alloca : Lang Symbol BodyShape
alloca = map_to alloca_of (seq ty (maybe counted))

-- ty "," ty val
abbrev pub load : Lang Symbol BodyShape
load = map_to (λ v. shape.load v.0 v.1) (seq ty more_ty_val)

-- ty val "," ty val
abbrev pub store : Lang Symbol BodyShape
store = map_to (λ v. shape.store v.0 v.1) (seq ty_val more_ty_val)

-- { "inbounds"|"nuw" } ty "," ty val { "," ty val }
abbrev pub Element : Type 0
Element = Bool × (TyShape × (TyValShape × List TyValShape))

abbrev pub element_of : Element → BodyShape
element_of v = shape.get_element v.0 v.1.0 v.1.1.0 v.1.1.1

abbrev pub get_element : Lang Symbol BodyShape
get_element = map_to element_of (seq address_flags (seq ty (seq more_ty_val (many more_ty_val))))

-- ty Global "(" [ ty val { "," ty val } ] ")"
abbrev pub Called : Type 0
Called = TyShape × (List ℕ × List TyValShape)

abbrev pub call_of : Called → BodyShape
call_of v = shape.call v.0 (fixed (global v.1.0)) v.1.1

abbrev pub call : Lang Symbol BodyShape
call = map_to call_of (seq ty (seq (one global_name) (skip (punct 40) (listed (punct 44) (punct 41) ty_val))))

-- the readers of these, of at most n symbols
abbrev pub run_counted : ℕ → Reader Symbol (TyShape × ℤ)
run_counted n = run_skip (punct 44) (run_seq (run_ty n) (run_one number_in))

abbrev pub run_alloca : ℕ → Reader Symbol BodyShape
run_alloca n = run_map alloca_of (run_seq (run_ty n) (run_maybe (heads (punct 44)) (run_counted n)))

abbrev pub run_load : ℕ → Reader Symbol BodyShape
run_load n = run_map (λ v. shape.load v.0 v.1) (run_seq (run_ty n) (run_more_ty_val n))

abbrev pub run_store : ℕ → Reader Symbol BodyShape
run_store n = run_map (λ v. shape.store v.0 v.1) (run_seq (run_ty_val n) (run_more_ty_val n))

abbrev pub run_get_element : ℕ → Reader Symbol BodyShape
run_get_element n =
    run_map element_of (run_seq (run_address_flags n) (run_seq (run_ty n) (run_seq (run_more_ty_val n) (run_many n (heads (punct 44)) (run_more_ty_val n)))))

abbrev pub run_call : ℕ → Reader Symbol BodyShape
run_call n =
    run_map call_of (run_seq (run_ty n) (run_seq (run_one global_name) (run_skip (punct 40) (run_listed n (punct 44) (punct 41) (run_ty_val n)))))
