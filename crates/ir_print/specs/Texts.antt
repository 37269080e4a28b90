-- The printed form of the parts of a module, each as the texts that a printer appends one after another.
use Rattle.std.specs.Prelude.{ℕ, ℤ, pos, negsuc, Bool, true, false, ◌==◌, if◌then◌else◌, List, [], ◌∷◌, ◌++◌, map, Option, None, Some}
use Rattle.std.specs.List.{flat_map}
use Rattle.ir_tree.specs.Shape.{TyShape, ConstShape, global, ValShape, local, fixed, TyValShape, PhiInShape, CaseShape, BodyShape, phi, binary, icmp, select, convert, freeze, alloca, load, store, get_element, call, jump, branch, switch, return_void, return_value, unreachable, InstShape, BlockShape, NamedTyShape, GlobalShape, DeclareShape, ParamShape, FunctionShape, ModuleShape}
use Rattle.ir_tree.specs.declared.module.Flags.{Flags}
use Rattle.ir_words.specs.declared.words.Keyword.{Keyword}
use Rattle.ir_words.specs.declared.words.Keyword.TheVariants.{«Type», Declare, Define, Integer, Void, Phi, Nuw, Nsw, Exact, InBounds, Icmp, Select, To, Freeze, Alloca, Load, Store, GetElementPtr, Call, Br, Label, Switch, Ret, Unreachable}
use Rattle.ir_lex.specs.Symbols.{KeywordSymbol, LocalSymbol, GlobalSymbol, LabelSymbol, NumberSymbol}
use Rattle.ir_print_symbols.specs.Printed.{joined, text_of_symbol}
use Rattle.ir_grammar_consts.specs.Spelling.{ty_spelling, const_spelling}
use Rattle.ir_grammar_insts.specs.Spelling.{bin_word, pred_word, conv_word}
use Rattle.ir_grammar_modules.specs.Spelling.{constancy_word}
use Rattle.ir_print_consts.specs.Texts.{in_row}

-- one symbol
unfoldable pub word_text : Keyword → List ℕ
word_text k = text_of_symbol (KeywordSymbol k)

unfoldable pub local_text : List ℕ → List ℕ
local_text name = text_of_symbol (LocalSymbol name)

unfoldable pub global_text : List ℕ → List ℕ
global_text name = text_of_symbol (GlobalSymbol name)

unfoldable pub label_text : List ℕ → List ℕ
label_text name = text_of_symbol (LabelSymbol name)

unfoldable pub number_text : ℤ → List ℕ
number_text z = text_of_symbol (NumberSymbol z)

-- types and operands
unfoldable pub type_text : TyShape → List ℕ
type_text t = joined (ty_spelling t)

unfoldable pub constant_text : ConstShape → List ℕ
constant_text c = joined (const_spelling c)

abbrev pub value_text : ValShape → List ℕ
value_text (local name) = local_text name
value_text (fixed c) = constant_text c

-- ty val
abbrev pub typed_text : TyValShape → List ℕ
typed_text v = type_text v.ty ++ (32 ∷ value_text v.val)

-- ty val "," val
abbrev pub two_text : TyShape → ValShape → ValShape → List ℕ
two_text t x y = type_text t ++ (32 ∷ (value_text x ++ (44 ∷ 32 ∷ value_text y)))

-- "label" Local
abbrev pub target_text : List ℕ → List ℕ
target_text name = word_text Label ++ (32 ∷ local_text name)

-- a flag after a blank, where it is set
abbrev pub flag_part : Bool → Keyword → List ℕ
flag_part false k = []
flag_part true k = 32 ∷ word_text k

abbrev pub flags_part : Flags → List ℕ
flags_part f = flag_part f.nuw Nuw ++ (flag_part f.nsw Nsw ++ flag_part f.exact Exact)

-- "[" val "," Local "]"
abbrev pub input_text : PhiInShape → List ℕ
input_text v = 91 ∷ (value_text v.val ++ (44 ∷ 32 ∷ (local_text v.from ++ 93 ∷ [])))

-- ty Int "," "label" Local
abbrev pub case_text : CaseShape → List ℕ
case_text v = type_text v.ty ++ (32 ∷ (number_text v.value ++ (44 ∷ 32 ∷ target_text v.to)))

-- a blank before a row that isn't empty
abbrev pub row_blank : {V : Type 0} → List V → List ℕ
row_blank [] = []
row_blank (v ∷ vs) = 32 ∷ []

-- a blank, where something stands before it
abbrev pub blank : Bool → List ℕ
blank false = []
blank true = 32 ∷ []

-- texts in a row with a blank between them, and before the first where something stands before it
abbrev pub in_spaces : Bool → List (List ℕ) → List ℕ
in_spaces spaced [] = []
in_spaces spaced (t ∷ ts) = blank spaced ++ (t ++ in_spaces true ts)

-- the constant is the name of a global
abbrev pub is_name : ConstShape → Bool
is_name (global name) = true
is_name _ = false

abbrev pub is_global_name : ValShape → Bool
is_global_name (local name) = false
is_global_name (fixed c) = is_name c

-- what stands between a callee and `(`
abbrev pub callee_gap : Bool → List ℕ
callee_gap true = []
callee_gap false = 32 ∷ []

-- a count of an alloca; one is left out
abbrev pub is_one : ℤ → Bool
is_one (pos n) = n == 1
is_one (negsuc n) = false

abbrev pub count_part : ℤ → List ℕ
count_part z = if is_one z then [] else (44 ∷ 32 ∷ (word_text (Integer 64) ++ (32 ∷ number_text z)))

-- phis, instructions and terminators
abbrev pub body_text : BodyShape → List ℕ
body_text (phi t inputs) = word_text Phi ++ (32 ∷ (type_text t ++ (row_blank inputs ++ in_row false (map input_text inputs))))
body_text (binary operation flags t x y) = word_text (bin_word operation) ++ (flags_part flags ++ (32 ∷ two_text t x y))
body_text (icmp predicate t x y) = word_text Icmp ++ (32 ∷ (word_text (pred_word predicate) ++ (32 ∷ two_text t x y)))
body_text (select c x y) = word_text Select ++ (32 ∷ (typed_text c ++ (44 ∷ 32 ∷ (typed_text x ++ (44 ∷ 32 ∷ typed_text y)))))
body_text (convert conversion t x to) =
    word_text (conv_word conversion) ++ (32 ∷ (type_text t ++ (32 ∷ (value_text x ++ (32 ∷ (word_text To ++ (32 ∷ type_text to)))))))
body_text (freeze t x) = word_text Freeze ++ (32 ∷ (type_text t ++ (32 ∷ value_text x)))
body_text (alloca t n) = word_text Alloca ++ (32 ∷ (type_text t ++ count_part n))
body_text (load t x) = word_text Load ++ (32 ∷ (type_text t ++ (44 ∷ 32 ∷ typed_text x)))
body_text (store x y) = word_text Store ++ (32 ∷ (typed_text x ++ (44 ∷ 32 ∷ typed_text y)))
body_text (get_element inbounds t base row) =
    word_text GetElementPtr ++ (flag_part inbounds InBounds ++ (32 ∷ (type_text t ++ (44 ∷ 32 ∷ (typed_text base ++ in_row true (map typed_text row))))))
body_text (call t callee row) =
    word_text Call ++ (32 ∷ (type_text t ++ (32 ∷ (value_text callee ++ (callee_gap (is_global_name callee) ++ (40 ∷ (in_row false (map typed_text row) ++ 41 ∷ [])))))))
body_text (jump to) = word_text Br ++ (32 ∷ target_text to)
body_text (branch c x y) = word_text Br ++ (32 ∷ (typed_text c ++ (44 ∷ 32 ∷ (target_text x ++ (44 ∷ 32 ∷ target_text y)))))
body_text (switch x to cases) =
    word_text Switch ++ (32 ∷ (typed_text x ++ (44 ∷ 32 ∷ (target_text to ++ (32 ∷ 91 ∷ (in_spaces false (map case_text cases) ++ 93 ∷ []))))))
body_text return_void = word_text Ret ++ (32 ∷ word_text Void)
body_text (return_value x) = word_text Ret ++ (32 ∷ typed_text x)
body_text unreachable = word_text Unreachable

-- [ Local "=" ]
abbrev pub result_text : Option (List ℕ) → List ℕ
result_text None = []
result_text (Some name) = local_text name ++ (32 ∷ 61 ∷ 32 ∷ [])

-- a line of a block, with its line feed
abbrev pub line_text : InstShape → List ℕ
line_text v = 32 ∷ 32 ∷ (result_text v.result ++ (body_text v.body ++ 10 ∷ []))

-- a block: its label, and its lines
abbrev pub block_text : BlockShape → List ℕ
block_text v = label_text v.name ++ (10 ∷ flat_map line_text v.insts)

-- ty [ Local ]
abbrev pub name_part : Option (List ℕ) → List ℕ
name_part None = []
name_part (Some name) = 32 ∷ local_text name

abbrev pub parameter_text : ParamShape → List ℕ
parameter_text v = type_text v.ty ++ name_part v.name

-- ty Global "(" parameters ")"
abbrev pub signature_text : TyShape → List ℕ → List (List ℕ) → List ℕ
signature_text ret name row = type_text ret ++ (32 ∷ (global_text name ++ (40 ∷ (in_row false row ++ 41 ∷ []))))

-- items, with their line feeds
abbrev pub type_line : NamedTyShape → List ℕ
type_line v = local_text v.name ++ (32 ∷ 61 ∷ 32 ∷ (word_text «Type» ++ (32 ∷ (type_text v.ty ++ 10 ∷ []))))

abbrev pub global_line : GlobalShape → List ℕ
global_line v =
    global_text v.name ++ (32 ∷ 61 ∷ 32 ∷ (word_text (constancy_word v.constant) ++ (32 ∷ (type_text v.ty ++ (32 ∷ (constant_text v.init ++ 10 ∷ []))))))

abbrev pub declare_line : DeclareShape → List ℕ
declare_line v = word_text Declare ++ (32 ∷ (signature_text v.ret v.name (map type_text v.params) ++ 10 ∷ []))

abbrev pub function_text : FunctionShape → List ℕ
function_text v =
    word_text Define ++ (32 ∷ (signature_text v.ret v.name (map parameter_text v.params) ++ (32 ∷ 123 ∷ 10 ∷ (flat_map block_text v.blocks ++ 125 ∷ 10 ∷ []))))

-- types, globals, declarations and functions, in this order
abbrev pub items_text : ModuleShape → List ℕ
items_text m = flat_map type_line m.types ++ (flat_map global_line m.globals ++ (flat_map declare_line m.declares ++ flat_map function_text m.functions))
