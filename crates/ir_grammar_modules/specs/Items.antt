-- The grammar of items, and its readers:
--     item = Local "=" "type" ty
--          | Global "=" ("global" | "constant") ty const
--          | "declare" ty Global "(" [ par { "," par } ] ")"
--          | "define" ty Global "(" [ par { "," par } ] ")" "{" block { block } "}"
--     par  = ty [ Local ]
use Rattle.std.specs.Prelude.{ℕ, Bool, true, false, List, ◌∷◌, map, count_by, Option, None, Some}
use Rattle.std.specs.Fmt.{decimal}
use Rattle.grammar.specs.Language.{Lang, Mark, mark, one, skip, seq, map_to, maybe, or_else, until, listed}
use Rattle.grammar.specs.Reader.{Reader, heads, run_one, run_skip, run_seq, run_map, run_maybe, run_or, run_until, run_listed}
use Rattle.ir_tree.specs.Shape.{TyShape, ConstShape, BlockShape, ParamShape, FunctionShape, GlobalShape, DeclareShape, NamedTyShape}
use Rattle.ir_words.specs.Digits.{is_number}
use Rattle.ir_words.specs.declared.words.Keyword.TheVariants.{«Type», Global, Constant, Declare, Define}
use Rattle.ir_lex.specs.Symbols.{Symbol, KeywordSymbol}
use Rattle.ir_cursor.specs.Marks.{punct}
use Rattle.ir_grammar_consts.specs.Types.{ty, run_ty}
use Rattle.ir_grammar_consts.specs.Constants.{const, run_const}
use Rattle.ir_grammar_insts.specs.Operands.{local_name, global_name}
use Rattle.ir_grammar_modules.specs.Blocks.{FirstBlock, first_block, block, run_first_block, run_block}

-- `type`
abbrev pub type_word : Symbol → Option Mark
type_word (KeywordSymbol «Type») = Some mark
type_word _ = None

-- `global` and `constant`: whether it is constant
abbrev pub constancy : Symbol → Option Bool
constancy (KeywordSymbol Global) = Some false
constancy (KeywordSymbol Constant) = Some true
constancy _ = None

-- `declare`
abbrev pub declare_word : Symbol → Option Mark
declare_word (KeywordSymbol Declare) = Some mark
declare_word _ = None

-- `define`
abbrev pub define_word : Symbol → Option Mark
define_word (KeywordSymbol Define) = Some mark
define_word _ = None

-- an item of a module
pub data ItemShape : Type 0 where
  type_item : (item : NamedTyShape) → ItemShape
  global_item : (item : GlobalShape) → ItemShape
  declare_item : (item : DeclareShape) → ItemShape
  function_item : (item : FunctionShape) → ItemShape

-- par = ty [ Local ]
abbrev pub parameter_of : TyShape × Option (List ℕ) → ParamShape
parameter_of v = record { ty = v.0; name = v.1 }

abbrev pub parameter : Lang Symbol ParamShape
parameter = map_to parameter_of (seq ty (maybe (one local_name)))

-- "(" [ par { "," par } ] ")"
abbrev pub parameters : Lang Symbol (List ParamShape)
parameters = skip (punct 40) (listed (punct 44) (punct 41) parameter)

-- ty Global "(" [ par { "," par } ] ")"
abbrev pub Signature : Type 0
Signature = TyShape × (List ℕ × List ParamShape)

abbrev pub signature : Lang Symbol Signature
signature = seq ty (seq (one global_name) parameters)

-- the parameter has no name, or a name of digits alone
abbrev pub is_numbered : ParamShape → Bool
is_numbered p = unnamed p.name
  where
    unnamed : Option (List ℕ) → Bool
    unnamed None = true
    unnamed (Some name) = is_number name

-- the name of the first block: its Label, or else the number, in decimal, of parameters without a name or with a name of digits alone
abbrev pub first_name : List ParamShape → Option (List ℕ) → List ℕ
first_name row None = decimal (count_by is_numbered row)
first_name row (Some name) = name

-- block { block } "}"
abbrev pub blocks : Lang Symbol (FirstBlock × List BlockShape)
blocks = seq first_block (until (punct 125) block)

abbrev pub blocks_of : List ParamShape → FirstBlock × List BlockShape → List BlockShape
blocks_of row v = record { name = first_name row v.0.0; insts = v.0.1 } ∷ v.1

-- Local "=" "type" ty
abbrev pub type_of : List ℕ × TyShape → ItemShape
type_of v = type_item (record { name = v.0; ty = v.1 })

abbrev pub type_line : Lang Symbol ItemShape
type_line = map_to type_of (seq (one local_name) (skip (punct 61) (skip type_word ty)))

-- Global "=" ("global" | "constant") ty const
abbrev pub global_of : List ℕ × (Bool × (TyShape × ConstShape)) → ItemShape
global_of v = global_item (record { name = v.0; constant = v.1.0; ty = v.1.1.0; init = v.1.1.1 })

abbrev pub global_line : Lang Symbol ItemShape
global_line = map_to global_of (seq (one global_name) (skip (punct 61) (seq (one constancy) (seq ty const))))

-- "declare" ty Global "(" [ par { "," par } ] ")"; the names of the parameters are dropped
abbrev pub declare_of : Signature → ItemShape
declare_of v = declare_item (record { name = v.1.0; ret = v.0; params = map (λ p. p.ty) v.1.1 })

abbrev pub declare_line : Lang Symbol ItemShape
declare_line = skip declare_word (map_to declare_of signature)

-- "define" ty Global "(" [ par { "," par } ] ")" "{" block { block } "}"
abbrev pub function_of : Signature × (FirstBlock × List BlockShape) → ItemShape
function_of v = function_item (record { name = v.0.1.0; ret = v.0.0; params = v.0.1.1; blocks = blocks_of v.0.1.1 v.1 })

abbrev pub function : Lang Symbol ItemShape
function = skip define_word (map_to function_of (seq signature (skip (punct 123) blocks)))

-- item
abbrev pub item : Lang Symbol ItemShape
item = or_else type_line (or_else global_line (or_else declare_line function))

-- the readers of these, of at most n symbols
abbrev pub run_parameter : ℕ → Reader Symbol ParamShape
run_parameter n = run_map parameter_of (run_seq (run_ty n) (run_maybe (heads local_name) (run_one local_name)))

abbrev pub run_parameters : ℕ → Reader Symbol (List ParamShape)
run_parameters n = run_skip (punct 40) (run_listed n (punct 44) (punct 41) (run_parameter n))

abbrev pub run_signature : ℕ → Reader Symbol Signature
run_signature n = run_seq (run_ty n) (run_seq (run_one global_name) (run_parameters n))

abbrev pub run_blocks : ℕ → Reader Symbol (FirstBlock × List BlockShape)
run_blocks n = run_seq (run_first_block n) (run_until n (punct 125) (run_block n))

abbrev pub run_type_line : ℕ → Reader Symbol ItemShape
run_type_line n = run_map type_of (run_seq (run_one local_name) (run_skip (punct 61) (run_skip type_word (run_ty n))))

abbrev pub run_global_line : ℕ → Reader Symbol ItemShape
run_global_line n = run_map global_of (run_seq (run_one global_name) (run_skip (punct 61) (run_seq (run_one constancy) (run_seq (run_ty n) (run_const n)))))

abbrev pub run_declare_line : ℕ → Reader Symbol ItemShape
run_declare_line n = run_skip declare_word (run_map declare_of (run_signature n))

abbrev pub run_function : ℕ → Reader Symbol ItemShape
run_function n = run_skip define_word (run_map function_of (run_seq (run_signature n) (run_skip (punct 123) (run_blocks n))))

abbrev pub run_item : ℕ → Reader Symbol ItemShape
run_item n = run_or (heads local_name) (run_type_line n) (run_or (heads global_name) (run_global_line n) (run_or (heads declare_word) (run_declare_line n) (run_function n)))
