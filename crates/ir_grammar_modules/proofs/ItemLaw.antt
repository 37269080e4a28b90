-- The laws of the readers of items and of modules.
use Rattle.std.proofs.Common.{◌≡◌, ℕ, Bool, true, false, [], refl}
use Rattle.grammar.specs.Language.{mark, one}
use Rattle.grammar.specs.Reader.{heads, run_one}
use Rattle.grammar.proofs.Good.{never, Good, Starts}
use Rattle.grammar.proofs.Sides.{starts_pick, starts_map, starts_seq, starts_or, starts_more, joins_starts}
use Rattle.grammar.proofs.Laws.{good_one, good_next, good_map, good_seq, good_maybe, good_or}
use Rattle.grammar.proofs.Lists.{good_many, good_listed, good_until, joins_until}
use Rattle.ir_words.specs.declared.words.Keyword.TheVariants.{«Type», Global, Declare, Define}
use Rattle.ir_lex.specs.Symbols.{Symbol, KeywordSymbol, LocalSymbol, GlobalSymbol, LabelSymbol, MarkSymbol}
use Rattle.ir_cursor.specs.Marks.{punct}
use Rattle.ir_grammar_consts.specs.Types.{ty_head}
use Rattle.ir_grammar_consts.proofs.Sides.{punct_is, punct_apart}
use Rattle.ir_grammar_consts.proofs.TypeLaw.{starts_ty, good_ty}
use Rattle.ir_grammar_consts.proofs.ConstLaw.{good_const}
use Rattle.ir_grammar_insts.specs.Operands.{local_name, global_name, begins_val}
use Rattle.ir_grammar_insts.proofs.OperandLaw.{good_before, good_name}
use Rattle.ir_grammar_modules.specs.Blocks.{label_name}
use Rattle.ir_grammar_modules.specs.Items.{type_word, constancy, declare_word, define_word, parameter_of, parameter, parameters, signature, blocks, type_of, type_line, global_of, global_line, declare_line, function, item, run_parameter, run_parameters, run_signature, run_blocks, run_type_line, run_global_line, run_declare_line, run_function, run_item}
use Rattle.ir_grammar_modules.specs.Modules.{module_of, whole_module, begins_item, run_module}
use Rattle.ir_grammar_modules.proofs.BlockLaw.{good_block, starts_block, good_first_block}

good_global : (n : ℕ) → Good n (one global_name) (run_one global_name) never
good_global n = good_one n global_name (GlobalSymbol []) [] never refl

-- a Local goes on with a parameter
good_parameter : (n : ℕ) → Good n parameter (run_parameter n) (heads local_name)
good_parameter n =
    good_map parameter_of (good_before (good_ty n) (good_maybe (heads local_name) (starts_pick local_name _) (λ t h. h) (good_name n (heads local_name))))

mark_unnamed : (b : ℕ) (t : Symbol) → heads (punct b) t ≡ true → heads local_name t ≡ false
mark_unnamed b (LocalSymbol name) h = cc
mark_unnamed b _ h = refl

good_parameters : (n : ℕ) → Good n parameters (run_parameters n) never
good_parameters n =
    good_next (punct 40) (MarkSymbol 40) mark refl
    (λ _. good_listed n (punct 44) (punct 41) (MarkSymbol 44) mark (MarkSymbol 41) mark never refl refl (starts_map parameter_of (starts_seq _ starts_ty))
    (punct_apart ty_head 41 refl) (punct_apart (punct 44) 41 refl) (mark_unnamed 44) (mark_unnamed 41) (good_parameter n))

good_signature : (n : ℕ) → Good n signature (run_signature n) never
good_signature n = good_before (good_ty n) (good_before (good_global n) (good_parameters n))

-- neither a Label nor `}` goes on with a block
label_ends : (t : Symbol) → heads label_name t ≡ true → begins_val t ≡ false
label_ends (LabelSymbol name) h = refl
label_ends _ h = cc

brace_ends : (t : Symbol) → heads (punct 125) t ≡ true → begins_val t ≡ false
brace_ends t h = let same : t ≡ MarkSymbol 125 = punct_is 125 t h in rw same refl

good_blocks : (n : ℕ) → Good n blocks (run_blocks n) never
good_blocks n =
    good_seq (joins_until (punct 125) never starts_block label_ends brace_ends) (good_first_block n)
    (good_until n (punct 125) (MarkSymbol 125) mark never refl starts_block (punct_apart label_name 125 refl) label_ends brace_ends (good_block n))

good_type_line : (n : ℕ) → Good n type_line (run_type_line n) never
good_type_line n =
    good_map type_of (good_before (good_name n never)
    (good_next (punct 61) (MarkSymbol 61) mark refl (λ _. good_next type_word (KeywordSymbol «Type») mark refl (λ _. good_ty n))))

good_global_line : (n : ℕ) → Good n global_line (run_global_line n) never
good_global_line n =
    good_map global_of (good_before (good_global n)
    (good_next (punct 61) (MarkSymbol 61) mark refl
    (λ _. good_before (good_one n constancy (KeywordSymbol Global) false never refl) (good_before (good_ty n) (good_const n)))))

good_declare_line : (n : ℕ) → Good n declare_line (run_declare_line n) never
good_declare_line n = good_next declare_word (KeywordSymbol Declare) mark refl (λ _. good_map _ (good_signature n))

good_function : (n : ℕ) → Good n function (run_function n) never
good_function n =
    good_next define_word (KeywordSymbol Define) mark refl
    (λ _. good_map _ (good_before (good_signature n) (good_next (punct 123) (MarkSymbol 123) mark refl (λ _. good_blocks n))))

-- the lines of the rule begin each in its own way

starts_type_line : Starts (heads local_name) type_line
starts_type_line = starts_map type_of (starts_seq _ (starts_pick local_name _))

starts_global_line : Starts (heads global_name) global_line
starts_global_line = starts_map global_of (starts_seq _ (starts_pick global_name _))

abbrev begins_function : Symbol → Bool
begins_function (KeywordSymbol Declare) = true
begins_function (KeywordSymbol Define) = true
begins_function _ = false

abbrev begins_unnamed : Symbol → Bool
begins_unnamed (GlobalSymbol name) = true
begins_unnamed (KeywordSymbol Declare) = true
begins_unnamed (KeywordSymbol Define) = true
begins_unnamed _ = false

global_unnamed : (t : Symbol) → heads global_name t ≡ true → begins_unnamed t ≡ true
global_unnamed (GlobalSymbol name) h = refl
global_unnamed _ h = cc

declare_unnamed : (t : Symbol) → heads declare_word t ≡ true → begins_unnamed t ≡ true
declare_unnamed (KeywordSymbol Declare) h = refl
declare_unnamed _ h = cc

define_unnamed : (t : Symbol) → heads define_word t ≡ true → begins_unnamed t ≡ true
define_unnamed (KeywordSymbol Define) h = refl
define_unnamed _ h = cc

unnamed_apart : (t : Symbol) → begins_unnamed t ≡ true → heads local_name t ≡ false
unnamed_apart (LocalSymbol name) h = cc
unnamed_apart _ h = refl

declare_function : (t : Symbol) → heads declare_word t ≡ true → begins_function t ≡ true
declare_function (KeywordSymbol Declare) h = refl
declare_function _ h = cc

define_function : (t : Symbol) → heads define_word t ≡ true → begins_function t ≡ true
define_function (KeywordSymbol Define) h = refl
define_function _ h = cc

function_apart : (t : Symbol) → begins_function t ≡ true → heads global_name t ≡ false
function_apart (GlobalSymbol name) h = cc
function_apart _ h = refl

define_apart : (t : Symbol) → heads define_word t ≡ true → heads declare_word t ≡ false
define_apart (KeywordSymbol Define) h = refl
define_apart _ h = cc

starts_declare_line : Starts (heads declare_word) declare_line
starts_declare_line = starts_pick declare_word _

starts_function : Starts (heads define_word) function
starts_function = starts_pick define_word _

pub good_item : (n : ℕ) → Good n item (run_item n) never
good_item n =
    good_or (heads local_name) starts_type_line
    (joins_starts (starts_or (starts_more begins_unnamed global_unnamed starts_global_line)
    (starts_or (starts_more begins_unnamed declare_unnamed starts_declare_line) (starts_more begins_unnamed define_unnamed starts_function))) unnamed_apart)
    (good_type_line n)
    (good_or (heads global_name) starts_global_line
    (joins_starts (starts_or (starts_more begins_function declare_function starts_declare_line) (starts_more begins_function define_function starts_function)) function_apart)
    (good_global_line n)
    (good_or (heads declare_word) starts_declare_line (joins_starts starts_function define_apart) (good_declare_line n) (good_function n)))

local_item : (t : Symbol) → heads local_name t ≡ true → begins_item t ≡ true
local_item (LocalSymbol name) h = refl
local_item _ h = cc

unnamed_item : (t : Symbol) → begins_unnamed t ≡ true → begins_item t ≡ true
unnamed_item (GlobalSymbol name) h = refl
unnamed_item (KeywordSymbol Declare) h = refl
unnamed_item (KeywordSymbol Define) h = refl
unnamed_item _ h = cc

pub starts_item : Starts begins_item item
starts_item =
    starts_or (starts_more begins_item local_item starts_type_line)
    (starts_or (starts_more begins_item (λ t h. unnamed_item t (global_unnamed t h)) starts_global_line)
    (starts_or (starts_more begins_item (λ t h. unnamed_item t (declare_unnamed t h)) starts_declare_line)
    (starts_more begins_item (λ t h. unnamed_item t (define_unnamed t h)) starts_function)))

-- items go on with a module
pub good_module : (n : ℕ) → Good n whole_module (run_module n) begins_item
good_module n = good_map module_of (good_many n starts_item (λ t h. refl) (λ t h. refl) (λ t h. h) (good_item n))
