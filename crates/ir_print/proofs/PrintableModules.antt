-- The spelling of a module that readable symbols spell is printable.
use Rattle.std.proofs.Common.{◌≡◌, ℕ, zero, suc, ◌==◌, ◌/◌, ◌%◌, nat_lt, Bool, true, false, if◌then◌else◌, List, [], ◌∷◌, ◌++◌, map, Option, Some, None, subst, arith}
use Rattle.std.specs.Prelude.{count_by}
use Rattle.std.specs.Fmt.{decimal, digits, digits_onto, digit_glyph}
use Rattle.std.proofs.lemmas.Bool.Decides.{nat_tests}
use Rattle.grammar.specs.Language.{Lang, one, skip, seq, map_to, maybe, many, or_else, until, listed}
use Rattle.ir_tree.specs.Shape.{TyShape, ConstShape, BodyShape, InstShape, BlockShape, ParamShape, FunctionShape, GlobalShape, DeclareShape, NamedTyShape, ModuleShape}
use Rattle.ir_lex.specs.Symbols.{Symbol, GlobalSymbol, LabelSymbol, MarkSymbol}
use Rattle.ir_cursor.specs.Marks.{punct}
use Rattle.ir_print_symbols.specs.Printed.{AreBytes, HasWord, IsReadable, AreReadable, ArePrintable}
use Rattle.ir_grammar_consts.specs.Types.{ty}
use Rattle.ir_grammar_consts.specs.Constants.{const}
use Rattle.ir_grammar_consts.specs.Spelling.{ty_spelling, const_spelling}
use Rattle.ir_grammar_consts.proofs.Values.{Every}
use Rattle.ir_grammar_insts.specs.Operands.{local_name, global_name}
use Rattle.ir_grammar_insts.specs.Instructions.{phi, inst}
use Rattle.ir_grammar_insts.specs.Terminators.{term}
use Rattle.ir_grammar_insts.specs.Spelling.{body_spelling, in_a_row, with_commas}
use Rattle.ir_grammar_modules.specs.Blocks.{label_name, result, line_of, phi_line, inst_line, last_of, last_line, joined, in_front, after_phis, lines, block_of, block, FirstBlock, first_block}
use Rattle.ir_grammar_modules.specs.Items.{type_word, constancy, declare_word, define_word, ItemShape, type_item, global_item, declare_item, function_item, parameter_of, parameter, parameters, Signature, signature, is_numbered, first_name, blocks, blocks_of, type_of, type_line, global_of, global_line, declare_of, declare_line, function_of, function, item}
use Rattle.ir_grammar_modules.specs.Modules.{with_item, module_of, whole_module}
use Rattle.ir_grammar_modules.specs.Spelling.{result_spelling, line_spelling, block_spelling, name_spelling, parameter_spelling, signature_spelling, without_name, constancy_word, type_spelling, global_spelling, declare_spelling, function_spelling, module_spelling}
use Rattle.ir_print_consts.proofs.PrintableTypes.{Carries, printable_both, carries_many, carries_skip, carries_listed, IsTyPrintable, ty_printable}
use Rattle.ir_print_consts.proofs.PrintableConsts.{IsConstPrintable, const_printable}
use Rattle.ir_print.proofs.Carrying.{Anything, Both, Perhaps, carries_any, carries_one, carries_seq, carries_map, carries_maybe, carries_or, carries_up_to, carries_until, every_both, every_weaker, equals, opening_parenthesis, closing_parenthesis, opening_brace, closing_brace, Printable, row_printable, listed_printable, closed_printable}
use Rattle.ir_print.proofs.PrintableInsts.{local_carries, global_carries, IsBodyPrintable, phi_printable, inst_printable, term_printable}

-- the digits of a number are bytes

glyph_byte : (n : ℕ) → nat_lt (digit_glyph false (n % 10)) 256 ≡ true
glyph_byte n = grind (arith, nat_tests)

digits_bytes : (k n : ℕ) (rest : List ℕ) → AreBytes rest → AreBytes (digits_onto k 10 false n rest)
digits_bytes zero n rest h = h
digits_bytes (suc k) n rest h =
    by_test (n / 10 == 0) (digit_glyph false (n % 10) ∷ rest) (digits_onto k 10 false (n / 10) (digit_glyph false (n % 10) ∷ rest)) (glyph_byte n, h) (digits_bytes k (n / 10) (digit_glyph false (n % 10) ∷ rest) (glyph_byte n, h))
  where
    by_test : (b : Bool) (v w : List ℕ) → AreBytes v → AreBytes w → AreBytes (if b then v else w)
    by_test true v w h g = h
    by_test false v w h g = g

decimal_bytes : (n : ℕ) → AreBytes (decimal n)
unfolding digits
decimal_bytes n = digits_bytes 64 n [] tt

first_bytes : (row : List ParamShape) (name : Option (List ℕ)) → Perhaps AreBytes name → AreBytes (first_name row name)
first_bytes row None h = decimal_bytes (count_by is_numbered row)
first_bytes row (Some name) h = h

-- lines

label_bytes : (s : Symbol) (name : List ℕ) → label_name s ≡ Some name → IsReadable s → AreBytes name
label_bytes (LabelSymbol own) name e g = let same : own ≡ name = cc in subst AreBytes same g
label_bytes _ name e g = cc

label_carries : Carries (one label_name) AreBytes
label_carries = carries_one label_name AreBytes label_bytes

abbrev IsLinePrintable : InstShape → Type 0
IsLinePrintable = Printable line_spelling

result_printable : (name : Option (List ℕ)) → Perhaps AreBytes name → ArePrintable (result_spelling name)
result_printable None h = tt
result_printable (Some name) h = (h, (equals, tt))

line_is : (v : Option (List ℕ) × BodyShape) → Both (Perhaps AreBytes) IsBodyPrintable v → IsLinePrintable (line_of v)
line_is v h = printable_both (result_spelling v.0) (body_spelling v.1) (result_printable v.0 h.0) h.1

result_carries : Carries (maybe result) (Perhaps AreBytes)
result_carries = carries_maybe result AreBytes (carries_up_to (punct 61) (one local_name) AreBytes local_carries)

line_printable : (body : Lang Symbol BodyShape) → Carries body IsBodyPrintable → Carries (map_to line_of (seq (maybe result) body)) IsLinePrintable
line_printable body h =
    carries_map line_of (seq (maybe result) body) (Both (Perhaps AreBytes) IsBodyPrintable) IsLinePrintable line_is
    (carries_seq (maybe result) body (Perhaps AreBytes) IsBodyPrintable result_carries h)

carries_in_front : {V : Type 0} (a : Lang Symbol V) (others : Lang Symbol (List V)) (P : V → Type 0) → Carries a P → Carries others (Every P) → Carries (in_front a others) (Every P)
carries_in_front a others P h g =
    carries_map joined (seq (many a) others) (Both (Every P) (Every P)) (Every P) (λ v e. every_both P v.0 v.1 e.0 e.1)
    (carries_seq (many a) others (Every P) (Every P) (carries_many a P h) g)

lines_printable : Carries lines (Every IsLinePrintable)
lines_printable =
    let last = carries_map last_of term IsBodyPrintable (Every IsLinePrintable) (λ v h. (h, tt)) term_printable in
    carries_in_front phi_line after_phis IsLinePrintable (line_printable phi phi_printable)
    (carries_in_front inst_line last_line IsLinePrintable (line_printable inst inst_printable) last)

-- blocks

abbrev IsBlockPrintable : BlockShape → Type 0
IsBlockPrintable = Printable block_spelling

block_is : (v : List ℕ × List InstShape) → Both AreBytes (Every IsLinePrintable) v → IsBlockPrintable (block_of v)
block_is v h = (h.0, row_printable line_spelling v.1 h.1)

block_printable : Carries block IsBlockPrintable
block_printable =
    carries_map block_of (seq (one label_name) lines) (Both AreBytes (Every IsLinePrintable)) IsBlockPrintable block_is
    (carries_seq (one label_name) lines AreBytes (Every IsLinePrintable) label_carries lines_printable)

abbrev IsFirstBlock : FirstBlock → Type 0
IsFirstBlock = Both (Perhaps AreBytes) (Every IsLinePrintable)

abbrev AreBlocks : FirstBlock × List BlockShape → Type 0
AreBlocks = Both IsFirstBlock (Every IsBlockPrintable)

blocks_carry : Carries blocks AreBlocks
blocks_carry =
    carries_seq first_block (until (punct 125) block) IsFirstBlock (Every IsBlockPrintable)
    (carries_seq (maybe (one label_name)) lines (Perhaps AreBytes) (Every IsLinePrintable) (carries_maybe (one label_name) AreBytes label_carries) lines_printable)
    (carries_until (punct 125) block IsBlockPrintable block_printable)

blocks_are : (row : List ParamShape) (v : FirstBlock × List BlockShape) → AreBlocks v → Every IsBlockPrintable (blocks_of row v)
blocks_are row v h = ((first_bytes row v.0.0 h.0.0, row_printable line_spelling v.0.1 h.0.1), h.1)

-- signatures

-- the type of a parameter is printable, and its name is bytes
abbrev IsParameter : ParamShape → Type 0
IsParameter v = IsTyPrintable v.ty × Perhaps AreBytes v.name

name_printable : (name : Option (List ℕ)) → Perhaps AreBytes name → ArePrintable (name_spelling name)
name_printable None h = tt
name_printable (Some name) h = (h, tt)

parameter_is : (v : ParamShape) → IsParameter v → Printable parameter_spelling v
parameter_is v h = printable_both (ty_spelling v.ty) (name_spelling v.name) h.0 (name_printable v.name h.1)

parameter_carries : Carries parameter IsParameter
parameter_carries =
    carries_map parameter_of (seq ty (maybe (one local_name))) (Both IsTyPrintable (Perhaps AreBytes)) IsParameter (λ v h. h)
    (carries_seq ty (maybe (one local_name)) IsTyPrintable (Perhaps AreBytes) ty_printable (carries_maybe (one local_name) AreBytes local_carries))

abbrev IsSignature : Signature → Type 0
IsSignature = Both IsTyPrintable (Both AreBytes (Every IsParameter))

signature_carries : Carries signature IsSignature
signature_carries =
    let row = carries_skip (punct 40) (listed (punct 44) (punct 41) parameter) (Every IsParameter) (carries_listed (punct 44) (punct 41) parameter IsParameter parameter_carries) in
    carries_seq ty (seq (one global_name) parameters) IsTyPrintable (Both AreBytes (Every IsParameter)) ty_printable
    (carries_seq (one global_name) parameters AreBytes (Every IsParameter) global_carries row)

signature_printable : (ret : TyShape) (name : List ℕ) (row : List ParamShape) → IsTyPrintable ret → AreBytes name → Every IsParameter row → ArePrintable (signature_spelling ret name row)
signature_printable ret name row h g k =
    let listed_row = listed_printable parameter_spelling row (every_weaker IsParameter (Printable parameter_spelling) parameter_is row k) in
    let inner = closed_printable (with_commas parameter_spelling row) 41 closing_parenthesis listed_row in
    printable_both (ty_spelling ret) (GlobalSymbol name ∷ MarkSymbol 40 ∷ (with_commas parameter_spelling row ++ MarkSymbol 41 ∷ [])) h (g, (opening_parenthesis, inner))

-- items

abbrev IsTypePrintable : NamedTyShape → Type 0
IsTypePrintable = Printable type_spelling

abbrev IsGlobalPrintable : GlobalShape → Type 0
IsGlobalPrintable = Printable global_spelling

abbrev IsDeclarePrintable : DeclareShape → Type 0
IsDeclarePrintable = Printable declare_spelling

abbrev IsFunctionPrintable : FunctionShape → Type 0
IsFunctionPrintable = Printable function_spelling

-- the spelling of the item is printable
abbrev IsItemPrintable : ItemShape → Type 0
IsItemPrintable (type_item v) = IsTypePrintable v
IsItemPrintable (global_item v) = IsGlobalPrintable v
IsItemPrintable (declare_item v) = IsDeclarePrintable v
IsItemPrintable (function_item v) = IsFunctionPrintable v

type_printable : Carries type_line IsItemPrintable
type_printable =
    let behind = carries_skip (punct 61) (skip type_word ty) IsTyPrintable (carries_skip type_word ty IsTyPrintable ty_printable) in
    carries_map type_of (seq (one local_name) (skip (punct 61) (skip type_word ty))) (Both AreBytes IsTyPrintable) IsItemPrintable (λ v h. (h.0, (equals, (tt, h.1))))
    (carries_seq (one local_name) (skip (punct 61) (skip type_word ty)) AreBytes IsTyPrintable local_carries behind)

constancy_has_word : (constant : Bool) → HasWord (constancy_word constant)
constancy_has_word false = tt
constancy_has_word true = tt

abbrev GlobalParts : Type 0
GlobalParts = List ℕ × (Bool × (TyShape × ConstShape))

abbrev IsGlobal : GlobalParts → Type 0
IsGlobal = Both AreBytes (Both Anything (Both IsTyPrintable IsConstPrintable))

global_is : (v : GlobalParts) → IsGlobal v → IsItemPrintable (global_of v)
global_is v h =
    let p = v.1.1 in
    (h.0, (equals, (constancy_has_word v.1.0, printable_both (ty_spelling p.0) (const_spelling p.1) h.1.1.0 h.1.1.1)))

global_printable : Carries global_line IsItemPrintable
global_printable =
    let value = carries_seq ty const IsTyPrintable IsConstPrintable ty_printable const_printable in
    let kind = carries_seq (one constancy) (seq ty const) Anything (Both IsTyPrintable IsConstPrintable) (carries_any (one constancy)) value in
    let behind = carries_skip (punct 61) (seq (one constancy) (seq ty const)) (Both Anything (Both IsTyPrintable IsConstPrintable)) kind in
    carries_map global_of (seq (one global_name) (skip (punct 61) (seq (one constancy) (seq ty const)))) IsGlobal IsItemPrintable global_is
    (carries_seq (one global_name) (skip (punct 61) (seq (one constancy) (seq ty const))) AreBytes (Both Anything (Both IsTyPrintable IsConstPrintable)) global_carries behind)

nameless_carry : (row : List ParamShape) → Every IsParameter row → Every IsParameter (map without_name (map (λ p. p.ty) row))
nameless_carry [] h = tt
nameless_carry (v ∷ row) h = ((h.0.0, tt), nameless_carry row h.1)

declare_is : (v : Signature) → IsSignature v → IsItemPrintable (declare_of v)
declare_is v h =
    (tt, signature_printable v.0 v.1.0 (map without_name (map (λ p. p.ty) v.1.1)) h.0 h.1.0 (nameless_carry v.1.1 h.1.1))

declare_printable : Carries declare_line IsItemPrintable
declare_printable = carries_skip declare_word (map_to declare_of signature) IsItemPrintable (carries_map declare_of signature IsSignature IsItemPrintable declare_is signature_carries)

function_is : (v : Signature × (FirstBlock × List BlockShape)) → Both IsSignature AreBlocks v → IsItemPrintable (function_of v)
function_is v h =
    let s = v.0 in
    let body = blocks_of s.1.1 v.1 in
    let inner = closed_printable (in_a_row block_spelling body) 125 closing_brace (row_printable block_spelling body (blocks_are s.1.1 v.1 h.1)) in
    (tt, printable_both (signature_spelling s.0 s.1.0 s.1.1) (MarkSymbol 123 ∷ (in_a_row block_spelling body ++ MarkSymbol 125 ∷ [])) (signature_printable s.0 s.1.0 s.1.1 h.0.0 h.0.1.0 h.0.1.1) (opening_brace, inner))

function_printable : Carries function IsItemPrintable
function_printable =
    let parts = carries_seq signature (skip (punct 123) blocks) IsSignature AreBlocks signature_carries (carries_skip (punct 123) blocks AreBlocks blocks_carry) in
    carries_skip define_word (map_to function_of (seq signature (skip (punct 123) blocks))) IsItemPrintable
    (carries_map function_of (seq signature (skip (punct 123) blocks)) (Both IsSignature AreBlocks) IsItemPrintable function_is parts)

item_printable : Carries item IsItemPrintable
item_printable =
    carries_or type_line (or_else global_line (or_else declare_line function)) IsItemPrintable type_printable
    (carries_or global_line (or_else declare_line function) IsItemPrintable global_printable (carries_or declare_line function IsItemPrintable declare_printable function_printable))

-- modules

-- each item of the module is printable
record AreItems (m : ModuleShape) : Type 0 where
  pub of_types : Every IsTypePrintable m.types
  pub of_globals : Every IsGlobalPrintable m.globals
  pub of_declares : Every IsDeclarePrintable m.declares
  pub of_functions : Every IsFunctionPrintable m.functions

with_printable : (v : ItemShape) (m : ModuleShape) → IsItemPrintable v → AreItems m → AreItems (with_item v m)
with_printable (type_item v) m h g = record { of_types = (h, g.of_types); of_globals = g.of_globals; of_declares = g.of_declares; of_functions = g.of_functions }
with_printable (global_item v) m h g = record { of_types = g.of_types; of_globals = (h, g.of_globals); of_declares = g.of_declares; of_functions = g.of_functions }
with_printable (declare_item v) m h g = record { of_types = g.of_types; of_globals = g.of_globals; of_declares = (h, g.of_declares); of_functions = g.of_functions }
with_printable (function_item v) m h g = record { of_types = g.of_types; of_globals = g.of_globals; of_declares = g.of_declares; of_functions = (h, g.of_functions) }

items_are : (vs : List ItemShape) → Every IsItemPrintable vs → AreItems (module_of vs)
items_are [] h = record { of_types = tt; of_globals = tt; of_declares = tt; of_functions = tt }
items_are (v ∷ vs) h = with_printable v (module_of vs) h.0 (items_are vs h.1)

items_printable : (m : ModuleShape) → AreItems m → ArePrintable (module_spelling m)
items_printable m h =
    let declares = in_a_row declare_spelling m.declares in
    let functions = in_a_row function_spelling m.functions in
    let globals = in_a_row global_spelling m.globals in
    let after_globals = printable_both declares functions (row_printable declare_spelling m.declares h.of_declares) (row_printable function_spelling m.functions h.of_functions) in
    let after_types = printable_both globals (declares ++ functions) (row_printable global_spelling m.globals h.of_globals) after_globals in
    printable_both (in_a_row type_spelling m.types) (globals ++ (declares ++ functions)) (row_printable type_spelling m.types h.of_types) after_types

-- a module that readable symbols spell is printable
pub module_printable : (ts : List Symbol) (m : ModuleShape) → whole_module ts m → AreReadable ts → ArePrintable (module_spelling m)
module_printable =
    carries_map module_of (many item) (Every IsItemPrintable) (Printable module_spelling) (λ vs h. items_printable (module_of vs) (items_are vs h))
    (carries_many item IsItemPrintable item_printable)
