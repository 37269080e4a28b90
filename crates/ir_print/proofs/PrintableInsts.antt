-- The spelling of a phi, an instruction or a terminator that readable symbols spell is printable.
use Rattle.std.proofs.Common.{◌≡◌, ℕ, ℤ, pos, negsuc, ◌==◌, Bool, true, false, if◌then◌else◌, List, [], ◌∷◌, ◌++◌, Option, Some, None, sym, subst, lit<}
use Rattle.grammar.specs.Language.{empty, one, skip, seq, map_to, maybe, many, items, until, listed}
use Rattle.ir_tree.specs.Shape.{TyShape, ValShape, local, fixed, global, TyValShape, PhiInShape, CaseShape, BodyShape, phi, freeze, load, store, jump, return_void, return_value}
use Rattle.ir_tree.specs.declared.module.Bin.{Bin}
use Rattle.ir_tree.specs.declared.module.Bin.TheVariants as bins
use Rattle.ir_tree.specs.declared.module.Flags.{Flags}
use Rattle.ir_tree.specs.declared.module.Pred.{Pred}
use Rattle.ir_tree.specs.declared.module.Pred.TheVariants as preds
use Rattle.ir_tree.specs.declared.module.Conv.{Conv}
use Rattle.ir_tree.specs.declared.module.Conv.TheVariants as convs
use Rattle.ir_words.specs.declared.words.Keyword.{Keyword}
use Rattle.ir_words.specs.declared.words.Keyword.TheVariants.{Nuw, Nsw, Exact, To}
use Rattle.ir_lex.specs.Symbols.{Symbol, KeywordSymbol, LocalSymbol, GlobalSymbol, NumberSymbol, MarkSymbol, number_in}
use Rattle.ir_cursor.specs.Marks.{punct}
use Rattle.ir_print_symbols.specs.Printed.{AreBytes, HasWord, IsWithin128, IsReadable, ArePrintable}
use Rattle.ir_grammar_consts.specs.Types.{ty}
use Rattle.ir_grammar_consts.specs.Constants.{const, address_flags}
use Rattle.ir_grammar_consts.specs.Spelling.{ty_spelling, flag_spelling, const_spelling}
use Rattle.ir_grammar_consts.proofs.Values.{Every}
use Rattle.ir_grammar_insts.specs.Operands.{local_name, global_name, predicate, into, val, ty_val_of, ty_val, more_ty_val, TwoVals, two_vals, label, target}
use Rattle.ir_grammar_insts.specs.Arithmetic.{wrap_flags, exact_flag, no_flags, binary_of, icmp_of, select_of, Converted, converted, convert_of}
use Rattle.ir_grammar_insts.specs.Memory.{count_of, counted, alloca_of, Element, element_of, Called, call_of}
use Rattle.ir_grammar_insts.specs.Instructions.{phi_word, phi_input_of, phi_input, inst_rest, inst}
use Rattle.ir_grammar_insts.specs.declared.heads.InstHead.{InstHead}
use Rattle.ir_grammar_insts.specs.declared.heads.InstHead.TheVariants.{WrappingWord, ExactWord, PlainWord, IcmpWord, SelectWord, ExtendWord, TruncWord, FreezeWord, AllocaWord, LoadWord, StoreWord, ElementWord, CallWord}
use Rattle.ir_grammar_insts.specs.Instructions as grammar
use Rattle.ir_grammar_insts.specs.Terminators.{void_word, more_target, branch_of, two_ways, case_of, switch_case, switch_of, term_rest, term}
use Rattle.ir_grammar_insts.specs.declared.heads.TermHead.{TermHead}
use Rattle.ir_grammar_insts.specs.declared.heads.TermHead.TheVariants.{BrWord, SwitchWord, RetWord, UnreachableWord}
use Rattle.ir_grammar_insts.specs.Spelling.{bin_word, pred_word, conv_word, flag_word, flags_spelling, val_spelling, ty_val_spelling, more, two_spelling, target_spelling, phi_input_spelling, case_spelling, count_spelling, count_written, body_spelling, in_a_row, with_commas}
use Rattle.ir_print_consts.proofs.PrintableTypes.{Carries, tail_of, printable_both, carries_many, carries_skip, carries_listed, IsTyPrintable, ty_printable}
use Rattle.ir_print_consts.proofs.PrintableConsts.{IsConstPrintable, const_printable, flag_printable}
use Rattle.ir_print.proofs.Carrying.{Anything, Both, Perhaps, carries_any, carries_one, carries_seq, carries_map, carries_maybe, carries_or, carries_up_to, carries_until, carries_items, comma, opening_bracket, closing_bracket, opening_parenthesis, closing_parenthesis, Printable, row_printable, commas_printable, listed_printable, closed_printable}

-- words, names and numbers

bin_has_word : (operation : Bin) → HasWord (bin_word operation)
bin_has_word bins.Add = tt
bin_has_word bins.Sub = tt
bin_has_word bins.Mul = tt
bin_has_word bins.Shl = tt
bin_has_word bins.Udiv = tt
bin_has_word bins.Sdiv = tt
bin_has_word bins.Lshr = tt
bin_has_word bins.Ashr = tt
bin_has_word bins.Urem = tt
bin_has_word bins.Srem = tt
bin_has_word bins.And = tt
bin_has_word bins.Or = tt
bin_has_word bins.Xor = tt

pred_has_word : (question : Pred) → HasWord (pred_word question)
pred_has_word preds.Eq = tt
pred_has_word preds.Ne = tt
pred_has_word preds.Ugt = tt
pred_has_word preds.Uge = tt
pred_has_word preds.Ult = tt
pred_has_word preds.Ule = tt
pred_has_word preds.Sgt = tt
pred_has_word preds.Sge = tt
pred_has_word preds.Slt = tt
pred_has_word preds.Sle = tt

conv_has_word : (conversion : Conv) → HasWord (conv_word conversion)
conv_has_word convs.Zext = tt
conv_has_word convs.Sext = tt
conv_has_word convs.Trunc = tt

local_bytes : (s : Symbol) (name : List ℕ) → local_name s ≡ Some name → IsReadable s → AreBytes name
local_bytes (LocalSymbol own) name e g = let same : own ≡ name = cc in subst AreBytes same g
local_bytes _ name e g = cc

global_bytes : (s : Symbol) (name : List ℕ) → global_name s ≡ Some name → IsReadable s → AreBytes name
global_bytes (GlobalSymbol own) name e g = let same : own ≡ name = cc in subst AreBytes same g
global_bytes _ name e g = cc

number_within : (s : Symbol) (z : ℤ) → number_in s ≡ Some z → IsReadable s → IsWithin128 z
number_within (NumberSymbol own) z e g = let same : own ≡ z = cc in subst IsWithin128 same g
number_within _ z e g = cc

pub local_carries : Carries (one local_name) AreBytes
local_carries = carries_one local_name AreBytes local_bytes

pub global_carries : Carries (one global_name) AreBytes
global_carries = carries_one global_name AreBytes global_bytes

number_carries : Carries (one number_in) IsWithin128
number_carries = carries_one number_in IsWithin128 number_within

word_flag : (b : Bool) (k : Keyword) → HasWord k → ArePrintable (flag_word b k)
word_flag true k h = (h, tt)
word_flag false k h = tt

flags_printable : (f : Flags) → ArePrintable (flags_spelling f)
flags_printable f =
    let last = printable_both (flag_word f.nsw Nsw) (flag_word f.exact Exact) (word_flag f.nsw Nsw tt) (word_flag f.exact Exact tt) in
    printable_both (flag_word f.nuw Nuw) (flag_word f.nsw Nsw ++ flag_word f.exact Exact) (word_flag f.nuw Nuw tt) last

-- operands

abbrev IsValPrintable : ValShape → Type 0
IsValPrintable = Printable val_spelling

abbrev IsTyValPrintable : TyValShape → Type 0
IsTyValPrintable = Printable ty_val_spelling

abbrev IsTwoPrintable : TwoVals → Type 0
IsTwoPrintable = Both IsTyPrintable (Both IsValPrintable IsValPrintable)

val_printable : Carries val IsValPrintable
val_printable =
    carries_or (map_to local (one local_name)) (map_to fixed const) IsValPrintable
    (carries_map local (one local_name) AreBytes IsValPrintable (λ name h. (h, tt)) local_carries)
    (carries_map fixed const IsConstPrintable IsValPrintable (λ c h. h) const_printable)

ty_val_printable : Carries ty_val IsTyValPrintable
ty_val_printable =
    carries_map ty_val_of (seq ty val) (Both IsTyPrintable IsValPrintable) IsTyValPrintable (λ v h. printable_both (ty_spelling v.0) (val_spelling v.1) h.0 h.1)
    (carries_seq ty val IsTyPrintable IsValPrintable ty_printable val_printable)

more_printable : Carries more_ty_val IsTyValPrintable
more_printable = carries_skip (punct 44) ty_val IsTyValPrintable ty_val_printable

two_printable : Carries two_vals IsTwoPrintable
two_printable =
    carries_seq ty (seq val (skip (punct 44) val)) IsTyPrintable (Both IsValPrintable IsValPrintable) ty_printable
    (carries_seq val (skip (punct 44) val) IsValPrintable IsValPrintable val_printable (carries_skip (punct 44) val IsValPrintable val_printable))

two_are : (t : TyShape) (x y : ValShape) → IsTyPrintable t → IsValPrintable x → IsValPrintable y → ArePrintable (two_spelling t x y)
two_are t x y h g k = printable_both (ty_spelling t) (val_spelling x ++ more val_spelling y) h (printable_both (val_spelling x) (more val_spelling y) g (comma, k))

target_printable : Carries target AreBytes
target_printable = carries_skip label (one local_name) AreBytes local_carries

-- phis

abbrev pub IsBodyPrintable : BodyShape → Type 0
IsBodyPrintable = Printable body_spelling

abbrev IsInputPrintable : PhiInShape → Type 0
IsInputPrintable = Printable phi_input_spelling

input_is : (v : ValShape × List ℕ) → Both IsValPrintable AreBytes v → IsInputPrintable (phi_input_of v)
input_is v h =
    let inner = printable_both (val_spelling v.0) (MarkSymbol 44 ∷ LocalSymbol v.1 ∷ []) h.0 (comma, (h.1, tt)) in
    (opening_bracket, closed_printable (val_spelling v.0 ++ (MarkSymbol 44 ∷ LocalSymbol v.1 ∷ [])) 93 closing_bracket inner)

input_printable : Carries phi_input IsInputPrintable
input_printable =
    let parts = carries_seq val (skip (punct 44) (one local_name)) IsValPrintable AreBytes val_printable (carries_skip (punct 44) (one local_name) AreBytes local_carries) in
    let whole = carries_map phi_input_of (seq val (skip (punct 44) (one local_name))) (Both IsValPrintable AreBytes) IsInputPrintable input_is parts in
    carries_skip (punct 91) _ IsInputPrintable (carries_up_to (punct 93) (map_to phi_input_of (seq val (skip (punct 44) (one local_name)))) IsInputPrintable whole)

phi_is : (v : TyShape × List PhiInShape) → Both IsTyPrintable (Every IsInputPrintable) v → IsBodyPrintable (phi v.0 v.1)
phi_is v h = (tt, printable_both (ty_spelling v.0) (with_commas phi_input_spelling v.1) h.0 (listed_printable phi_input_spelling v.1 h.1))

-- a phi that readable symbols spell is printable
pub phi_printable : Carries grammar.phi IsBodyPrintable
phi_printable =
    let inputs = carries_items (punct 44) phi_input IsInputPrintable input_printable in
    carries_skip phi_word (map_to (λ v. phi v.0 v.1) (seq ty (items (punct 44) phi_input))) IsBodyPrintable
    (carries_map (λ v. phi v.0 v.1) (seq ty (items (punct 44) phi_input)) (Both IsTyPrintable (Every IsInputPrintable)) IsBodyPrintable phi_is
    (carries_seq ty (items (punct 44) phi_input) IsTyPrintable (Every IsInputPrintable) ty_printable inputs))

-- instructions, by the word that they begin with

binary_is : (operation : Bin) (v : Flags × TwoVals) → IsTwoPrintable v.1 → IsBodyPrintable (binary_of operation v)
binary_is operation v h =
    let p = v.1 in
    (bin_has_word operation, printable_both (flags_spelling v.0) (two_spelling p.0 p.1.0 p.1.1) (flags_printable v.0) (two_are p.0 p.1.0 p.1.1 h.0 h.1.0 h.1.1))

icmp_is : (v : Pred × TwoVals) → IsTwoPrintable v.1 → IsBodyPrintable (icmp_of v)
icmp_is v h = let p = v.1 in (tt, (pred_has_word v.0, two_are p.0 p.1.0 p.1.1 h.0 h.1.0 h.1.1))

select_is : (v : TyValShape × (TyValShape × TyValShape)) → Both IsTyValPrintable (Both IsTyValPrintable IsTyValPrintable) v → IsBodyPrintable (select_of v)
select_is v h =
    let last = printable_both (more ty_val_spelling v.1.0) (more ty_val_spelling v.1.1) (comma, h.1.0) (comma, h.1.1) in
    (tt, printable_both (ty_val_spelling v.0) (more ty_val_spelling v.1.0 ++ more ty_val_spelling v.1.1) h.0 last)

abbrev AreConverted : Converted → Type 0
AreConverted = Both IsTyPrintable (Both IsValPrintable IsTyPrintable)

converted_printable : Carries converted AreConverted
converted_printable =
    carries_seq ty (seq val (skip into ty)) IsTyPrintable (Both IsValPrintable IsTyPrintable) ty_printable
    (carries_seq val (skip into ty) IsValPrintable IsTyPrintable val_printable (carries_skip into ty IsTyPrintable ty_printable))

convert_is : (conversion : Conv) (v : Converted) → AreConverted v → IsBodyPrintable (convert_of conversion v)
convert_is conversion v h =
    let last = printable_both (val_spelling v.1.0) (KeywordSymbol To ∷ ty_spelling v.1.1) h.1.0 (tt, h.1.1) in
    (conv_has_word conversion, printable_both (ty_spelling v.0) (val_spelling v.1.0 ++ KeywordSymbol To ∷ ty_spelling v.1.1) h.0 last)

written_printable : (z : ℤ) → IsWithin128 z → ArePrintable (count_written z)
written_printable z h = (comma, ((lit< tt, lit< tt), (h, tt)))

count_printable : (z : ℤ) → IsWithin128 z → ArePrintable (count_spelling z)
count_printable (pos n) h = by_test (n == 1)
  where
    by_test : (b : Bool) → ArePrintable (if b then [] else count_written (pos n))
    by_test true = tt
    by_test false = written_printable (pos n) h
count_printable (negsuc n) h = written_printable (negsuc n) h

count_within : (v : Option (TyShape × ℤ)) → Perhaps (Both Anything IsWithin128) v → IsWithin128 (count_of v)
count_within None h = lit< tt
count_within (Some v) h = h.1

counted_carries : Carries counted (Both Anything IsWithin128)
counted_carries =
    carries_skip (punct 44) (seq ty (one number_in)) (Both Anything IsWithin128) (carries_seq ty (one number_in) Anything IsWithin128 (carries_any ty) number_carries)

alloca_is : (v : TyShape × Option (TyShape × ℤ)) → Both IsTyPrintable (Perhaps (Both Anything IsWithin128)) v → IsBodyPrintable (alloca_of v)
alloca_is v h = (tt, printable_both (ty_spelling v.0) (count_spelling (count_of v.1)) h.0 (count_printable (count_of v.1) (count_within v.1 h.1)))

load_is : (v : TyShape × TyValShape) → Both IsTyPrintable IsTyValPrintable v → IsBodyPrintable (load v.0 v.1)
load_is v h = (tt, printable_both (ty_spelling v.0) (more ty_val_spelling v.1) h.0 (comma, h.1))

store_is : (v : TyValShape × TyValShape) → Both IsTyValPrintable IsTyValPrintable v → IsBodyPrintable (store v.0 v.1)
store_is v h = (tt, printable_both (ty_val_spelling v.0) (more ty_val_spelling v.1) h.0 (comma, h.1))

abbrev AreElement : Element → Type 0
AreElement = Both Anything (Both IsTyPrintable (Both IsTyValPrintable (Every IsTyValPrintable)))

element_is : (v : Element) → AreElement v → IsBodyPrintable (element_of v)
element_is v h =
    let p = v.1 in
    let base = p.1.0 in
    let row = p.1.1 in
    let last = printable_both (more ty_val_spelling base) (in_a_row (more ty_val_spelling) row) (comma, h.1.1.0) (commas_printable ty_val_spelling row h.1.1.1) in
    let typed = printable_both (ty_spelling p.0) (more ty_val_spelling base ++ in_a_row (more ty_val_spelling) row) h.1.0 last in
    (tt, printable_both (flag_spelling v.0) (ty_spelling p.0 ++ (more ty_val_spelling base ++ in_a_row (more ty_val_spelling) row)) (flag_printable v.0) typed)

abbrev AreCalled : Called → Type 0
AreCalled = Both IsTyPrintable (Both AreBytes (Every IsTyValPrintable))

callee_printable : (name : List ℕ) → AreBytes name → IsValPrintable (fixed (global name))
unfolding const_spelling
callee_printable name h = (h, tt)

call_is : (v : Called) → AreCalled v → IsBodyPrintable (call_of v)
call_is v h =
    let row = v.1.1 in
    let callee = fixed (global v.1.0) in
    let inner = closed_printable (with_commas ty_val_spelling row) 41 closing_parenthesis (listed_printable ty_val_spelling row h.1.1) in
    let last = printable_both (val_spelling callee) (MarkSymbol 40 ∷ (with_commas ty_val_spelling row ++ MarkSymbol 41 ∷ [])) (callee_printable v.1.0 h.1.0) (opening_parenthesis, inner) in
    (tt, printable_both (ty_spelling v.0) (val_spelling callee ++ MarkSymbol 40 ∷ (with_commas ty_val_spelling row ++ MarkSymbol 41 ∷ [])) h.0 last)

select_carries : Carries (seq ty_val (seq more_ty_val more_ty_val)) (Both IsTyValPrintable (Both IsTyValPrintable IsTyValPrintable))
select_carries =
    carries_seq ty_val (seq more_ty_val more_ty_val) IsTyValPrintable (Both IsTyValPrintable IsTyValPrintable) ty_val_printable
    (carries_seq more_ty_val more_ty_val IsTyValPrintable IsTyValPrintable more_printable more_printable)

alloca_carries : Carries (seq ty (maybe counted)) (Both IsTyPrintable (Perhaps (Both Anything IsWithin128)))
alloca_carries =
    carries_seq ty (maybe counted) IsTyPrintable (Perhaps (Both Anything IsWithin128)) ty_printable (carries_maybe counted (Both Anything IsWithin128) counted_carries)

element_carries : Carries (seq address_flags (seq ty (seq more_ty_val (many more_ty_val)))) AreElement
element_carries =
    let row = carries_seq more_ty_val (many more_ty_val) IsTyValPrintable (Every IsTyValPrintable) more_printable (carries_many more_ty_val IsTyValPrintable more_printable) in
    let typed = carries_seq ty (seq more_ty_val (many more_ty_val)) IsTyPrintable (Both IsTyValPrintable (Every IsTyValPrintable)) ty_printable row in
    carries_seq address_flags (seq ty (seq more_ty_val (many more_ty_val))) Anything (Both IsTyPrintable (Both IsTyValPrintable (Every IsTyValPrintable))) (carries_any address_flags) typed

call_carries : Carries (seq ty (seq (one global_name) (skip (punct 40) (listed (punct 44) (punct 41) ty_val)))) AreCalled
call_carries =
    let row = carries_skip (punct 40) (listed (punct 44) (punct 41) ty_val) (Every IsTyValPrintable) (carries_listed (punct 44) (punct 41) ty_val IsTyValPrintable ty_val_printable) in
    let named = carries_seq (one global_name) (skip (punct 40) (listed (punct 44) (punct 41) ty_val)) AreBytes (Every IsTyValPrintable) global_carries row in
    carries_seq ty (seq (one global_name) (skip (punct 40) (listed (punct 44) (punct 41) ty_val))) IsTyPrintable (Both AreBytes (Every IsTyValPrintable)) ty_printable named

rest_printable : (head : InstHead) → Carries (inst_rest head) IsBodyPrintable
rest_printable (WrappingWord operation) =
    carries_map (binary_of operation) (seq wrap_flags two_vals) (Both Anything IsTwoPrintable) IsBodyPrintable (λ v h. binary_is operation v h.1)
    (carries_seq wrap_flags two_vals Anything IsTwoPrintable (carries_any wrap_flags) two_printable)
rest_printable (ExactWord operation) =
    carries_map (binary_of operation) (seq exact_flag two_vals) (Both Anything IsTwoPrintable) IsBodyPrintable (λ v h. binary_is operation v h.1)
    (carries_seq exact_flag two_vals Anything IsTwoPrintable (carries_any exact_flag) two_printable)
rest_printable (PlainWord operation) =
    carries_map (λ v. binary_of operation (no_flags, v)) two_vals IsTwoPrintable IsBodyPrintable (λ v h. binary_is operation (no_flags, v) h) two_printable
rest_printable IcmpWord =
    carries_map icmp_of (seq predicate two_vals) (Both Anything IsTwoPrintable) IsBodyPrintable (λ v h. icmp_is v h.1)
    (carries_seq predicate two_vals Anything IsTwoPrintable (carries_any predicate) two_printable)
rest_printable SelectWord =
    carries_map select_of (seq ty_val (seq more_ty_val more_ty_val)) (Both IsTyValPrintable (Both IsTyValPrintable IsTyValPrintable)) IsBodyPrintable select_is select_carries
rest_printable (ExtendWord conversion) = carries_map (convert_of conversion) converted AreConverted IsBodyPrintable (convert_is conversion) converted_printable
rest_printable TruncWord =
    carries_map (λ v. convert_of convs.Trunc v.1) (seq wrap_flags converted) (Both Anything AreConverted) IsBodyPrintable (λ v h. convert_is convs.Trunc v.1 h.1)
    (carries_seq wrap_flags converted Anything AreConverted (carries_any wrap_flags) converted_printable)
rest_printable FreezeWord =
    carries_map (λ v. freeze v.0 v.1) (seq ty val) (Both IsTyPrintable IsValPrintable) IsBodyPrintable (λ v h. (tt, printable_both (ty_spelling v.0) (val_spelling v.1) h.0 h.1))
    (carries_seq ty val IsTyPrintable IsValPrintable ty_printable val_printable)
rest_printable AllocaWord = carries_map alloca_of (seq ty (maybe counted)) (Both IsTyPrintable (Perhaps (Both Anything IsWithin128))) IsBodyPrintable alloca_is alloca_carries
rest_printable LoadWord =
    carries_map (λ v. load v.0 v.1) (seq ty more_ty_val) (Both IsTyPrintable IsTyValPrintable) IsBodyPrintable load_is
    (carries_seq ty more_ty_val IsTyPrintable IsTyValPrintable ty_printable more_printable)
rest_printable StoreWord =
    carries_map (λ v. store v.0 v.1) (seq ty_val more_ty_val) (Both IsTyValPrintable IsTyValPrintable) IsBodyPrintable store_is
    (carries_seq ty_val more_ty_val IsTyValPrintable IsTyValPrintable ty_val_printable more_printable)
rest_printable ElementWord = carries_map element_of (seq address_flags (seq ty (seq more_ty_val (many more_ty_val)))) AreElement IsBodyPrintable element_is element_carries
rest_printable CallWord =
    carries_map call_of (seq ty (seq (one global_name) (skip (punct 40) (listed (punct 44) (punct 41) ty_val)))) AreCalled IsBodyPrintable call_is call_carries

-- an instruction that readable symbols spell is printable
pub inst_printable : Carries inst IsBodyPrintable
inst_printable ts v word g = rest_printable word.2 word.1 v word.5 (tail_of ts word.0 word.1 word.3 g)

-- terminators

more_target_carries : Carries more_target AreBytes
more_target_carries = carries_skip (punct 44) target AreBytes target_printable

branch_is : (v : TyValShape × (List ℕ × List ℕ)) → Both IsTyValPrintable (Both AreBytes AreBytes) v → IsBodyPrintable (branch_of v)
branch_is v h =
    let last = printable_both (more target_spelling v.1.0) (more target_spelling v.1.1) (comma, (tt, (h.1.0, tt))) (comma, (tt, (h.1.1, tt))) in
    (tt, printable_both (ty_val_spelling v.0) (more target_spelling v.1.0 ++ more target_spelling v.1.1) h.0 last)

two_ways_printable : Carries two_ways IsBodyPrintable
two_ways_printable =
    carries_map branch_of (seq ty_val (seq more_target more_target)) (Both IsTyValPrintable (Both AreBytes AreBytes)) IsBodyPrintable branch_is
    (carries_seq ty_val (seq more_target more_target) IsTyValPrintable (Both AreBytes AreBytes) ty_val_printable
    (carries_seq more_target more_target AreBytes AreBytes more_target_carries more_target_carries))

abbrev IsCasePrintable : CaseShape → Type 0
IsCasePrintable = Printable case_spelling

case_is : (v : TyShape × (ℤ × List ℕ)) → Both IsTyPrintable (Both IsWithin128 AreBytes) v → IsCasePrintable (case_of v)
case_is v h = printable_both (ty_spelling v.0) (NumberSymbol v.1.0 ∷ more target_spelling v.1.1) h.0 (h.1.0, (comma, (tt, (h.1.1, tt))))

case_printable : Carries switch_case IsCasePrintable
case_printable =
    carries_map case_of (seq ty (seq (one number_in) more_target)) (Both IsTyPrintable (Both IsWithin128 AreBytes)) IsCasePrintable case_is
    (carries_seq ty (seq (one number_in) more_target) IsTyPrintable (Both IsWithin128 AreBytes) ty_printable
    (carries_seq (one number_in) more_target IsWithin128 AreBytes number_carries more_target_carries))

abbrev AreSwitched : TyValShape × (List ℕ × List CaseShape) → Type 0
AreSwitched = Both IsTyValPrintable (Both AreBytes (Every IsCasePrintable))

switch_is : (v : TyValShape × (List ℕ × List CaseShape)) → AreSwitched v → IsBodyPrintable (switch_of v)
switch_is v h =
    let cases = v.1.1 in
    let inner = closed_printable (in_a_row case_spelling cases) 93 closing_bracket (row_printable case_spelling cases h.1.1) in
    let last = printable_both (more target_spelling v.1.0) (MarkSymbol 91 ∷ (in_a_row case_spelling cases ++ MarkSymbol 93 ∷ [])) (comma, (tt, (h.1.0, tt))) (opening_bracket, inner) in
    (tt, printable_both (ty_val_spelling v.0) (more target_spelling v.1.0 ++ MarkSymbol 91 ∷ (in_a_row case_spelling cases ++ MarkSymbol 93 ∷ [])) h.0 last)

switch_carries : Carries (seq ty_val (seq more_target (skip (punct 91) (until (punct 93) switch_case)))) AreSwitched
switch_carries =
    let row = carries_skip (punct 91) (until (punct 93) switch_case) (Every IsCasePrintable) (carries_until (punct 93) switch_case IsCasePrintable case_printable) in
    carries_seq ty_val (seq more_target (skip (punct 91) (until (punct 93) switch_case))) IsTyValPrintable (Both AreBytes (Every IsCasePrintable)) ty_val_printable
    (carries_seq more_target (skip (punct 91) (until (punct 93) switch_case)) AreBytes (Every IsCasePrintable) more_target_carries row)

term_rest_printable : (head : TermHead) → Carries (term_rest head) IsBodyPrintable
term_rest_printable BrWord =
    carries_or (map_to jump target) two_ways IsBodyPrintable (carries_map jump target AreBytes IsBodyPrintable (λ name h. (tt, (tt, (h, tt)))) target_printable) two_ways_printable
term_rest_printable SwitchWord =
    carries_map switch_of (seq ty_val (seq more_target (skip (punct 91) (until (punct 93) switch_case)))) AreSwitched IsBodyPrintable switch_is switch_carries
term_rest_printable RetWord =
    carries_or (skip void_word (empty return_void)) (map_to return_value ty_val) IsBodyPrintable
    (carries_skip void_word (empty return_void) IsBodyPrintable (λ ts v word g. subst IsBodyPrintable (sym word.1) (tt, (tt, tt))))
    (carries_map return_value ty_val IsTyValPrintable IsBodyPrintable (λ v h. (tt, h)) ty_val_printable)
term_rest_printable UnreachableWord = λ ts v word g. subst IsBodyPrintable (sym word.1) (tt, tt)

-- a terminator that readable symbols spell is printable
pub term_printable : Carries term IsBodyPrintable
term_printable ts v word g = term_rest_printable word.2 word.1 v word.5 (tail_of ts word.0 word.1 word.3 g)
