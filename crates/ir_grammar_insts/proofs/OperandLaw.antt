-- The laws of the readers of operands.
use Rattle.std.proofs.Common.{◌≡◌, ℕ, Bool, true, false, [], refl}
use Rattle.grammar.specs.Language.{Lang, mark, one, skip, seq}
use Rattle.grammar.specs.Reader.{Reader, heads, run_one, run_skip, run_seq}
use Rattle.grammar.proofs.Good.{never, Good, Starts}
use Rattle.grammar.proofs.Sides.{starts_pick, starts_map, starts_seq, starts_or, starts_more, joins_never, joins_starts}
use Rattle.grammar.proofs.Laws.{good_one, good_next, good_map, good_seq, good_or}
use Rattle.ir_tree.specs.Shape.{local, fixed}
use Rattle.ir_words.specs.declared.words.Keyword.TheVariants.{Label}
use Rattle.ir_lex.specs.Symbols.{Symbol, KeywordSymbol, LocalSymbol, MarkSymbol}
use Rattle.ir_cursor.specs.Marks.{punct}
use Rattle.ir_grammar_consts.specs.Types.{ty_head}
use Rattle.ir_grammar_consts.specs.Constants.{const_head}
use Rattle.ir_grammar_consts.proofs.TypeLaw.{starts_ty, good_ty}
use Rattle.ir_grammar_consts.proofs.ConstLaw.{starts_const, good_const}
use Rattle.ir_grammar_insts.specs.Operands.{local_name, label, val, begins_val, ty_val_of, ty_val, more_ty_val, two_vals, target, run_val, run_ty_val, run_more_ty_val, run_two_vals, run_target}

-- a closed a, and then a b
pub good_before : {A B : Type 0} {n : ℕ} {a : Lang Symbol A} {b : Lang Symbol B} {ra : Reader Symbol A} {rb : Reader Symbol B} {s : Symbol → Bool}
    → Good n a ra never → Good n b rb s → Good n (seq a b) (run_seq ra rb) s
good_before {b = b} {s = s} g h = good_seq (joins_never b s) g h

-- a comma, and then an a
pub good_comma : {A : Type 0} {n : ℕ} {a : Lang Symbol A} {ra : Reader Symbol A} {s : Symbol → Bool}
    → Good n a ra s → Good n (skip (punct 44) a) (run_skip (punct 44) ra) s
good_comma g = good_next (punct 44) (MarkSymbol 44) mark refl (λ _. g)

const_unnamed : (t : Symbol) → heads const_head t ≡ true → heads local_name t ≡ false
const_unnamed (LocalSymbol name) h = cc
const_unnamed _ h = refl

pub good_val : (n : ℕ) → Good n val (run_val n) never
good_val n =
    good_or (heads local_name) (starts_map local (starts_pick local_name _)) (joins_starts (starts_map fixed starts_const) const_unnamed)
    (good_map local (good_one n local_name (LocalSymbol []) [] never refl)) (good_map fixed (good_const n))

name_begins : (t : Symbol) → heads local_name t ≡ true → begins_val t ≡ true
name_begins (LocalSymbol name) h = refl
name_begins _ h = cc

const_begins : (t : Symbol) → heads const_head t ≡ true → begins_val t ≡ true
const_begins (LocalSymbol name) h = refl
const_begins _ h = h

pub starts_val : Starts begins_val val
starts_val =
    starts_or (starts_map local (starts_more begins_val name_begins (starts_pick local_name _))) (starts_map fixed (starts_more begins_val const_begins starts_const))

pub good_ty_val : (n : ℕ) → Good n ty_val (run_ty_val n) never
good_ty_val n = good_map ty_val_of (good_before (good_ty n) (good_val n))

pub starts_ty_val : Starts (heads ty_head) ty_val
starts_ty_val = starts_map ty_val_of (starts_seq val starts_ty)

pub good_more_ty_val : (n : ℕ) → Good n more_ty_val (run_more_ty_val n) never
good_more_ty_val n = good_comma (good_ty_val n)

pub good_two_vals : (n : ℕ) → Good n two_vals (run_two_vals n) never
good_two_vals n = good_before (good_ty n) (good_before (good_val n) (good_comma (good_val n)))

pub starts_two_vals : Starts (heads ty_head) two_vals
starts_two_vals = starts_seq _ starts_ty

pub good_name : (n : ℕ) (s : Symbol → Bool) → Good n (one local_name) (run_one local_name) s
good_name n s = good_one n local_name (LocalSymbol []) [] s refl

pub good_target : (n : ℕ) → Good n target run_target never
good_target n = good_next label (KeywordSymbol Label) mark refl (λ _. good_name n never)
