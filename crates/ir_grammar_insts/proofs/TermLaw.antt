-- The law of the reader of terminators.
use Rattle.std.proofs.Common.{◌≡◌, ℕ, true, false, List, [], ◌∷◌, ◌++◌, Option, None, Some, refl, sym, ◌∙◌, ap, is_some, pos, inl, inr}
use Rattle.grammar.specs.Language.{Lang, Mark, mark, skip, map_to, maybe, or_else}
use Rattle.grammar.specs.Reader.{heads, opens}
use Rattle.grammar.proofs.Good.{never, Good, Starts}
use Rattle.grammar.proofs.Sides.{starts_pick, starts_map, starts_seq, joins_starts}
use Rattle.grammar.proofs.Laws.{good_one, good_next, good_map, good_or, good_maybe, good_closed, good_empty, good_same}
use Rattle.grammar.proofs.Lists.{good_until}
use Rattle.grammar.proofs.Recursion.{recursive_in, recursive_out}
use Rattle.ir_tree.specs.Shape.{TyShape, void, ValShape, BodyShape, jump, return_value, unreachable}
use Rattle.ir_words.specs.declared.words.Keyword.TheVariants.{Void, Label, Unreachable}
use Rattle.ir_lex.specs.Symbols.{Symbol, KeywordSymbol, NumberSymbol, MarkSymbol, number_in}
use Rattle.ir_cursor.specs.Marks.{punct}
use Rattle.ir_grammar_consts.specs.Types.{TyHead, WholeType, ty_head, ty_rest, ty_rule, ty}
use Rattle.ir_grammar_consts.proofs.Sides.{punct_apart}
use Rattle.ir_grammar_consts.proofs.TypeLaw.{starts_ty, good_ty, regular_ty}
use Rattle.ir_grammar_insts.specs.Operands.{label, val, begins_val, ty_val}
use Rattle.ir_grammar_insts.specs.Terminators.{void_word, more_target, two_ways, switch_case, switch, term_head, term_rest, term, run_more_target, run_two_ways, return_of, run_switch_case, run_switch, run_ret, run_term_rest, run_term}
use Rattle.ir_grammar_insts.specs.declared.heads.TermHead.{TermHead}
use Rattle.ir_grammar_insts.specs.declared.heads.TermHead.TheVariants.{BrWord, SwitchWord, RetWord, UnreachableWord}
use Rattle.ir_grammar_insts.proofs.OperandLaw.{good_before, good_comma, good_val, starts_val, good_ty_val, starts_ty_val, good_target}
use Rattle.ir_grammar_insts.proofs.Overlap.{opens_front, good_over}

good_more_target : (n : ℕ) → Good n more_target run_more_target never
good_more_target n = good_comma (good_target n)

pub good_two_ways : (n : ℕ) → Good n two_ways (run_two_ways n) never
good_two_ways n = good_map _ (good_before (good_ty_val n) (good_before (good_more_target n) (good_more_target n)))

pub good_switch_case : (n : ℕ) → Good n switch_case (run_switch_case n) never
good_switch_case n =
    good_map _ (good_before (good_ty n) (good_before (good_one n number_in (NumberSymbol (pos 0)) (pos 0) never refl) (good_more_target n)))

starts_case : Starts (heads ty_head) switch_case
starts_case = starts_map _ (starts_seq _ starts_ty)

pub good_switch : (n : ℕ) → Good n switch (run_switch n) never
good_switch n =
    good_map _ (good_before (good_ty_val n) (good_before (good_more_target n)
    (good_next (punct 91) (MarkSymbol 91) mark refl
    (λ _. good_until n (punct 93) (MarkSymbol 93) mark never refl starts_case (punct_apart ty_head 93 refl) (λ t h. refl) (λ t h. refl) (good_switch_case n)))))

-- no type begins with `label`
ty_unlabelled : (t : Symbol) → heads ty_head t ≡ true → heads label t ≡ false
ty_unlabelled (KeywordSymbol Label) h = cc
ty_unlabelled _ h = refl

good_br : (n : ℕ) → Good n (term_rest BrWord) (run_term_rest n BrWord) never
good_br n =
    good_or (heads label) (starts_map jump (starts_pick label _)) (joins_starts (starts_map _ (starts_seq _ starts_ty_val)) ty_unlabelled)
    (good_map jump (good_target n)) (good_two_ways n)

void_is : (t : Symbol) → heads void_word t ≡ true → t ≡ KeywordSymbol Void
void_is (KeywordSymbol Void) h = refl
void_is _ h = cc

void_head : (t : Symbol) (head : TyHead) → heads void_word t ≡ true → ty_head t ≡ Some head → head ≡ WholeType void
void_head (KeywordSymbol Void) head h e = cc
void_head _ head h e = cc

void_rest : (L : Lang Symbol TyShape) (head : TyHead) (q : List Symbol) (t : TyShape) → head ≡ WholeType void → ty_rest L head q t → (q ≡ []) × (t ≡ void)
void_rest L (WholeType u) q t e word = let same : u ≡ void = cc in (word.0, word.1 ∙ same)
void_rest L _ q t e word = cc

-- a type that begins with `void` is no more than that
void_alone : (p : List Symbol) (t : TyShape) → ty p t → opens (heads void_word) p ≡ true → (p ≡ KeywordSymbol Void ∷ []) × (t ≡ void)
void_alone p t word o =
    let out = (recursive_out ty_rule regular_ty).at p t word in
    let known : heads void_word out.0 ≡ true = sym (ap (opens (heads void_word)) out.3) ∙ o in
    let rest = void_rest ty out.2 out.1 t (void_head out.0 out.2 known out.4) out.5 in
    let head : out.0 ≡ KeywordSymbol Void = void_is out.0 known in
    let tail : out.1 ≡ [] = rest.0 in
    let whole : p ≡ out.0 ∷ out.1 = out.3 in
    let all : p ≡ KeywordSymbol Void ∷ [] = cc in
    (all, rest.1)

void_spelled : ty (KeywordSymbol Void ∷ []) void
void_spelled = (recursive_in ty_rule regular_ty).at (KeywordSymbol Void ∷ []) void (KeywordSymbol Void, [], WholeType void, refl, refl, (refl, refl))

-- what follows `ret`, so that the first symbol decides: after `void` there may be a value
abbrev void_return : Lang Symbol BodyShape
void_return = skip void_word (map_to return_of (maybe val))

abbrev decided : Lang Symbol BodyShape
decided = or_else void_return (map_to return_value ty_val)

-- a type and a value that begin with `void` are `void` and a value
return_over : (x : List Symbol) (w : BodyShape) → map_to return_value ty_val x w → opens (heads void_word) x ≡ true → void_return x w
return_over x w word o =
    let pair = word.1.0 in
    let inner = word.1.1 in
    let whole : opens (heads void_word) (inner.0 ++ inner.1) ≡ true = ap (opens (heads void_word)) (sym inner.2) ∙ o in
    let front : opens (heads void_word) inner.0 ≡ true =
    sym (opens_front (heads void_word) (heads ty_head) ty starts_ty inner.0 inner.1 pair.0 inner.3) ∙ whole in
    let alone = void_alone inner.0 pair.0 inner.3 front in
    let cut : x ≡ KeywordSymbol Void ∷ inner.1 = inner.2 ∙ ap (λ z. z ++ inner.1) alone.0 in
    let value : w ≡ return_of (Some pair.1) = word.2 ∙ ap return_value word.1.2 ∙ ap (λ z. return_value (record { ty = z; val = pair.1 })) alone.1 in
    (KeywordSymbol Void, inner.1, mark, cut, refl, (Some pair.1, inner.4, value))

good_decided : (n : ℕ) → Good n decided (run_ret n) begins_val
good_decided n =
    good_over (heads void_word) (heads ty_head) (starts_pick void_word _) (starts_map return_value starts_ty_val) return_over
    (good_next void_word (KeywordSymbol Void) mark refl
    (λ _. good_map return_of (good_maybe begins_val starts_val (λ t h. h) (good_closed begins_val (good_val n)))))
    (good_closed begins_val (good_map return_value (good_ty_val n)))

void_into : (ts : List Symbol) (w : BodyShape) (t : Symbol) (q : List Symbol) (k : Mark) (o : Option ValShape) → ts ≡ t ∷ q → void_word t ≡ Some k
    → maybe val q o → w ≡ return_of o → term_rest RetWord ts w
void_into ts w t q k None cut known word e = inl (t, q, k, cut, known, (word, e))
void_into ts w t q k (Some v) cut known word e =
    let head : t ≡ KeywordSymbol Void = void_is t (ap is_some known) in
    inr (record { ty = void; val = v }, ((void, v), (KeywordSymbol Void ∷ [], q, cut ∙ ap (λ z. z ∷ q) head, void_spelled, word), refl), e)

pub ret_into : (ts : List Symbol) (w : BodyShape) → decided ts w → term_rest RetWord ts w
ret_into ts w (inl u) = void_into ts w u.0 u.1 u.2 u.5.0 u.3 u.4 u.5.1 u.5.2
ret_into ts w (inr u) = inr u

ret_back : (ts : List Symbol) (w : BodyShape) → term_rest RetWord ts w → decided ts w
ret_back ts w (inl u) = inl (u.0, u.1, u.2, u.3, u.4, (None, u.5.0, u.5.1))
ret_back ts w (inr u) = inr u

-- a value goes on with `ret void`
pub good_ret : (n : ℕ) → Good n (term_rest RetWord) (run_ret n) begins_val
good_ret n = good_same (record { at = ret_into }) (record { at = ret_back }) (good_decided n)

rest_good : (n : ℕ) (head : TermHead) → Good n (term_rest head) (run_term_rest n head) begins_val
rest_good n BrWord = good_closed _ (good_br n)
rest_good n SwitchWord = good_closed _ (good_switch n)
rest_good n RetWord = good_ret n
rest_good n UnreachableWord = good_empty n unreachable begins_val

pub good_term : (n : ℕ) → Good n term (run_term n) begins_val
good_term n = good_next term_head (KeywordSymbol Unreachable) UnreachableWord refl (rest_good n)
