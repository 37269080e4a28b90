-- From a reader of the tokens as far as one type or constant goes to the answer for all tokens.
use Rattle.std.proofs.Common.{◌≡◌, ℕ, ◌+◌, ◌-◌, ◌==◌, ◌≤◌, ◌<◌, ◌⊎◌, Bool, true, false, List, [], ◌∷◌, ◌++◌, length, take, drop, None, Some, Result, Ok, Err, refl, sym, ◌∙◌, ap, subst, arith, inl, inr, eq-eqb, eqb-true}
use Rattle.std.proofs.lemmas.List.{drop-take, length-drop, length-take-le, take-append-drop, append-nil}
use Rattle.grammar.specs.Language.{Lang}
use Rattle.grammar.specs.Reader.{Got, Wrong, Reader}
use Rattle.grammar.specs.FirstWrong.{Reads}
use Rattle.grammar.specs.Code.{Gives}
use Rattle.grammar.specs.declared.Stop.{Stop}
use Rattle.grammar.specs.declared.Stop.TheVariants.{WrongSymbol, OutOfMemory}
use Rattle.grammar.proofs.Good.{never, Good}
use Rattle.grammar.proofs.Reading.{reads, reads_on, wrong_stays}
use Rattle.ir_lex.specs.Symbols.{Symbol, symbols_of}
use Rattle.ir_lex.specs.declared.token.Token.{Token}
use Rattle.ir_grammar_consts.specs.Depth.{IsShallow}
use Rattle.ir_grammar_consts.specs.Counting.{deep_len}
use Rattle.ir_grammar_consts.proofs.Depths.{deep_found}
use Rattle.ir_grammar_consts.proofs.Ends.{Ends}
use Rattle.ir_grammar_consts.proofs.DeepLaw.{closed_end, cut_got, cut_wrong, cut_deep}
use Rattle.ir_const.specs.Places.{stopped_at, error_of}
use Rattle.ir_const.specs.Answers.{symbols_from, Answers}
use Rattle.ir_const.specs.Reach.{reach}
use Rattle.ir_const.specs.declared.error.ReadError.{ReadError}
use Rattle.ir_const.proofs.Cuts.{symbols_cut, symbols_count, two_parts, drop_drop}
use Rattle.ir_const.proofs.Wholes.{Wholes, nil_left}
use Rattle.ir_const.proofs.Reaches.{reach_deep, reach_shallow, reach_ends, reach_within, IsShut, near_shallow, shut_read}

-- the answer that the code makes of what its reader gives
abbrev pub answer_of : {A : Type 0} → List ℕ → List Token → Bool → ℕ → Result (A × ℕ) Stop → Result (A × ℕ) ReadError
answer_of text toks deep end (Ok x) = Ok x
answer_of text toks deep end (Err e) = Err (error_of text toks deep end e)

-- the reader stopped at the token numbered k of those up to the bracket
cut_stopped : {V A : Type 0} {n : ℕ} {L : Lang Symbol V} {r : Reader Symbol V} → Good n L r never → Ends closed_end L → (view : A → V) (text : List ℕ) (toks : List Token) (from : ℕ)
    → length (symbols_from text toks from) ≤ n → (count : ℕ) → deep_len 0 (symbols_from text toks from) ≡ Some count → from + count ≤ length toks → 0 < count
    → (k : ℕ) → k ≤ from + count → (rest : List Symbol) → rest ≡ drop k (take (from + count) (symbols_of text toks))
    → r (take count (symbols_from text toks from)) ≡ Wrong rest
    → (same : Bool) → (from + count == k) ≡ same → Answers L view text toks from (Err (stopped_at text toks true (from + count) k))
cut_stopped {L = L} g ends view text toks from short count e fits some k low [] is given true same =
    let here : from + count ≡ k = eqb-true (from + count) k same in
    let less : length (take count (symbols_from text toks from)) ≤ length (symbols_from text toks from) = omega (arith, (deep_found 0 (symbols_from text toks from) count (omega arith) e).1, length-take-le count (symbols_from text toks from) (deep_found 0 (symbols_from text toks from) count (omega arith) e).1) in
    rw same (k - 1, omega arith, refl, count, omega arith, cut_deep g (symbols_from text toks from) count e (omega arith) given)
cut_stopped g ends view text toks from short count e fits some k low [] is given false same =
    let long : length (take (from + count) (symbols_of text toks)) ≡ from + count = length-take-le (from + count) (symbols_of text toks) (omega (arith, symbols_count text toks)) in
    let none : length (drop k (take (from + count) (symbols_of text toks))) ≡ 0 = ap length (sym is) in
    let here : from + count ≡ k = omega (arith, low, long, none, length-drop k (take (from + count) (symbols_of text toks))) in
    let yes : (from + count == k) ≡ true = eq-eqb (from + count) k here in
    absurd (let no : true ≡ false = sym yes ∙ same in cc)
cut_stopped g ends view text toks from short count e fits some k low (t ∷ rest) is given true same =
    let here : from + count ≡ k = eqb-true (from + count) k same in
    let long : length (take (from + count) (symbols_of text toks)) ≡ from + count = length-take-le (from + count) (symbols_of text toks) (omega (arith, symbols_count text toks)) in
    let one : length (drop k (take (from + count) (symbols_of text toks))) ≡ length (t ∷ rest) = ap length (sym is) in
    absurd (omega (arith, long, here, one, length-drop k (take (from + count) (symbols_of text toks))))
cut_stopped {L = L} g ends view text toks from short count e fits some k low (t ∷ rest) is given false same =
    let answer = cut_wrong g ends (symbols_from text toks from) count e short t rest given in
    let line : t ∷ (rest ++ drop count (symbols_from text toks from)) ≡ symbols_from text toks k =
    ap (λ z. z ++ drop count (symbols_from text toks from)) is ∙ ap (λ z. drop k (take (from + count) (symbols_of text toks)) ++ z) (drop_drop from count (symbols_of text toks))
    ∙ two_parts k (from + count) (symbols_of text toks) low in
    rw same (k, omega arith, refl, subst (λ z. Reads L (symbols_from text toks from) (Wrong z)) line answer.0, answer.1)

-- the tokens were cut after a bracket
cut_answers : {V A : Type 0} {n : ℕ} {L : Lang Symbol V} {r : Reader Symbol V} → Good n L r never → Ends closed_end L → (view : A → V) (text : List ℕ) (toks : List Token) (from : ℕ)
    → length (symbols_from text toks from) ≤ n → (count : ℕ) → deep_len 0 (symbols_from text toks from) ≡ Some count → from + count ≤ length toks → 0 < count
    → (result : Result (A × ℕ) Stop) → Gives view (take (from + count) (symbols_of text toks)) result (r (take count (symbols_from text toks from)))
    → Answers L view text toks from (answer_of text toks true (from + count) result)
cut_answers {L = L} g ends view text toks from short count e fits some (Ok x) given =
    let long : length (take (from + count) (symbols_of text toks)) ≡ from + count = length-take-le (from + count) (symbols_of text toks) (omega (arith, symbols_count text toks)) in
    let low : x.1 ≤ from + count = omega (arith, given.1, long) in
    let answer = cut_got g ends (symbols_from text toks from) count e short (view x.0) (drop x.1 (take (from + count) (symbols_of text toks))) given.0 in
    let line : drop x.1 (take (from + count) (symbols_of text toks)) ++ drop count (symbols_from text toks from) ≡ symbols_from text toks x.1 =
    ap (λ z. drop x.1 (take (from + count) (symbols_of text toks)) ++ z) (drop_drop from count (symbols_of text toks)) ∙ two_parts x.1 (from + count) (symbols_of text toks) low in
    (subst (λ z. Reads L (symbols_from text toks from) (Got (view x.0) z)) line answer.0, omega arith, answer.1)
cut_answers g ends view text toks from short count e fits some (Err (WrongSymbol k)) given =
    let long : length (take (from + count) (symbols_of text toks)) ≡ from + count = length-take-le (from + count) (symbols_of text toks) (omega (arith, symbols_count text toks)) in
    cut_stopped g ends view text toks from short count e fits some k (omega (arith, given.1, long)) _ refl given.0 (from + count == k) refl
cut_answers g ends view text toks from short count e fits some (Err OutOfMemory) given = tt

-- no bracket nests too deep among the tokens that are read, and the reader stopped at the token numbered k
near_stopped : {V A : Type 0} {L : Lang Symbol V} {r : ℕ → Reader Symbol V} → ((n : ℕ) → Good n L (r n) never) → Wholes L → (view : A → V) (n : ℕ) (text : List ℕ) (toks : List Token) (from : ℕ)
    → length (symbols_from text toks from) ≤ n → (count : ℕ) → count ≤ length (symbols_from text toks from) → from + count ≤ length toks
    → deep_len 0 (take count (symbols_from text toks from)) ≡ None
    → (count ≡ length (symbols_from text toks from)) ⊎ IsShut 0 (take count (symbols_from text toks from))
    → (k : ℕ) → k ≤ from + count → (rest : List Symbol) → rest ≡ drop k (take (from + count) (symbols_of text toks)) → r n (take count (symbols_from text toks from)) ≡ Wrong rest
    → Answers {A = A} L view text toks from (Err (stopped_at text toks false (from + count) k))
near_stopped {L = L} {r = r} g wholes view n text toks from short count few fits none ends k low (t ∷ rest) is given =
    let part : List Symbol = take count (symbols_from text toks from) in
    let others : List Symbol = drop count (symbols_from text toks from) in
    let whole : part ++ others ≡ symbols_from text toks from = take-append-drop count (symbols_from text toks from) in
    let size : length part ≡ count = length-take-le count (symbols_from text toks from) few in
    let all : length (part ++ others) ≤ n = omega (arith, ap length whole) in
    let stays : r n (part ++ others) ≡ Wrong (t ∷ (rest ++ others)) = wrong_stays (g n) part others t rest all given in
    let answer : Reads L (symbols_from text toks from) (Wrong (t ∷ (rest ++ others))) =
    subst (Reads L (symbols_from text toks from)) (ap (r n) (sym whole) ∙ stays) (reads (g n) (symbols_from text toks from) short) in
    let shallow : IsShallow L (part ++ others) = near_shallow g n part others (omega arith) none (inr (λ w. let no : Wrong (t ∷ rest) ≡ Wrong [] = sym given ∙ w in cc)) in
    let line : t ∷ (rest ++ others) ≡ symbols_from text toks k =
    ap (λ z. z ++ others) is ∙ ap (λ z. drop k (take (from + count) (symbols_of text toks)) ++ z) (drop_drop from count (symbols_of text toks))
    ∙ two_parts k (from + count) (symbols_of text toks) low in
    (k, omega arith, refl, subst (λ z. Reads L (symbols_from text toks from) (Wrong z)) line answer, subst (IsShallow L) whole shallow)
near_stopped {L = L} {r = r} g wholes view n text toks from short count few fits none (inl last) k low [] is given =
    let part : List Symbol = take count (symbols_from text toks from) in
    let others : List Symbol = drop count (symbols_from text toks from) in
    let whole : part ++ others ≡ symbols_from text toks from = take-append-drop count (symbols_from text toks from) in
    let size : length part ≡ count = length-take-le count (symbols_from text toks from) few in
    let left : others ≡ [] = nil_left others (omega (arith, length-drop count (symbols_from text toks from), last)) in
    let all : part ≡ symbols_from text toks from = sym (append-nil part) ∙ ap (λ z. part ++ z) (sym left) ∙ whole in
    let answer : Reads L (symbols_from text toks from) (Wrong []) =
    subst (Reads L (symbols_from text toks from)) (ap (r n) (sym all) ∙ given) (reads (g n) (symbols_from text toks from) short) in
    let shallow : IsShallow L (part ++ others) = near_shallow g n part others (omega arith) none (inl left) in
    let line : [] ≡ symbols_from text toks k =
    is ∙ sym (append-nil (drop k (take (from + count) (symbols_of text toks)))) ∙ ap (λ z. drop k (take (from + count) (symbols_of text toks)) ++ z) (sym left ∙ drop_drop from count (symbols_of text toks))
    ∙ two_parts k (from + count) (symbols_of text toks) low in
    (k, omega arith, refl, subst (λ z. Reads L (symbols_from text toks from) (Wrong z)) line answer, subst (IsShallow L) whole shallow)
near_stopped {L = L} {r = r} g wholes view n text toks from short count few fits none (inr shut) k low [] is given =
    let size : length (take count (symbols_from text toks from)) ≡ count = length-take-le count (symbols_from text toks from) few in
    absurd (shut_read (g n) wholes (take count (symbols_from text toks from)) (omega arith) shut given)

-- no bracket nests too deep among the tokens that are read
near_answers : {V A : Type 0} {L : Lang Symbol V} {r : ℕ → Reader Symbol V} → ((n : ℕ) → Good n L (r n) never) → Wholes L → (view : A → V) (n : ℕ) (text : List ℕ) (toks : List Token) (from : ℕ)
    → length (symbols_from text toks from) ≤ n → (count : ℕ) → count ≤ length (symbols_from text toks from) → from + count ≤ length toks
    → deep_len 0 (take count (symbols_from text toks from)) ≡ None
    → (count ≡ length (symbols_from text toks from)) ⊎ IsShut 0 (take count (symbols_from text toks from))
    → (result : Result (A × ℕ) Stop) → Gives view (take (from + count) (symbols_of text toks)) result (r n (take count (symbols_from text toks from)))
    → Answers L view text toks from (answer_of text toks false (from + count) result)
near_answers {L = L} {r = r} g wholes view n text toks from short count few fits none ends (Ok x) given =
    let part : List Symbol = take count (symbols_from text toks from) in
    let others : List Symbol = drop count (symbols_from text toks from) in
    let whole : part ++ others ≡ symbols_from text toks from = take-append-drop count (symbols_from text toks from) in
    let size : length part ≡ count = length-take-le count (symbols_from text toks from) few in
    let long : length (take (from + count) (symbols_of text toks)) ≡ from + count = length-take-le (from + count) (symbols_of text toks) (omega (arith, symbols_count text toks)) in
    let low : x.1 ≤ from + count = omega (arith, given.1, long) in
    let all : length (part ++ others) ≤ n = omega (arith, ap length whole) in
    let on : r n (part ++ others) ≡ Got (view x.0) (drop x.1 (take (from + count) (symbols_of text toks)) ++ others) =
    reads_on (g n) part others (view x.0) (drop x.1 (take (from + count) (symbols_of text toks))) all given.0 in
    let answer : Reads L (symbols_from text toks from) (Got (view x.0) (drop x.1 (take (from + count) (symbols_of text toks)) ++ others)) =
    subst (Reads L (symbols_from text toks from)) (ap (r n) (sym whole) ∙ on) (reads (g n) (symbols_from text toks from) short) in
    let shallow : IsShallow L (part ++ others) =
    near_shallow g n part others (omega arith) none (inr (λ w. let no : Got (view x.0) (drop x.1 (take (from + count) (symbols_of text toks))) ≡ Wrong [] = sym given.0 ∙ w in cc)) in
    let line : drop x.1 (take (from + count) (symbols_of text toks)) ++ others ≡ symbols_from text toks x.1 =
    ap (λ z. drop x.1 (take (from + count) (symbols_of text toks)) ++ z) (drop_drop from count (symbols_of text toks)) ∙ two_parts x.1 (from + count) (symbols_of text toks) low in
    (subst (λ z. Reads L (symbols_from text toks from) (Got (view x.0) z)) line answer, omega arith, subst (IsShallow L) whole shallow)
near_answers g wholes view n text toks from short count few fits none ends (Err (WrongSymbol k)) given =
    let long : length (take (from + count) (symbols_of text toks)) ≡ from + count = length-take-le (from + count) (symbols_of text toks) (omega (arith, symbols_count text toks)) in
    near_stopped g wholes view n text toks from short count few fits none ends k (omega (arith, given.1, long)) _ refl given.0
near_answers g wholes view n text toks from short count few fits none ends (Err OutOfMemory) given = tt

answers_at : {V A : Type 0} {L : Lang Symbol V} {r : ℕ → Reader Symbol V} → ((n : ℕ) → Good n L (r n) never) → Ends closed_end L → Wholes L → (view : A → V) (n : ℕ) (text : List ℕ)
    (toks : List Token) (from : ℕ) → length (symbols_from text toks from) ≤ n → (count : ℕ) (deep : Bool) → (reach 0 (symbols_from text toks from)).0 ≡ count
    → (reach 0 (symbols_from text toks from)).1 ≡ deep → count ≤ length (symbols_from text toks from) → from + count ≤ length toks
    → (result : Result (A × ℕ) Stop) → Gives view (take (from + count) (symbols_of text toks)) result (r n (take count (symbols_from text toks from)))
    → Answers L view text toks from (answer_of text toks deep (from + count) result)
answers_at g ends wholes view n text toks from short count true is tells few fits result given =
    let found : deep_len 0 (symbols_from text toks from) ≡ Some count = reach_deep 0 (symbols_from text toks from) tells ∙ ap Some is in
    cut_answers (g n) ends view text toks from short count found fits (deep_found 0 (symbols_from text toks from) count (omega arith) found).2 result given
answers_at g ends wholes view n text toks from short count false is tells few fits result given =
    let none : deep_len 0 (take count (symbols_from text toks from)) ≡ None =
    subst (λ z. deep_len 0 (take z (symbols_from text toks from)) ≡ None) is (reach_shallow 0 (symbols_from text toks from) tells) in
    let last : (count ≡ length (symbols_from text toks from)) ⊎ IsShut 0 (take count (symbols_from text toks from)) =
    subst (λ z. (z ≡ length (symbols_from text toks from)) ⊎ IsShut 0 (take z (symbols_from text toks from))) is (reach_ends 0 (symbols_from text toks from) tells) in
    near_answers g wholes view n text toks from short count few fits none last result given

-- a reader of the tokens as far as one type or constant goes answers for all
pub answers : {V A : Type 0} {L : Lang Symbol V} {r : ℕ → Reader Symbol V} → ((n : ℕ) → Good n L (r n) never) → Ends closed_end L → Wholes L → (view : A → V) (n : ℕ) (text : List ℕ)
    (toks : List Token) (from : ℕ) → from ≤ length toks → length toks ≤ n → (end : ℕ) (deep : Bool) → end ≡ from + (reach 0 (symbols_from text toks from)).0
    → deep ≡ (reach 0 (symbols_from text toks from)).1 → (part : List Token) → part ≡ take end toks
    → (result : Result (A × ℕ) Stop) → Gives view (symbols_of text part) result (r n (symbols_from text part from))
    → Answers L view text toks from (answer_of text toks deep end result)
answers {L = L} {r = r} g ends wholes view n text toks from within enough end deep ends_at tells part is result given =
    let ss : List Symbol = symbols_from text toks from in
    let few : (reach 0 ss).0 ≤ length ss = reach_within 0 ss in
    let size : length ss ≡ length toks - from = length-drop from (symbols_of text toks) ∙ ap (λ z. z - from) (symbols_count text toks) in
    let cut : part ≡ take (from + (reach 0 ss).0) toks = is ∙ ap (λ z. take z toks) ends_at in
    let seen = subst (λ z. Gives view (symbols_of text z) result (r n (symbols_from text z from))) cut given in
    let all = subst (λ z. Gives view z result (r n (drop from z))) (symbols_cut text toks (from + (reach 0 ss).0)) seen in
    let read = subst (λ z. Gives view (take (from + (reach 0 ss).0) (symbols_of text toks)) result (r n z)) (drop-take from (reach 0 ss).0 (symbols_of text toks)) all in
    let answer = answers_at g ends wholes view n text toks from (omega arith) (reach 0 ss).0 (reach 0 ss).1 refl refl few (omega arith) result read in
    subst (λ z. Answers L view text toks from (answer_of text toks z end result)) (sym tells)
    (subst (λ z. Answers L view text toks from (answer_of text toks (reach 0 ss).1 z result)) (sym ends_at) answer)
