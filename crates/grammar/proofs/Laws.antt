-- The law of each reader but the lists.
use Rattle.std.proofs.Common.{◌≡◌, ℕ, zero, suc, ◌≤◌, ◌+◌, Bool, true, false, List, [], ◌∷◌, ◌++◌, length, Option, None, Some, inl, inr, refl, sym, ◌∙◌, ap, subst, arith, append_assoc, length-append, if◌then◌else◌}
use Rattle.std.proofs.lemmas.List.{append_cancel_left}
use Rattle.grammar.specs.Language.{Lang, empty, pick, one, skip, seq, map_to, maybe, or_else}
use Rattle.grammar.specs.Reader.{Out, Got, Wrong, Reader, then_out, heads, opens, taken, run_empty, run_one, run_pick, run_skip, run_map, run_seq, run_maybe, run_or}
use Rattle.grammar.proofs.Sides.{starts_pick, starts_map, joins_empty}
use Rattle.grammar.proofs.Good.{first, never, Clear, Found, Missed, Outcome, Good, Starts, Joins, Within, first-append, clear_within, opens-append, opens_first}

-- a reader that is good for a longer list is good for a shorter one
pub good_less : {S V : Type 0} {n : ℕ} {L : Lang S V} {r : Reader S V} {s : S → Bool} (m : ℕ) → m ≤ n → Good n L r s → Good m L r s
good_less {n = n} m le g = record {
  word = g.word;
  value = g.value;
  spelled = g.spelled;
  outcome = λ ts short. g.outcome ts (omega arith);
}

outcome_same : {S V : Type 0} (L M : Lang S V) (s : S → Bool) (ts : List S) → Within L M → Within M L
    → (o : Out S V) → Outcome L s ts o → Outcome M s ts o
outcome_same L M s ts into back (Got v rest) g = record {
  front = g.front;
  cut = g.cut;
  spells = into.at g.front v g.spells;
  only = λ x more r w same word line clear. g.only x more r w same (back.at x w word) line clear;
}
outcome_same L M s ts into back (Wrong rest) g = record {
  front = g.front;
  cut = g.cut;
  completion = g.completion;
  value = g.value;
  begins = into.at (g.front ++ g.completion) g.value g.begins;
  dead = λ x more r w same word line clear. g.dead x more r w same (back.at x w word) line clear;
}

-- the law stands for every language that spells the same
pub good_same : {S V : Type 0} {n : ℕ} {L M : Lang S V} {r : Reader S V} {s : S → Bool} → Within L M → Within M L → Good n L r s → Good n M r s
good_same {L = L} {M = M} {r = r} {s = s} into back g = record {
  word = g.word;
  value = g.value;
  spelled = into.at g.word g.value g.spelled;
  outcome = λ ts short. outcome_same L M s ts into back (r ts) (g.outcome ts short);
}

outcome_stop : {S V : Type 0} (L : Lang S V) (s s' : S → Bool) → ((t : S) → s' t ≡ false → s t ≡ false)
    → (ts : List S) (o : Out S V) → Outcome L s ts o → Outcome L s' ts o
outcome_stop L s s' h ts (Got v rest) g = record {
  front = g.front;
  cut = g.cut;
  spells = g.spells;
  only = λ x more r w same word line clear. g.only x more r w same word line (clear_within s s' h r clear);
}
outcome_stop L s s' h ts (Wrong rest) g = record {
  front = g.front;
  cut = g.cut;
  completion = g.completion;
  value = g.value;
  begins = g.begins;
  dead = λ x more r w same word line clear. g.dead x more r w same word line (clear_within s s' h r clear);
}

-- a larger stop set
pub good_stop : {S V : Type 0} {n : ℕ} {L : Lang S V} {r : Reader S V} {s : S → Bool} (s' : S → Bool)
    → ((t : S) → s' t ≡ false → s t ≡ false) → Good n L r s → Good n L r s'
good_stop {L = L} {r = r} {s = s} s' h g = record {
  word = g.word;
  value = g.value;
  spelled = g.spelled;
  outcome = λ ts short. outcome_stop L s s' h ts (r ts) (g.outcome ts short);
}

-- a closed rule is good under every stop set
pub good_closed : {S V : Type 0} {n : ℕ} {L : Lang S V} {r : Reader S V} (s : S → Bool) → Good n L r never → Good n L r s
good_closed s g = good_stop s (λ t h. refl) g

found_empty : {S V : Type 0} (v : V) (s : S → Bool) (ts : List S) → Found (empty v) s ts v ts
found_empty v s ts = record {
  front = [];
  cut = refl;
  spells = (refl, refl);
  only = λ x more r w same word line clear. word;
}

pub good_empty : {S V : Type 0} (n : ℕ) (v : V) (s : S → Bool) → Good n (empty {S = S} v) (run_empty v) s
good_empty n v s = record {
  word = [];
  value = v;
  spelled = (refl, refl);
  outcome = λ ts short. found_empty v s ts;
}

-- the first symbol is wrong
missed_here : {S V : Type 0} (L : Lang S V) (s : S → Bool) (ts q : List S) (v : V) → L q v
    → ((x more r : List S) (w : V) → first more ≡ first ts → L x w → more ≡ x ++ r → Clear s r → ⊥)
    → Missed L s ts ts
missed_here L s ts q v word dead = record {
  front = [];
  cut = refl;
  completion = q;
  value = v;
  begins = word;
  dead = dead;
}

-- no symbol is there, and the language asks for one
missed_none : {S V : Type 0} (p : S → Bool) (L : Lang S V) (s : S → Bool) (q : List S) (v : V) → L q v → Starts p L
    → Missed L s [] []
missed_none p L s q v word starts = missed_here L s [] q v word
    (λ x more r w same spelled line clear.
    let here : opens p (x ++ r) ≡ true = opens-append p x r (starts.at x w spelled) in
    let there : opens p more ≡ opens p [] = opens_first p more [] same in
    let both : opens p more ≡ opens p (x ++ r) = ap (opens p) line in
    cc)

none_at : {S V : Type 0} (L : Lang S V) (p : S → Bool) (s : S → Bool) (q : List S) (v : V) → L q v → Starts p L
    → (ts : List S) → length ts ≤ zero → Missed L s ts ts
none_at L p s q v word starts [] short = missed_none p L s q v word starts
none_at L p s q v word starts (t ∷ ts) short = absurd (omega arith)

-- at no symbols a reader that finds none wrong is good
pub good_none : {S V : Type 0} {L : Lang S V} (p : S → Bool) (s : S → Bool) (q : List S) (v : V) → L q v → Starts p L → Good zero L Wrong s
good_none {L = L} p s q v word starts = record {
  word = q;
  value = v;
  spelled = word;
  outcome = none_at L p s q v word starts;
}

found_pick : {S K V : Type 0} (f : S → Option K) (L : K → Lang S V) (s : S → Bool) (t : S) (q : List S) (k : K)
    (v : V) (rest : List S) → f t ≡ Some k → Found (L k) s q v rest → Found (pick f L) s (t ∷ q) v rest
found_pick f L s t q k v rest e g = record {
  front = t ∷ g.front;
  cut = ap (λ z. t ∷ z) g.cut;
  spells = (t, g.front, k, refl, e, g.spells);
  only = λ x more r w same word line clear.
      let step : t ∷ (g.front ++ more) ≡ word.0 ∷ (word.1 ++ r) = line ∙ ap (λ z. z ++ r) word.3 in
      let known : f word.0 ≡ Some word.2 = word.4 in
      let head : word.0 ≡ t = cc in
      let name : word.2 ≡ k = cc in
      let tail : g.front ++ more ≡ word.1 ++ r = cc in
      let inner = g.only word.1 more r w same (subst (λ z. L z word.1 w) name word.5) tail clear in
      let whole : x ≡ word.0 ∷ word.1 = word.3 in
      let part : word.1 ≡ g.front = inner.0 in
      let all : x ≡ t ∷ g.front = cc in
      (all, inner.1);
}

missed_pick : {S K V : Type 0} (f : S → Option K) (L : K → Lang S V) (s : S → Bool) (t : S) (q : List S) (k : K)
    (rest : List S) → f t ≡ Some k → Missed (L k) s q rest → Missed (pick f L) s (t ∷ q) rest
missed_pick f L s t q k rest e g = record {
  front = t ∷ g.front;
  cut = ap (λ z. t ∷ z) g.cut;
  completion = g.completion;
  value = g.value;
  begins = (t, g.front ++ g.completion, k, refl, e, g.begins);
  dead = λ x more r w same word line clear.
      let step : t ∷ (g.front ++ more) ≡ word.0 ∷ (word.1 ++ r) = line ∙ ap (λ z. z ++ r) word.3 in
      let known : f word.0 ≡ Some word.2 = word.4 in
      let head : word.0 ≡ t = cc in
      let name : word.2 ≡ k = cc in
      let tail : g.front ++ more ≡ word.1 ++ r = cc in
      g.dead word.1 more r w same (subst (λ z. L z word.1 w) name word.5) tail clear;
}

outcome_pick : {S K V : Type 0} (f : S → Option K) (L : K → Lang S V) (s : S → Bool) (t : S) (q : List S) (k : K)
    → f t ≡ Some k → (o : Out S V) → Outcome (L k) s q o → Outcome (pick f L) s (t ∷ q) o
outcome_pick f L s t q k e (Got v rest) g = found_pick f L s t q k v rest e g
outcome_pick f L s t q k e (Wrong rest) g = missed_pick f L s t q k rest e g

pick_at : {S K V : Type 0} (n : ℕ) (f : S → Option K) (L : K → Lang S V) (run : K → Reader S V) (s : S → Bool)
    (word : List S) (v : V) → pick f L word v → ((k : K) → Good n (L k) (run k) s)
    → (t : S) (q : List S) (o : Option K) → f t ≡ o → length q ≤ n
    → Outcome (pick f L) s (t ∷ q) (then_out (taken o (t ∷ q) q) run)
pick_at n f L run s word v spelled g t q None e short = missed_here (pick f L) s (t ∷ q) word v spelled
    (λ x more r w same inner line clear.
    let step : more ≡ inner.0 ∷ (inner.1 ++ r) = line ∙ ap (λ z. z ++ r) inner.3 in
    let known : f inner.0 ≡ Some inner.2 = inner.4 in
    let head : first more ≡ Some inner.0 = ap first step in
    let here : Some t ≡ Some inner.0 = sym same ∙ head in
    let found : t ≡ inner.0 = cc in
    cc)
pick_at n f L run s word v spelled g t q (Some k) e short =
    outcome_pick f L s t q k e (run k q) ((g k).outcome q short)

pick_all : {S K V : Type 0} (n : ℕ) (f : S → Option K) (L : K → Lang S V) (run : K → Reader S V) (s : S → Bool)
    (word : List S) (v : V) → pick f L word v → ((k : K) → Good n (L k) (run k) s)
    → (ts : List S) → length ts ≤ n + 1 → Outcome (pick f L) s ts (run_pick f run ts)
pick_all n f L run s word v spelled g [] short =
    missed_none (heads f) (pick f L) s word v spelled (starts_pick f L)
pick_all n f L run s word v spelled g (t ∷ q) short =
    pick_at n f L run s word v spelled g t q (f t) refl (omega arith)

-- a symbol that f knows (t is one), and then what f's answer asks for: this is where the number of symbols falls
pub good_pick : {S K V : Type 0} {n : ℕ} {L : K → Lang S V} {run : K → Reader S V} {s : S → Bool} (f : S → Option K)
    (t : S) (k : K) → f t ≡ Some k → ((k : K) → Good n (L k) (run k) s) → Good (suc n) (pick f L) (run_pick f run) s
good_pick {n = n} {L = L} {run = run} {s = s} f t k e g = record {
  word = t ∷ (g k).word;
  value = (g k).value;
  spelled = (t, (g k).word, k, refl, e, (g k).spelled);
  outcome = λ ts short.
      pick_all n f L run s (t ∷ (g k).word) (g k).value (t, (g k).word, k, refl, e, (g k).spelled) g ts (omega arith);
}

-- the same for lists that are no longer than what the part after it can read
pub good_next : {S K V : Type 0} {n : ℕ} {L : K → Lang S V} {run : K → Reader S V} {s : S → Bool} (f : S → Option K)
    (t : S) (k : K) → f t ≡ Some k → ((k : K) → Good n (L k) (run k) s) → Good n (pick f L) (run_pick f run) s
good_next {n = n} f t k e g = good_less n (omega arith) (good_pick f t k e g)

-- the law stands for every reader that answers the same
pub good_alike : {S V : Type 0} {n : ℕ} {L : Lang S V} {r r' : Reader S V} {s : S → Bool} → ((ts : List S) → r ts ≡ r' ts)
    → Good n L r s → Good n L r' s
good_alike {L = L} {s = s} e g = record {
  word = g.word;
  value = g.value;
  spelled = g.spelled;
  outcome = λ ts short. subst (Outcome L s ts) (e ts) (g.outcome ts short);
}

got_same : {S V : Type 0} (o : Out S V) → then_out o run_empty ≡ o
got_same (Got v rest) = refl
got_same (Wrong rest) = refl

-- one symbol that f knows (t is one), for f's answer
pub good_one : {S K : Type 0} (n : ℕ) (f : S → Option K) (t : S) (k : K) (s : S → Bool) → f t ≡ Some k
    → Good n (one f) (run_one f) s
good_one n f t k s e = good_alike (λ ts. got_same (run_one f ts)) (good_next f t k e (λ j. good_empty n j s))

-- one symbol that f knows (t is one), and then an a
pub good_skip : {S K V : Type 0} {n : ℕ} {a : Lang S V} {ra : Reader S V} {s : S → Bool} (f : S → Option K)
    (t : S) (k : K) → f t ≡ Some k → Good n a ra s → Good (suc n) (skip f a) (run_skip f ra) s
good_skip f t k e g = good_pick f t k e (λ _. g)

outcome_map : {S A B : Type 0} (h : A → B) (a : Lang S A) (s : S → Bool) (ts : List S) (o : Out S A)
    → Outcome a s ts o → Outcome (map_to h a) s ts (then_out o (λ v rest. Got (h v) rest))
outcome_map h a s ts (Got v rest) g = record {
  front = g.front;
  cut = g.cut;
  spells = (v, g.spells, refl);
  only = λ x more r w same word line clear.
      let inner = g.only x more r word.0 same word.1 line clear in (inner.0, word.2 ∙ ap h inner.1);
}
outcome_map h a s ts (Wrong rest) g = record {
  front = g.front;
  cut = g.cut;
  completion = g.completion;
  value = h g.value;
  begins = (g.value, g.begins, refl);
  dead = λ x more r w same word line clear. g.dead x more r word.0 same word.1 line clear;
}

pub good_map : {S A B : Type 0} {n : ℕ} {a : Lang S A} {ra : Reader S A} {s : S → Bool} (h : A → B) → Good n a ra s
    → Good n (map_to h a) (run_map h ra) s
good_map {a = a} {ra = ra} {s = s} h g = record {
  word = g.word;
  value = h g.value;
  spelled = (g.value, g.spelled, refl);
  outcome = λ ts short. outcome_map h a s ts (ra ts) (g.outcome ts short);
}

seq_left : {S A B : Type 0} (a : Lang S A) (b : Lang S B) (sa sb : S → Bool) → Joins sa b sb
    → (wb : List S) (vb : B) → b wb vb → (ts rest : List S) → Missed a sa ts rest → Missed (seq a b) sb ts rest
seq_left a b sa sb joins wb vb word_b ts rest g = record {
  front = g.front;
  cut = g.cut;
  completion = g.completion ++ wb;
  value = (g.value, vb);
  begins = (g.front ++ g.completion, wb, sym (append_assoc g.front g.completion wb), g.begins, word_b);
  dead = λ x more r w same word line clear.
      let whole : g.front ++ more ≡ word.0 ++ (word.1 ++ r) =
      line ∙ ap (λ z. z ++ r) word.2 ∙ append_assoc word.0 word.1 r in
      g.dead word.0 more (word.1 ++ r) w.0 same word.3 whole (joins.at word.1 r w.1 word.4 clear);
}

-- what the first part's law says of a word of both, in a list that goes on as the second part found it
seq_step : {S A B : Type 0} (a : Lang S A) (b : Lang S B) (sa sb : S → Bool) → Joins sa b sb
    → (ts rest : List S) (v : A) (g : Found a sa ts v rest) (front last : List S) → rest ≡ front ++ last
    → (x more r : List S) (w : A × B) → first more ≡ first last → (word : seq a b x w)
    → (g.front ++ front) ++ more ≡ x ++ r → Clear sb r
    → (word.0 ≡ g.front) × (w.0 ≡ v) × (front ++ more ≡ word.1 ++ r)
seq_step a b sa sb joins ts rest v g front last cut x more r w same word line clear =
    let whole : g.front ++ (front ++ more) ≡ word.0 ++ (word.1 ++ r) =
    sym (append_assoc g.front front more) ∙ line ∙ ap (λ z. z ++ r) word.2 ∙ append_assoc word.0 word.1 r in
    let begins : first (front ++ more) ≡ first rest = first-append front more last same ∙ ap first (sym cut) in
    let inner = g.only word.0 (front ++ more) (word.1 ++ r) w.0 begins word.3 whole (joins.at word.1 r w.1 word.4 clear) in
    let one : word.0 ≡ g.front = inner.0 in
    let tail : g.front ++ (front ++ more) ≡ g.front ++ (word.1 ++ r) = whole ∙ ap (λ z. z ++ (word.1 ++ r)) one in
    (one, inner.1, append_cancel_left g.front (front ++ more) (word.1 ++ r) tail)

pair_is : {A B : Type 0} (u : A × B) (v : A) (w : B) → u.0 ≡ v → u.1 ≡ w → u ≡ (v, w)
pair_is (a, b) v w e f = cc

seq_right : {S A B : Type 0} (a : Lang S A) (b : Lang S B) (sa sb : S → Bool) → Joins sa b sb
    → (ts rest : List S) (v : A) → Found a sa ts v rest → (o : Out S B) → Outcome b sb rest o
    → Outcome (seq a b) sb ts (then_out o (λ w more. Got (v, w) more))
seq_right a b sa sb joins ts rest v g (Got w last) h = record {
  front = g.front ++ h.front;
  cut = g.cut ∙ ap (λ z. g.front ++ z) h.cut ∙ sym (append_assoc g.front h.front last);
  spells = (g.front, h.front, refl, g.spells, h.spells);
  only = λ x more r u same word line clear.
      let step = seq_step a b sa sb joins ts rest v g h.front last h.cut x more r u same word line clear in
      let inner = h.only word.1 more r u.1 same word.4 step.2 clear in
      let cut : x ≡ word.0 ++ word.1 = word.2 in
      let one : word.0 ≡ g.front = step.0 in
      let two : word.1 ≡ h.front = inner.0 in
      let all : x ≡ g.front ++ h.front = cc in
      (all, pair_is u v w step.1 inner.1);
}
seq_right a b sa sb joins ts rest v g (Wrong last) h = record {
  front = g.front ++ h.front;
  cut = g.cut ∙ ap (λ z. g.front ++ z) h.cut ∙ sym (append_assoc g.front h.front last);
  completion = h.completion;
  value = (v, h.value);
  begins = (g.front, h.front ++ h.completion, append_assoc g.front h.front h.completion, g.spells, h.begins);
  dead = λ x more r u same word line clear.
      let step = seq_step a b sa sb joins ts rest v g h.front last h.cut x more r u same word line clear in
      h.dead word.1 more r u.1 same word.4 step.2 clear;
}

seq_at : {S A B : Type 0} (a : Lang S A) (b : Lang S B) (rb : Reader S B) (sa sb : S → Bool) → Joins sa b sb
    → (wb : List S) (vb : B) → b wb vb → (ts : List S) (o : Out S A) → Outcome a sa ts o
    → ((v : A) (rest : List S) → Found a sa ts v rest → Outcome b sb rest (rb rest))
    → Outcome (seq a b) sb ts (then_out {B = A × B} o (λ v rest. then_out {B = A × B} (rb rest) (λ w more. Got (v, w) more)))
seq_at a b rb sa sb joins wb vb word_b ts (Got v rest) g next =
    seq_right a b sa sb joins ts rest v g (rb rest) (next v rest g)
seq_at a b rb sa sb joins wb vb word_b ts (Wrong rest) g next =
    seq_left a b sa sb joins wb vb word_b ts rest g

shorter : {S V : Type 0} (L : Lang S V) (s : S → Bool) (ts rest : List S) (v : V) → Found L s ts v rest → length rest ≤ length ts
shorter L s ts rest v g = omega (arith, ap length g.cut, length-append g.front rest)

-- an a and then a b: what b begins with doesn't go on with a
pub good_seq : {S A B : Type 0} {n : ℕ} {a : Lang S A} {b : Lang S B} {ra : Reader S A} {rb : Reader S B} {sa sb : S → Bool}
    → Joins sa b sb → Good n a ra sa → Good n b rb sb → Good n (seq a b) (run_seq ra rb) sb
good_seq {a = a} {b = b} {ra = ra} {rb = rb} {sa = sa} {sb = sb} joins g h = record {
  word = g.word ++ h.word;
  value = (g.value, h.value);
  spelled = (g.word, h.word, refl, g.spelled, h.spelled);
  outcome = λ ts short. seq_at a b rb sa sb joins h.word h.value h.spelled ts (ra ts) (g.outcome ts short)
      (λ v rest found. h.outcome rest (let less = shorter a sa ts rest v found in omega arith));
}

some_front : {S : Type 0} (p : S → Bool) (front rest ts : List S) → ts ≡ front ++ rest → opens p front ≡ true → length rest + 1 ≤ length ts
some_front p [] rest ts cut o = cc
some_front p (t ∷ front) rest ts cut o = omega (arith, ap length cut, length-append front rest)

fewer : {S V : Type 0} (p : S → Bool) (L : Lang S V) (s : S → Bool) (ts rest : List S) (v : V) → Starts p L → Found L s ts v rest
    → length rest + 1 ≤ length ts
fewer p L s ts rest v starts g = some_front p g.front rest ts g.cut (starts.at g.front v g.spells)

-- the same where a takes a symbol: then b has fewer to read
pub good_then : {S A B : Type 0} {n : ℕ} {a : Lang S A} {b : Lang S B} {ra : Reader S A} {rb : Reader S B} {sa sb : S → Bool}
    (p : S → Bool) → Starts p a → Joins sa b sb → Good (suc n) a ra sa → Good n b rb sb → Good (suc n) (seq a b) (run_seq ra rb) sb
good_then {a = a} {b = b} {ra = ra} {rb = rb} {sa = sa} {sb = sb} p starts joins g h = record {
  word = g.word ++ h.word;
  value = (g.value, h.value);
  spelled = (g.word, h.word, refl, g.spelled, h.spelled);
  outcome = λ ts short. seq_at a b rb sa sb joins h.word h.value h.spelled ts (ra ts) (g.outcome ts short)
      (λ v rest found. h.outcome rest (let less = fewer p a sa ts rest v starts found in omega arith));
}

-- a list whose first symbol isn't in p is no word of a rule that begins with p, whatever follows
not_started : {S V : Type 0} (p : S → Bool) (a : Lang S V) → Starts p a → (x r ys : List S) (v : V) → a x v → ys ≡ x ++ r → opens p ys ≡ false → ⊥
not_started p a starts x r ys v word line o =
    let here : opens p (x ++ r) ≡ true = opens-append p x r (starts.at x v word) in
    let both : opens p ys ≡ opens p (x ++ r) = ap (opens p) line in
    cc

pub clear_opens : {S : Type 0} (p : S → Bool) (xs : List S) → opens p xs ≡ true → Clear p xs → ⊥
clear_opens p [] o c = cc
clear_opens p (x ∷ xs) o c = cc

-- what opens with p in ts opens with p in each list that has the front and the next symbol of ts
opens_alike : {S : Type 0} (p : S → Bool) (front rest more ts ys : List S) → ts ≡ front ++ rest → first more ≡ first rest
    → front ++ more ≡ ys → opens p ys ≡ opens p ts
opens_alike p front rest more ts ys cut same line =
    opens_first p ys ts (ap first (sym line) ∙ first-append front more rest same ∙ ap first (sym cut))

outcome_left : {S V : Type 0} (p : S → Bool) (a b : Lang S V) (s : S → Bool) → Joins p b s
    → (ts : List S) → opens p ts ≡ true → (o : Out S V) → Outcome a s ts o → Outcome (or_else a b) s ts o
outcome_left p a b s joins ts o (Got v rest) g = record {
  front = g.front;
  cut = g.cut;
  spells = inl g.spells;
  only = λ x more r w same word line clear. elim word [
    | inl u ↦ g.only x more r w same u line clear
    | inr u ↦
        let alike : opens p (x ++ r) ≡ opens p ts = opens_alike p g.front rest more ts (x ++ r) g.cut same line in
        absurd (clear_opens p (x ++ r) (alike ∙ o) (joins.at x r w u clear))
  ];
}
outcome_left p a b s joins ts o (Wrong rest) g = record {
  front = g.front;
  cut = g.cut;
  completion = g.completion;
  value = g.value;
  begins = inl g.begins;
  dead = λ x more r w same word line clear. elim word [
    | inl u ↦ g.dead x more r w same u line clear
    | inr u ↦
        let alike : opens p (x ++ r) ≡ opens p ts = opens_alike p g.front rest more ts (x ++ r) g.cut same line in
        clear_opens p (x ++ r) (alike ∙ o) (joins.at x r w u clear)
  ];
}

outcome_right : {S V : Type 0} (p : S → Bool) (a b : Lang S V) (s : S → Bool) → Starts p a
    → (ts : List S) → opens p ts ≡ false → (o : Out S V) → Outcome b s ts o → Outcome (or_else a b) s ts o
outcome_right p a b s starts ts o (Got v rest) g = record {
  front = g.front;
  cut = g.cut;
  spells = inr g.spells;
  only = λ x more r w same word line clear. elim word [
    | inl u ↦
        let alike : opens p (x ++ r) ≡ opens p ts = opens_alike p g.front rest more ts (x ++ r) g.cut same line in
        absurd (not_started p a starts x r (x ++ r) w u refl (alike ∙ o))
    | inr u ↦ g.only x more r w same u line clear
  ];
}
outcome_right p a b s starts ts o (Wrong rest) g = record {
  front = g.front;
  cut = g.cut;
  completion = g.completion;
  value = g.value;
  begins = inr g.begins;
  dead = λ x more r w same word line clear. elim word [
    | inl u ↦
        let alike : opens p (x ++ r) ≡ opens p ts = opens_alike p g.front rest more ts (x ++ r) g.cut same line in
        not_started p a starts x r (x ++ r) w u refl (alike ∙ o)
    | inr u ↦ g.dead x more r w same u line clear
  ];
}

outcome_or : {S V : Type 0} (p : S → Bool) (a b : Lang S V) (s : S → Bool) → Starts p a → Joins p b s
    → (ts : List S) (left right : Out S V) → Outcome a s ts left → Outcome b s ts right
    → (c : Bool) → opens p ts ≡ c → Outcome (or_else a b) s ts (if c then left else right)
outcome_or p a b s starts joins ts left right g h true o = outcome_left p a b s joins ts o left g
outcome_or p a b s starts joins ts left right g h false o = outcome_right p a b s starts ts o right h

-- an a, which begins with p, or a b, which doesn't
pub good_or : {S V : Type 0} {n : ℕ} {a b : Lang S V} {ra rb : Reader S V} {s : S → Bool} (p : S → Bool) → Starts p a → Joins p b s
    → Good n a ra s → Good n b rb s → Good n (or_else a b) (run_or p ra rb) s
good_or {a = a} {b = b} {ra = ra} {rb = rb} {s = s} p starts joins g h = record {
  word = g.word;
  value = g.value;
  spelled = inl g.spelled;
  outcome = λ ts short.
      outcome_or p a b s starts joins ts (ra ts) (rb ts) (g.outcome ts short) (h.outcome ts short) (opens p ts) refl;
}

-- an optional part is it or nothing
abbrev pub optional : {S V : Type 0} → Lang S V → Lang S (Option V)
optional a = or_else (map_to Some a) (empty None)

maybe_into : {S V : Type 0} (a : Lang S V) (ts : List S) (v : Option V) → optional a ts v → maybe a ts v
maybe_into a ts None (inl u) = cc
maybe_into a ts None (inr u) = u.0
maybe_into a ts (Some v) (inl u) = let same : u.0 ≡ v = cc in subst (λ z. a ts z) same u.1
maybe_into a ts (Some v) (inr u) = cc

maybe_back : {S V : Type 0} (a : Lang S V) (ts : List S) (v : Option V) → maybe a ts v → optional a ts v
maybe_back a ts None u = inr (u, refl)
maybe_back a ts (Some v) u = inl (v, u, refl)

-- an optional a, which begins with p: p is in the stop set, since it goes on with what stood before
pub good_maybe : {S V : Type 0} {n : ℕ} {a : Lang S V} {ra : Reader S V} {s : S → Bool} (p : S → Bool) → Starts p a
    → ((t : S) → s t ≡ false → p t ≡ false) → Good n a ra s → Good n (maybe a) (run_maybe p ra) s
good_maybe {n = n} {a = a} {s = s} p starts h g =
    good_same (record { at = maybe_into a }) (record { at = maybe_back a })
    (good_or p (starts_map Some starts) (joins_empty None h) (good_map Some g) (good_empty n None s))
