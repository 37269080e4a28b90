-- The law of each reader of a list: many, until, items, listed.
use Rattle.std.proofs.Common.{◌≡◌, ℕ, zero, suc, ◌≤◌, Bool, true, false, List, [], ◌∷◌, ◌++◌, length, Option, None, Some, inl, inr, refl, sym, ◌∙◌, ap, subst, arith, append_assoc, ◌||◌}
use Rattle.std.proofs.lemmas.List.{append-nil}
use Rattle.grammar.specs.Language.{Lang, empty, one, skip, seq, map_to, many, or_else, cons, up_to, until, items, listed}
use Rattle.grammar.specs.Reader.{Reader, heads, opens, run_many, run_until, run_items, run_listed}
use Rattle.grammar.proofs.Good.{first, never, Found, Good, Starts, Joins}
use Rattle.grammar.proofs.Sides.{starts_pick, starts_map, starts_seq, starts_many, starts_more, joins_never, joins_empty, joins_starts, joins_or, joins_map, joins_seq, joins_many}
use Rattle.grammar.proofs.Laws.{good_same, good_less, good_none, good_empty, good_skip, good_map, good_or, good_seq, good_then}

or_left : (a b : Bool) → a ≡ true → (a || b) ≡ true
or_left true b e = refl
or_left false b e = cc

or_right : (a b : Bool) → b ≡ true → (a || b) ≡ true
or_right true b e = refl
or_right false b e = e

-- many as are one and many more, or none
abbrev pub many_step : {S V : Type 0} → Lang S V → Lang S (List V) → Lang S (List V)
many_step a rest = or_else (map_to cons (seq a rest)) (empty [])

pub many_into : {S V : Type 0} (a : Lang S V) (ts : List S) (v : List V) → many_step a (many a) ts v → many a ts v
many_into a ts [] (inl u) = cc
many_into a ts [] (inr u) = u.0
many_into a ts (v ∷ vs) (inl u) =
    let head : u.0.0 ≡ v = cc in
    let tail : u.0.1 ≡ vs = cc in
    (u.1.0, u.1.1, u.1.2, subst (λ z. a u.1.0 z) head u.1.3, subst (λ z. many a u.1.1 z) tail u.1.4)
many_into a ts (v ∷ vs) (inr u) = cc

many_back : {S V : Type 0} (a : Lang S V) (ts : List S) (v : List V) → many a ts v → many_step a (many a) ts v
many_back a ts [] u = inr (u, refl)
many_back a ts (v ∷ vs) u = inl ((v, vs), u, refl)

none_open : {S V : Type 0} (p : S → Bool) (xs ys : List S) (w : List V) → opens p xs ≡ true → xs ++ ys ≡ [] → w ≡ []
none_open p [] ys w o e = cc
none_open p (x ∷ xs) ys w o e = cc

no_items : {S V : Type 0} (a : Lang S V) (p : S → Bool) → Starts p a → (x : List S) (w : List V) → x ≡ [] → many a x w → w ≡ []
no_items a p starts x [] e word = refl
no_items a p starts x (v ∷ vs) e word =
    let here : opens p word.0 ≡ true = starts.at word.0 v word.3 in
    none_open p word.0 word.1 (v ∷ vs) here (sym word.2 ∙ e)

split_none : {S : Type 0} (xs ys : List S) → [] ≡ xs ++ ys → xs ≡ []
split_none [] ys e = refl
split_none (x ∷ xs) ys e = cc

first_none : {S : Type 0} (xs : List S) → first xs ≡ None → xs ≡ []
first_none [] e = refl
first_none (x ∷ xs) e = cc

many_at_none : {S V : Type 0} (a : Lang S V) (p s : S → Bool) → Starts p a → (ts : List S) → length ts ≤ zero → Found (many a) s ts [] ts
many_at_none a p s starts [] short = record {
  front = [];
  cut = refl;
  spells = refl;
  only = λ x more r w same word line clear.
      let none : more ≡ [] = first_none more same in
      let nothing_left : [] ≡ x ++ r = sym none ∙ line in
      let no_word : x ≡ [] = split_none x r nothing_left in
      (no_word, no_items a p starts x w no_word word);
}
many_at_none a p s starts (t ∷ ts) short = absurd (omega arith)

-- any number of as, which begin with p. The stop set s has p, and what goes on with an a, which is si; an a doesn't go on with an a
pub good_many : {S V : Type 0} {a : Lang S V} {ra : Reader S V} {p si s : S → Bool} (n : ℕ) → Starts p a
    → ((t : S) → p t ≡ true → si t ≡ false) → ((t : S) → s t ≡ false → si t ≡ false) → ((t : S) → s t ≡ false → p t ≡ false)
    → Good n a ra si → Good n (many a) (run_many n p ra) s
unfolding run_many
good_many {a = a} {p = p} {s = s} zero starts apart inside held g = record {
  word = [];
  value = [];
  spelled = refl;
  outcome = λ ts short. many_at_none a p s starts ts short;
}
good_many {a = a} {p = p} {s = s} (suc n) starts apart inside held g =
    good_same (record { at = many_into a }) (record { at = many_back a })
    (good_or p (starts_map cons (starts_seq (many a) starts)) (joins_empty [] held)
    (good_map cons
    (good_then p starts (joins_many starts apart inside) g
    (good_many n starts apart inside held (good_less n (omega arith) g))))
    (good_empty (suc n) [] s))

-- the closing symbol, or an item and so on
abbrev pub until_step : {S C V : Type 0} → (S → Option C) → Lang S V → Lang S (List V) → Lang S (List V)
until_step close item rest = or_else (skip close (empty [])) (map_to cons (seq item rest))

pub until_into : {S C V : Type 0} (close : S → Option C) (item : Lang S V) (ts : List S) (v : List V)
    → until_step close item (until close item) ts v → until close item ts v
until_into close item ts v (inl u) =
    (([], u.2), ([], ts, refl, refl, (u.0, u.1, u.2, u.3, u.4, (u.5.0, refl))), u.5.1)
until_into close item ts v (inr u) =
    let inner = u.1.4 in
    let cut : ts ≡ (u.1.0 ++ inner.1.0) ++ inner.1.1 =
    u.1.2 ∙ ap (λ z. u.1.0 ++ z) inner.1.2 ∙ sym (append_assoc u.1.0 inner.1.0 inner.1.1) in
    let tail : u.0.1 ≡ inner.0.0 = inner.2 in
    ((u.0.0 ∷ inner.0.0, inner.0.1), (u.1.0 ++ inner.1.0, inner.1.1, cut, (u.1.0, inner.1.0, refl, u.1.3, inner.1.3), inner.1.4), u.2 ∙ ap (λ z. u.0.0 ∷ z) tail)

until_back_at : {S C V : Type 0} (close : S → Option C) (item : Lang S V) (ts : List S) (v vs : List V) (k : C) (p q : List S)
    → ts ≡ p ++ q → many item p vs → one close q k → v ≡ vs → until_step close item (until close item) ts v
until_back_at close item ts v [] k p q cut word last e =
    inl (last.0, last.1, last.2, cut ∙ ap (λ z. z ++ q) word ∙ last.3, last.4, (last.5.0, e))
until_back_at close item ts v (y ∷ ys) k p q cut word last e =
    let whole : ts ≡ word.0 ++ (word.1 ++ q) = cut ∙ ap (λ z. z ++ q) word.2 ∙ append_assoc word.0 word.1 q in
    inr ((y, ys), (word.0, word.1 ++ q, whole, word.3, ((ys, k), (word.1, q, refl, word.4, last), refl)), e)

until_back : {S C V : Type 0} (close : S → Option C) (item : Lang S V) (ts : List S) (v : List V)
    → until close item ts v → until_step close item (until close item) ts v
until_back close item ts v u = until_back_at close item ts v u.0.0 u.0.1 u.1.0 u.1.1 u.1.2 u.1.3 u.1.4 u.2

starts_until : {S C V : Type 0} {item : Lang S V} {p : S → Bool} (close : S → Option C) → Starts p item
    → Starts (λ z. heads close z || p z) (until close item)
starts_until {p = p} close starts =
    starts_map (λ v. v.0)
    (starts_many (starts_more _ (λ z h. or_right (heads close z) (p z) h) starts)
    (starts_more _ (λ z h. or_left (heads close z) (p z) h) (starts_pick close _)))

pub joins_until : {S C V : Type 0} {item : Lang S V} {p si : S → Bool} (close : S → Option C) (s : S → Bool) → Starts p item
    → ((t : S) → p t ≡ true → si t ≡ false) → ((t : S) → heads close t ≡ true → si t ≡ false) → Joins si (until close item) s
joins_until {si = si} close s starts apart ends =
    joins_map (λ v. v.0) (joins_seq {s' = si} (joins_many starts apart (λ t h. h)) (joins_starts (starts_pick close _) ends))

-- any number of items, which begin with p, and then the closing symbol (t is one); an item goes on with neither
pub good_until : {S C V : Type 0} {item : Lang S V} {run : Reader S V} {p si : S → Bool} (n : ℕ) (close : S → Option C) (t : S) (k : C)
    (s : S → Bool) → close t ≡ Some k → Starts p item → ((t : S) → p t ≡ true → heads close t ≡ false)
    → ((t : S) → p t ≡ true → si t ≡ false) → ((t : S) → heads close t ≡ true → si t ≡ false)
    → Good n item run si → Good n (until close item) (run_until n close run) s
unfolding run_until
good_until {item = item} {p = p} zero close t k s e starts distinct apart ends g =
    good_none (λ z. heads close z || p z) s (t ∷ []) [] (([], k), ([], t ∷ [], refl, refl, (t, [], k, refl, e, (refl, refl))), refl)
    (starts_until close starts)
good_until {item = item} {p = p} (suc n) close t k s e starts distinct apart ends g =
    good_same (record { at = until_into close item }) (record { at = until_back close item })
    (good_or (heads close) (starts_pick close _) (joins_map cons (joins_seq {s' = never} (joins_starts starts distinct) (joins_never _ s)))
    (good_skip close t k e (good_empty n [] s))
    (good_map cons
    (good_then p starts (joins_until close s starts apart ends) g
    (good_until n close t k s e starts distinct apart ends (good_less n (omega arith) g)))))

-- the closing symbol, or a separator and one or more items up to the closing symbol
abbrev pub items_end : {S K C V : Type 0} → (S → Option K) → (S → Option C) → Lang S (List V) → Lang S (List V)
items_end separator close rest = or_else (skip close (empty [])) (skip separator rest)

abbrev pub items_step : {S K C V : Type 0} → (S → Option K) → (S → Option C) → Lang S V → Lang S (List V) → Lang S (List V)
items_step separator close item rest = map_to cons (seq item (items_end separator close rest))

-- one or more items, and the closing symbol
abbrev pub items_up_to : {S K C V : Type 0} → (S → Option K) → (S → Option C) → Lang S V → Lang S (List V)
items_up_to separator close item = up_to close (items separator item)

items_into_at : {S K C V : Type 0} (separator : S → Option K) (close : S → Option C) (item : Lang S V) (ts p q : List S) (v : List V) (y : V) (ys : List V)
    → ts ≡ p ++ q → item p y → items_end separator close (items_up_to separator close item) q ys → v ≡ y ∷ ys
    → items_up_to separator close item ts v
items_into_at separator close item ts p q v y ys cut word (inl u) e =
    ((y ∷ [], u.2), (p, q, cut, ((y, []), (p, [], sym (append-nil p), word, refl), refl), (u.0, u.1, u.2, u.3, u.4, (u.5.0, refl))), e ∙ ap (λ z. y ∷ z) u.5.1)
items_into_at separator close item ts p q v y ys cut word (inr u) e =
    let inner = u.5 in
    let first_item = inner.1.3 in
    let rest = first_item.1 in
    let both : inner.1.0 ≡ rest.0 ++ rest.1 = rest.2 in
    let tail : q ≡ (u.0 ∷ (rest.0 ++ rest.1)) ++ inner.1.1 =
    u.3 ∙ ap (λ z. u.0 ∷ z) (inner.1.2 ∙ ap (λ z. z ++ inner.1.1) both) in
    let whole : ts ≡ (p ++ ((u.0 ∷ rest.0) ++ rest.1)) ++ inner.1.1 =
    cut ∙ ap (λ z. p ++ z) tail ∙ sym (append_assoc p ((u.0 ∷ rest.0) ++ rest.1) inner.1.1) in
    let names : ys ≡ first_item.0.0 ∷ first_item.0.1 = inner.2 ∙ first_item.2 in (
      (y ∷ (first_item.0.0 ∷ first_item.0.1), inner.0.1),
      (
        p ++ ((u.0 ∷ rest.0) ++ rest.1),
        inner.1.1,
        whole,
        (
          (y, first_item.0.0 ∷ first_item.0.1),
          (
            p,
            (u.0 ∷ rest.0) ++ rest.1,
            refl,
            word,
            (u.0 ∷ rest.0, rest.1, refl, (u.0, rest.0, u.2, refl, u.4, rest.3), rest.4),
          ),
          refl,
        ),
        inner.1.4,
      ),
      e ∙ ap (λ z. y ∷ z) names,
    )

pub items_into : {S K C V : Type 0} (separator : S → Option K) (close : S → Option C) (item : Lang S V) (ts : List S) (v : List V)
    → items_step separator close item (items_up_to separator close item) ts v → items_up_to separator close item ts v
items_into separator close item ts v u =
    items_into_at separator close item ts u.1.0 u.1.1 v u.0.0 u.0.1 u.1.2 u.1.3 u.1.4 u.2

items_end_at : {S K C V : Type 0} (separator : S → Option K) (close : S → Option C) (item : Lang S V) (k : C) (p q : List S) (ys : List V)
    → many (skip separator item) p ys → one close q k → items_end separator close (items_up_to separator close item) (p ++ q) ys
items_end_at separator close item k p q [] word last =
    inl (last.0, last.1, last.2, ap (λ z. z ++ q) word ∙ last.3, last.4, (last.5.0, refl))
items_end_at separator close item k p q (y ∷ ys) word last =
    let one_item = word.3 in
    let cut : p ++ q ≡ one_item.0 ∷ (one_item.1 ++ word.1 ++ q) =
    ap (λ z. z ++ q) (word.2 ∙ ap (λ z. z ++ word.1) one_item.3) in
    inr (
      one_item.0,
      one_item.1 ++ word.1 ++ q,
      one_item.2,
      cut,
      one_item.4,
      ((y ∷ ys, k), (one_item.1 ++ word.1, q, refl, ((y, ys), (one_item.1, word.1, refl, one_item.5, word.4), refl), last), refl),
    )

items_back : {S K C V : Type 0} (separator : S → Option K) (close : S → Option C) (item : Lang S V) (ts : List S) (v : List V)
    → items_up_to separator close item ts v → items_step separator close item (items_up_to separator close item) ts v
items_back separator close item ts v u =
    let all = u.1.3 in
    let some = all.1 in
    let cut : ts ≡ some.0 ++ (some.1 ++ u.1.1) = u.1.2 ∙ ap (λ z. z ++ u.1.1) some.2 ∙ append_assoc some.0 some.1 u.1.1 in
    (all.0, (some.0, some.1 ++ u.1.1, cut, some.3, items_end_at separator close item u.0.1 some.1 u.1.1 all.0.1 some.4 u.1.4), u.2 ∙ all.2)

-- one or more items, which begin with p, between separators (t' is one), and then the closing symbol (t is one). An item goes
-- on with neither, and no separator closes
pub good_items : {S K C V : Type 0} {item : Lang S V} {run : Reader S V} {p si : S → Bool} (n : ℕ) (separator : S → Option K) (close : S → Option C)
    (t' : S) (k' : K) (t : S) (k : C) (s : S → Bool) → separator t' ≡ Some k' → close t ≡ Some k → Starts p item
    → ((t : S) → heads separator t ≡ true → heads close t ≡ false)
    → ((t : S) → heads separator t ≡ true → si t ≡ false) → ((t : S) → heads close t ≡ true → si t ≡ false)
    → Good n item run si → Good n (items_up_to separator close item) (run_items n separator close run) s
unfolding run_items
good_items {item = item} {p = p} zero separator close t' k' t k s e' e starts distinct apart ends g =
    let word = g.word in
    good_none p s (g.word ++ t ∷ []) (g.value ∷ [])
    ((g.value ∷ [], k), (g.word, t ∷ [], refl, ((g.value, []), (g.word, [], sym (append-nil g.word), g.spelled, refl), refl), (t, [], k, refl, e, (refl, refl))), refl)
    (starts_map (λ v. v.0) (starts_seq (one close) (starts_map cons (starts_seq (many (skip separator item)) starts))))
good_items {item = item} {p = p} (suc n) separator close t' k' t k s e' e starts distinct apart ends g =
    good_same (record { at = items_into separator close item }) (record { at = items_back separator close item })
    (good_map cons
    (good_seq (joins_or (joins_starts (starts_pick close _) ends) (joins_starts (starts_pick separator _) apart)) g
    (good_or (heads close) (starts_pick close _) (joins_starts (starts_pick separator _) distinct)
    (good_skip close t k e (good_empty n [] s))
    (good_skip separator t' k' e'
    (good_items n separator close t' k' t k s e' e starts distinct apart ends (good_less n (omega arith) g))))))

-- any number of items between separators, and then the closing symbol, with which no item begins
pub good_listed : {S K C V : Type 0} {item : Lang S V} {run : Reader S V} {p si : S → Bool} (n : ℕ) (separator : S → Option K) (close : S → Option C)
    (t' : S) (k' : K) (t : S) (k : C) (s : S → Bool) → separator t' ≡ Some k' → close t ≡ Some k → Starts p item
    → ((t : S) → p t ≡ true → heads close t ≡ false)
    → ((t : S) → heads separator t ≡ true → heads close t ≡ false)
    → ((t : S) → heads separator t ≡ true → si t ≡ false) → ((t : S) → heads close t ≡ true → si t ≡ false)
    → Good n item run si → Good n (listed separator close item) (run_listed n separator close run) s
good_listed {item = item} n separator close t' k' t k s e' e starts begins distinct apart ends g =
    good_or (heads close) (starts_pick close _)
    (joins_starts (starts_map (λ v. v.0) (starts_seq (one close) (starts_map cons (starts_seq (many (skip separator item)) starts)))) begins)
    (good_less n (omega arith) (good_skip close t k e (good_empty n [] s)))
    (good_items n separator close t' k' t k s e' e starts distinct apart ends g)
