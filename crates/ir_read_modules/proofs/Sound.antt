-- Where a reader gives a value, a front of the list spells it: for each word of the grammars' language, whatever bound the reader has.
use Rattle.std.proofs.Common.{◌≡◌, ℕ, zero, suc, Bool, true, false, List, [], ◌∷◌, ◌++◌, Option, None, Some, inl, inr, refl, sym, ◌∙◌, ap, subst, append_assoc}
use Rattle.grammar.specs.Language.{Lang, empty, pick, one, skip, seq, map_to, maybe, many, or_else, up_to, until, listed, recursive}
use Rattle.grammar.specs.Reader.{Out, Got, Wrong, Reader, then_out, heads, opens, taken, run_empty, run_pick, run_one, run_skip, run_seq, run_map, run_maybe, run_or, run_many, run_up_to, run_until, run_items, run_listed, run_recursive}
use Rattle.grammar.proofs.Good.{Within}
use Rattle.grammar.proofs.Lists.{many_into, until_into, items_up_to, items_into}
use Rattle.grammar.proofs.Recursion.{Regular, recursive_in}

-- a front of ts spells v, and rest is left
abbrev pub Front : {S V : Type 0} → Lang S V → List S → V → List S → Type 0
Front {S} L ts v rest = (p : List S) × (ts ≡ p ++ rest) × L p v

abbrev pub FrontOf : {S V : Type 0} → Lang S V → List S → Out S V → Type 0
FrontOf L ts (Got v rest) = Front L ts v rest
FrontOf L ts (Wrong rest) = Unit {0}

pub record Sound {S V : Type 0} (L : Lang S V) (r : Reader S V) : Type 0 where
  pub at : (ts : List S) → FrontOf L ts (r ts)

front_from : {S V : Type 0} (L : Lang S V) (ts rest : List S) (v : V) (o : Out S V) → FrontOf L ts o → o ≡ Got v rest → Front L ts v rest
front_from L ts rest v (Got w more) f e =
    let value : w ≡ v = cc in
    let left : more ≡ rest = cc in
    (f.0, f.1 ∙ ap (λ z. f.0 ++ z) left, subst (λ z. L f.0 z) value f.2)
front_from L ts rest v (Wrong more) f e = cc

-- a value that a sound reader gives is spelled by a front
pub front_read : {S V : Type 0} {L : Lang S V} {r : Reader S V} → Sound L r → (ts rest : List S) (v : V) → r ts ≡ Got v rest → Front L ts v rest
front_read {L = L} {r = r} g ts rest v e = front_from L ts rest v (r ts) (g.at ts) e

within_at : {S V : Type 0} (L M : Lang S V) → Within L M → (ts : List S) (o : Out S V) → FrontOf L ts o → FrontOf M ts o
within_at L M w ts (Got v rest) f = (f.0, f.1, w.at f.0 v f.2)
within_at L M w ts (Wrong rest) f = tt

pub sound_within : {S V : Type 0} {L M : Lang S V} {r : Reader S V} → Within L M → Sound L r → Sound M r
sound_within {L = L} {M = M} {r = r} w g = record { at = λ ts. within_at L M w ts (r ts) (g.at ts) }

pub sound_empty : {S V : Type 0} (v : V) → Sound {S = S} (empty v) (run_empty v)
sound_empty v = record { at = λ ts. ([], refl, (refl, refl)) }

one_taken : {S K : Type 0} (f : S → Option K) (t : S) (q : List S) (o : Option K) → f t ≡ o → FrontOf (one f) (t ∷ q) (taken o (t ∷ q) q)
one_taken f t q None e = tt
one_taken f t q (Some k) e = (t ∷ [], refl, (t, [], k, refl, e, (refl, refl)))

one_at : {S K : Type 0} (f : S → Option K) (ts : List S) → FrontOf (one f) ts (run_one f ts)
one_at f [] = tt
one_at f (t ∷ q) = one_taken f t q (f t) refl

pub sound_one : {S K : Type 0} (f : S → Option K) → Sound (one f) (run_one f)
sound_one f = record { at = one_at f }

pick_got : {S K V : Type 0} (f : S → Option K) (L : K → Lang S V) (t : S) (q : List S) (k : K) (o : Out S V) → f t ≡ Some k → FrontOf (L k) q o → FrontOf (pick f L) (t ∷ q) o
pick_got f L t q k (Got v rest) e g = (t ∷ g.0, ap (λ z. t ∷ z) g.1, (t, g.0, k, refl, e, g.2))
pick_got f L t q k (Wrong rest) e g = tt

pick_taken : {S K V : Type 0} (f : S → Option K) (L : K → Lang S V) (r : K → Reader S V) (t : S) (q : List S) (o : Option K) → f t ≡ o → ((k : K) → Sound (L k) (r k))
    → FrontOf (pick f L) (t ∷ q) (then_out (taken o (t ∷ q) q) r)
pick_taken f L r t q None e g = tt
pick_taken f L r t q (Some k) e g = pick_got f L t q k (r k q) e ((g k).at q)

pick_at : {S K V : Type 0} (f : S → Option K) (L : K → Lang S V) (r : K → Reader S V) → ((k : K) → Sound (L k) (r k)) → (ts : List S) → FrontOf (pick f L) ts (run_pick f r ts)
pick_at f L r g [] = tt
pick_at f L r g (t ∷ q) = pick_taken f L r t q (f t) refl g

pub sound_pick : {S K V : Type 0} (f : S → Option K) {L : K → Lang S V} {r : K → Reader S V} → ((k : K) → Sound (L k) (r k)) → Sound (pick f L) (run_pick f r)
sound_pick f {L = L} {r = r} g = record { at = pick_at f L r g }

pub sound_skip : {S K V : Type 0} (f : S → Option K) {a : Lang S V} {r : Reader S V} → Sound a r → Sound (skip f a) (run_skip f r)
sound_skip f g = sound_pick f (λ _. g)

map_at : {S A B : Type 0} (h : A → B) (a : Lang S A) (ts : List S) (o : Out S A) → FrontOf a ts o → FrontOf (map_to h a) ts (then_out o (λ v rest. Got (h v) rest))
map_at h a ts (Got v rest) f = (f.0, f.1, (v, f.2, refl))
map_at h a ts (Wrong rest) f = tt

pub sound_map : {S A B : Type 0} (h : A → B) {a : Lang S A} {r : Reader S A} → Sound a r → Sound (map_to h a) (run_map h r)
sound_map h {a = a} {r = r} g = record { at = λ ts. map_at h a ts (r ts) (g.at ts) }

seq_second : {S A B : Type 0} (a : Lang S A) (b : Lang S B) (ts p rest : List S) (v : A) (o : Out S B) → ts ≡ p ++ rest → a p v → FrontOf b rest o
    → FrontOf (seq a b) ts (then_out {B = A × B} o (λ w more. Got (v, w) more))
seq_second a b ts p rest v (Got w more) cut word f = (p ++ f.0, cut ∙ ap (λ z. p ++ z) f.1 ∙ sym (append_assoc p f.0 more), (p, f.0, refl, word, f.2))
seq_second a b ts p rest v (Wrong more) cut word f = tt

seq_at : {S A B : Type 0} (a : Lang S A) (b : Lang S B) (r : Reader S B) → Sound b r → (ts : List S) (o : Out S A) → FrontOf a ts o
    → FrontOf (seq a b) ts (then_out {B = A × B} o (λ v rest. then_out {B = A × B} (r rest) (λ w more. Got (v, w) more)))
seq_at a b r g ts (Got v rest) f = seq_second a b ts f.0 rest v (r rest) f.1 f.2 (g.at rest)
seq_at a b r g ts (Wrong rest) f = tt

pub sound_seq : {S A B : Type 0} {a : Lang S A} {b : Lang S B} {ra : Reader S A} {rb : Reader S B} → Sound a ra → Sound b rb → Sound (seq a b) (run_seq ra rb)
sound_seq {a = a} {b = b} {ra = ra} {rb = rb} g h = record { at = λ ts. seq_at a b rb h ts (ra ts) (g.at ts) }

some_at : {S V : Type 0} (a : Lang S V) (ts : List S) (o : Out S V) → FrontOf a ts o → FrontOf (maybe a) ts (then_out o (λ v rest. Got (Some v) rest))
some_at a ts (Got v rest) f = f
some_at a ts (Wrong rest) f = tt

maybe_at : {S V : Type 0} (p : S → Bool) (a : Lang S V) (r : Reader S V) → Sound a r → (ts : List S) (b : Bool) → opens p ts ≡ b → FrontOf (maybe a) ts (run_maybe p r ts)
maybe_at p a r g ts true e = rw e (some_at a ts (r ts) (g.at ts))
maybe_at p a r g ts false e = rw e ([], refl, refl)

pub sound_maybe : {S V : Type 0} (p : S → Bool) {a : Lang S V} {r : Reader S V} → Sound a r → Sound (maybe a) (run_maybe p r)
sound_maybe p {a = a} {r = r} g = record { at = λ ts. maybe_at p a r g ts (opens p ts) refl }

or_at : {S V : Type 0} (p : S → Bool) (a b : Lang S V) (ra rb : Reader S V) → Sound a ra → Sound b rb → (ts : List S) (c : Bool) → opens p ts ≡ c
    → FrontOf (or_else a b) ts (run_or p ra rb ts)
or_at p a b ra rb g h ts true e = rw e (within_at a (or_else a b) (record { at = λ q v u. inl u }) ts (ra ts) (g.at ts))
or_at p a b ra rb g h ts false e = rw e (within_at b (or_else a b) (record { at = λ q v u. inr u }) ts (rb ts) (h.at ts))

pub sound_or : {S V : Type 0} (p : S → Bool) {a b : Lang S V} {ra rb : Reader S V} → Sound a ra → Sound b rb → Sound (or_else a b) (run_or p ra rb)
sound_or p {a = a} {b = b} {ra = ra} {rb = rb} g h = record { at = λ ts. or_at p a b ra rb g h ts (opens p ts) refl }

pub sound_many : {S V : Type 0} {a : Lang S V} {r : Reader S V} (n : ℕ) (p : S → Bool) → Sound a r → Sound (many a) (run_many n p r)
unfolding run_many
sound_many zero p g = record { at = λ ts. ([], refl, refl) }
sound_many {a = a} (suc n) p g =
    sound_within (record { at = many_into a }) (sound_or p (sound_map _ (sound_seq g (sound_many n p g))) (sound_empty []))

pub sound_up_to : {S K V : Type 0} (close : S → Option K) {a : Lang S V} {r : Reader S V} → Sound a r → Sound (up_to close a) (run_up_to close r)
sound_up_to close g = sound_map _ (sound_seq g (sound_one close))

pub sound_until : {S C V : Type 0} {item : Lang S V} {r : Reader S V} (n : ℕ) (close : S → Option C) → Sound item r → Sound (until close item) (run_until n close r)
unfolding run_until
sound_until zero close g = record { at = λ ts. tt }
sound_until {item = item} (suc n) close g =
    sound_within (record { at = until_into close item })
    (sound_or (heads close) (sound_skip close (sound_empty [])) (sound_map _ (sound_seq g (sound_until n close g))))

sound_items : {S K C V : Type 0} {item : Lang S V} {r : Reader S V} (n : ℕ) (separator : S → Option K) (close : S → Option C) → Sound item r
    → Sound (items_up_to separator close item) (run_items n separator close r)
unfolding run_items
sound_items zero separator close g = record { at = λ ts. tt }
sound_items {item = item} (suc n) separator close g =
    sound_within (record { at = items_into separator close item })
    (sound_map _ (sound_seq g (sound_or (heads close) (sound_skip close (sound_empty [])) (sound_skip separator (sound_items n separator close g)))))

pub sound_listed : {S K C V : Type 0} {item : Lang S V} {r : Reader S V} (n : ℕ) (separator : S → Option K) (close : S → Option C) → Sound item r
    → Sound (listed separator close item) (run_listed n separator close r)
sound_listed n separator close g = sound_or (heads close) (sound_skip close (sound_empty [])) (sound_items n separator close g)

pub sound_recursive : {S V : Type 0} (rule : Lang S V → Lang S V) (run : ℕ → Reader S V → Reader S V) → Regular rule
    → ((n : ℕ) (r : Reader S V) → Sound (recursive rule) r → Sound (rule (recursive rule)) (run n r)) → (n : ℕ) → Sound (recursive rule) (run_recursive run n)
unfolding run_recursive
sound_recursive rule run regular step zero = record { at = λ ts. tt }
sound_recursive rule run regular step (suc n) =
    sound_within (recursive_in rule regular) (step n (run_recursive run n) (sound_recursive rule run regular step n))
