-- Rules that lead back to themselves: such a rule is a fixed point, and its reader is good if the rule's is.
use Rattle.std.proofs.Common.{ℕ, zero, suc, ◌≤◌, ◌+◌, Bool, List, [], ◌∷◌, Option, None, Some, inl, inr, arith}
use Rattle.grammar.specs.Language.{Lang, pick, one, skip, seq, map_to, maybe, many, or_else, cons, up_to, until, items, listed, nothing, nested, recursive, empty}
use Rattle.grammar.specs.Reader.{Reader, run_recursive}
use Rattle.grammar.proofs.Good.{Good, Starts, Within}
use Rattle.grammar.proofs.Sides.{starts_recursive}
use Rattle.grammar.proofs.Laws.{good_same, good_none}

-- what one of the languages of a family spells
abbrev pub some_of : {S V : Type 0} → (ℕ → Lang S V) → Lang S V
some_of L ts v = (d : ℕ) × L d ts v

-- each language of the family has all words of those before it
abbrev pub Rising : {S V : Type 0} → (ℕ → Lang S V) → Type 0
Rising {S} {V} L = (d e : ℕ) → d ≤ e → Within (L d) (L e)

-- what a rule F does with its inner uses: it has more words where they have more, and each of its words uses finitely many of theirs
pub record Regular {S V W : Type 0} (F : Lang S V → Lang S W) : Type 1 where
  pub more : (L M : Lang S V) → Within L M → Within (F L) (F M)
  pub limit : (L : ℕ → Lang S V) → Rising L → Within (F (some_of L)) (some_of (λ d. F (L d)))

-- an inner use
pub regular_self : {S V : Type 0} → Regular {S = S} {V = V} (λ L. L)
regular_self = record { more = λ L M w. w; limit = λ L up. record { at = λ ts v u. u } }

-- a part without inner uses
pub regular_fixed : {S V W : Type 0} (a : Lang S W) → Regular {S = S} {V = V} (λ L. a)
regular_fixed a = record { more = λ L M w. record { at = λ ts v u. u }; limit = λ L up. record { at = λ ts v u. (0, u) } }

pub regular_pick : {S K V W : Type 0} {F : K → Lang S V → Lang S W} (f : S → Option K) → ((k : K) → Regular (F k)) → Regular (λ L. pick f (λ k. F k L))
regular_pick f g = record {
  more = λ L M w. record { at = λ ts v u. (u.0, u.1, u.2, u.3, u.4, ((g u.2).more L M w).at u.1 v u.5) };
  limit = λ L up. record {
    at = λ ts v u. let inner = ((g u.2).limit L up).at u.1 v u.5 in (inner.0, (u.0, u.1, u.2, u.3, u.4, inner.1));
  };
}

pub regular_skip : {S K V W : Type 0} {F : Lang S V → Lang S W} (f : S → Option K) → Regular F → Regular (λ L. skip f (F L))
regular_skip f g = regular_pick f (λ _. g)

pub regular_seq : {S V A B : Type 0} {F : Lang S V → Lang S A} {G : Lang S V → Lang S B} → Regular F → Regular G → Regular (λ L. seq (F L) (G L))
regular_seq f g = record {
  more = λ L M w. record {
    at = λ ts v u. (u.0, u.1, u.2, (f.more L M w).at u.0 v.0 u.3, (g.more L M w).at u.1 v.1 u.4);
  };
  limit = λ L up. record {
    at = λ ts v u.
        let left = (f.limit L up).at u.0 v.0 u.3 in
        let right = (g.limit L up).at u.1 v.1 u.4 in
        let both : ℕ = left.0 + right.0 in (
          both,
          (
            u.0,
            u.1,
            u.2,
            (f.more (L left.0) (L both) (up left.0 both (omega arith))).at u.0 v.0 left.1,
            (g.more (L right.0) (L both) (up right.0 both (omega arith))).at u.1 v.1 right.1,
          ),
        );
  };
}

pub regular_map : {S V A B : Type 0} {F : Lang S V → Lang S A} (h : A → B) → Regular F → Regular (λ L. map_to h (F L))
regular_map h f = record {
  more = λ L M w. record { at = λ ts v u. (u.0, (f.more L M w).at ts u.0 u.1, u.2) };
  limit = λ L up. record {
    at = λ ts v u. let inner = (f.limit L up).at ts u.0 u.1 in (inner.0, (u.0, inner.1, u.2));
  };
}

pub regular_or : {S V W : Type 0} {F G : Lang S V → Lang S W} → Regular F → Regular G → Regular (λ L. or_else (F L) (G L))
regular_or f g = record {
  more = λ L M w. record {
    at = λ ts v u. elim u [ inl x ↦ inl ((f.more L M w).at ts v x) | inr x ↦ inr ((g.more L M w).at ts v x) ];
  };
  limit = λ L up. record {
    at = λ ts v u. elim u [
      | inl x ↦ let inner = (f.limit L up).at ts v x in (inner.0, inl inner.1)
      | inr x ↦ let inner = (g.limit L up).at ts v x in (inner.0, inr inner.1)
    ];
  };
}

maybe_more : {S V : Type 0} (a b : Lang S V) → Within a b → (ts : List S) (v : Option V) → maybe a ts v → maybe b ts v
maybe_more a b w ts None u = u
maybe_more a b w ts (Some v) u = w.at ts v u

maybe_limit : {S V W : Type 0} (F : Lang S V → Lang S W) → Regular F → (L : ℕ → Lang S V) → Rising L
    → (ts : List S) (v : Option W) → maybe (F (some_of L)) ts v → (d : ℕ) × maybe (F (L d)) ts v
maybe_limit F f L up ts None u = (0, u)
maybe_limit F f L up ts (Some v) u = (f.limit L up).at ts v u

pub regular_maybe : {S V W : Type 0} {F : Lang S V → Lang S W} → Regular F → Regular (λ L. maybe (F L))
regular_maybe {F = F} f = record {
  more = λ L M w. record { at = maybe_more (F L) (F M) (f.more L M w) };
  limit = λ L up. record { at = maybe_limit F f L up };
}

many_more : {S V : Type 0} (a b : Lang S V) → Within a b → (ts : List S) (v : List V) → many a ts v → many b ts v
many_more a b w ts [] u = u
many_more a b w ts (v ∷ vs) u = (u.0, u.1, u.2, w.at u.0 v u.3, many_more a b w u.1 vs u.4)

many_limit : {S V W : Type 0} (F : Lang S V → Lang S W) → Regular F → (L : ℕ → Lang S V) → Rising L
    → (ts : List S) (v : List W) → many (F (some_of L)) ts v → (d : ℕ) × many (F (L d)) ts v
many_limit F f L up ts [] u = (0, u)
many_limit F f L up ts (v ∷ vs) u =
    let left = (f.limit L up).at u.0 v u.3 in
    let right = many_limit F f L up u.1 vs u.4 in
    let both : ℕ = left.0 + right.0 in (
      both,
      (
        u.0,
        u.1,
        u.2,
        (f.more (L left.0) (L both) (up left.0 both (omega arith))).at u.0 v left.1,
        many_more (F (L right.0)) (F (L both)) (f.more (L right.0) (L both) (up right.0 both (omega arith))) u.1 vs right.1,
      ),
    )

pub regular_many : {S V W : Type 0} {F : Lang S V → Lang S W} → Regular F → Regular (λ L. many (F L))
regular_many {F = F} f = record {
  more = λ L M w. record { at = many_more (F L) (F M) (f.more L M w) };
  limit = λ L up. record { at = many_limit F f L up };
}

pub regular_up_to : {S K V W : Type 0} {F : Lang S V → Lang S W} (close : S → Option K) → Regular F → Regular (λ L. up_to close (F L))
regular_up_to close f = regular_map (λ v. v.0) (regular_seq f (regular_fixed (one close)))

pub regular_until : {S C V W : Type 0} {F : Lang S V → Lang S W} (close : S → Option C) → Regular F → Regular (λ L. until close (F L))
regular_until close f = regular_up_to close (regular_many f)

pub regular_items : {S K V W : Type 0} {F : Lang S V → Lang S W} (separator : S → Option K) → Regular F → Regular (λ L. items separator (F L))
regular_items separator f = regular_map cons (regular_seq f (regular_many (regular_skip separator f)))

pub regular_listed : {S K C V W : Type 0} {F : Lang S V → Lang S W} (separator : S → Option K) (close : S → Option C) → Regular F → Regular (λ L. listed separator close (F L))
regular_listed separator close f =
    regular_or (regular_fixed (skip close (empty []))) (regular_up_to close (regular_items separator f))

nested_up : {S V : Type 0} (rule : Lang S V → Lang S V) → Regular rule → (d e : ℕ) → d ≤ e → Within (nested rule d) (nested rule e)
unfolding nested
nested_up rule g zero zero le = record { at = λ ts v u. u }
nested_up rule g zero (suc e) le = g.more nothing (nested rule e) (record { at = λ ts v u. absurd u })
nested_up rule g (suc d) zero le = absurd (omega arith)
nested_up rule g (suc d) (suc e) le = g.more (nested rule d) (nested rule e) (nested_up rule g d e (omega arith))

out_at : {S V : Type 0} (rule : Lang S V → Lang S V) → Regular rule → (d : ℕ) (ts : List S) (v : V) → nested rule d ts v → rule (recursive rule) ts v
unfolding nested recursive
out_at rule g zero ts v u = (g.more nothing (recursive rule) (record { at = λ xs w x. absurd x })).at ts v u
out_at rule g (suc d) ts v u = (g.more (nested rule d) (recursive rule) (record { at = λ xs w x. (d, x) })).at ts v u

-- a recursive rule spells what its rule spells with itself for each inner use
pub recursive_out : {S V : Type 0} (rule : Lang S V → Lang S V) → Regular rule → Within (recursive rule) (rule (recursive rule))
unfolding nested recursive
recursive_out rule g = record { at = λ ts v u. out_at rule g u.0 ts v u.1 }

pub recursive_in : {S V : Type 0} (rule : Lang S V → Lang S V) → Regular rule → Within (rule (recursive rule)) (recursive rule)
unfolding nested recursive
recursive_in rule g = record {
  at = λ ts v u. let inner = (g.limit (nested rule) (nested_up rule g)).at ts v u in (suc inner.0, inner.1);
}

-- the reader of a recursive rule: q spells v without inner uses, and the rule's reader is good with any good reader for them
pub good_recursive : {S V : Type 0} {p s : S → Bool} (rule : Lang S V → Lang S V) (run : ℕ → Reader S V → Reader S V) (q : List S) (v : V)
    → rule nothing q v → ((L : Lang S V) → Starts p (rule L)) → Regular rule
    → ((n : ℕ) (r : Reader S V) → Good n (recursive rule) r s → Good (suc n) (rule (recursive rule)) (run n r) s)
    → (n : ℕ) → Good n (recursive rule) (run_recursive run n) s
unfolding nested recursive run_recursive
good_recursive {p = p} {s = s} rule run q v word starts g step zero = good_none p s q v (0, word) (starts_recursive rule starts)
good_recursive {p = p} {s = s} rule run q v word starts g step (suc n) =
    good_same (recursive_in rule g) (recursive_out rule g)
    (step n (run_recursive run n) (good_recursive rule run q v word starts g step n))
