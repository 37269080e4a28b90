-- How far one type or constant goes, by counting: up to a bracket that nests too deep, or up to where the first bracket is closed.
use Rattle.std.proofs.Common.{◌≡◌, ℕ, suc, ◌≤◌, ◌==◌, ◌&&◌, ◌⊎◌, Bool, true, false, not, List, [], ◌∷◌, ◌++◌, length, take, None, Some, refl, sym, ◌∙◌, ap, subst, arith, inl, inr, append_assoc, length-append, if◌then◌else◌, eqb-true}
use Rattle.std.specs.Option.{option_map}
use Rattle.std.proofs.lemmas.List.{append-nil}
use Rattle.grammar.specs.Language.{Lang}
use Rattle.grammar.specs.Reader.{Wrong, Reader}
use Rattle.grammar.specs.FirstWrong.{Begins, Reads}
use Rattle.grammar.proofs.Good.{never, Good, clear_never}
use Rattle.grammar.proofs.Reading.{reads, reads_begun, one_reading}
use Rattle.ir_lex.specs.Symbols.{Symbol}
use Rattle.ir_grammar_consts.specs.Depth.{open_after, open_from, IsShallow}
use Rattle.ir_grammar_consts.specs.Counting.{deep_len}
use Rattle.ir_grammar_consts.proofs.Depths.{deep_counted}
use Rattle.ir_const.specs.Reach.{is_address_word, one_more, reach}
use Rattle.ir_const.proofs.Wholes.{Wholes, whole_ends}

-- what one step of the count says, by its two tests
abbrev reach_step : Bool → Bool → ℕ × Bool → ℕ × Bool
reach_step deep ends more = if deep then (1, true) else (if ends then (1, false) else one_more more)

-- where the last symbol is a bracket that nests too deep, it is the first one
deep_step : (n : ℕ) (t : Symbol) (ts : List Symbol) (deep ends : Bool) → (open_after n t == 65) ≡ deep
    → ((reach (open_after n t) ts).1 ≡ true → deep_len (open_after n t) ts ≡ Some (reach (open_after n t) ts).0)
    → (reach_step deep ends (reach (open_after n t) ts)).1 ≡ true
    → (if deep then Some 1 else option_map suc (deep_len (open_after n t) ts)) ≡ Some (reach_step deep ends (reach (open_after n t) ts)).0
deep_step n t ts true ends e inner h = refl
deep_step n t ts false true e inner h = cc
deep_step n t ts false false e inner h = rw (inner h) refl

pub reach_deep : (n : ℕ) (ts : List Symbol) → (reach n ts).1 ≡ true → deep_len n ts ≡ Some (reach n ts).0
unfolding reach deep_len
reach_deep n [] h = cc
reach_deep n (t ∷ ts) h =
    deep_step n t ts (open_after n t == 65) ((open_after n t == 0) && not (is_address_word t)) refl (reach_deep (open_after n t) ts) h

-- where it isn't, no bracket up to it nests too deep
shallow_step : (n : ℕ) (t : Symbol) (ts : List Symbol) (deep ends : Bool) → (open_after n t == 65) ≡ deep
    → ((reach (open_after n t) ts).1 ≡ false → deep_len (open_after n t) (take (reach (open_after n t) ts).0 ts) ≡ None)
    → (reach_step deep ends (reach (open_after n t) ts)).1 ≡ false
    → deep_len n (take (reach_step deep ends (reach (open_after n t) ts)).0 (t ∷ ts)) ≡ None
unfolding deep_len
shallow_step n t ts true ends e inner h = cc
shallow_step n t ts false true e inner h = rw e refl
shallow_step n t ts false false e inner h = rw (e, inner h) refl

pub reach_shallow : (n : ℕ) (ts : List Symbol) → (reach n ts).1 ≡ false → deep_len n (take (reach n ts).0 ts) ≡ None
unfolding reach deep_len
reach_shallow n [] h = refl
reach_shallow n (t ∷ ts) h =
    shallow_step n t ts (open_after n t == 65) ((open_after n t == 0) && not (is_address_word t)) refl (reach_shallow (open_after n t) ts) h

-- these symbols end in one that is no word of an address, and after them no bracket is open
pub record IsShut (n : ℕ) (ts : List Symbol) : Type 0 where
  pub front : List Symbol
  pub last : Symbol
  pub cut : ts ≡ front ++ last ∷ []
  pub none : open_from n ts ≡ 0
  pub other : is_address_word last ≡ false

and_parts : (a b : Bool) → (a && b) ≡ true → (a ≡ true) × (b ≡ true)
and_parts true true h = (refl, refl)
and_parts true false h = cc
and_parts false b h = cc

not_true : (b : Bool) → not b ≡ true → b ≡ false
not_true true h = cc
not_true false h = refl

shut_one : (n : ℕ) (t : Symbol) → ((open_after n t == 0) && not (is_address_word t)) ≡ true → IsShut n (t ∷ [])
unfolding open_from
shut_one n t h =
    let parts = and_parts (open_after n t == 0) (not (is_address_word t)) h in
    record { front = []; last = t; cut = refl; none = eqb-true (open_after n t) 0 parts.0; other = not_true (is_address_word t) parts.1 }

shut_more : (n : ℕ) (t : Symbol) (ts : List Symbol) → IsShut (open_after n t) ts → IsShut n (t ∷ ts)
unfolding open_from
shut_more n t ts g = record { front = t ∷ g.front; last = g.last; cut = ap (λ z. t ∷ z) g.cut; none = g.none; other = g.other }

ends_step : (n : ℕ) (t : Symbol) (ts : List Symbol) (deep ends : Bool) → ((open_after n t == 0) && not (is_address_word t)) ≡ ends
    → ((reach (open_after n t) ts).1 ≡ false → ((reach (open_after n t) ts).0 ≡ length ts) ⊎ IsShut (open_after n t) (take (reach (open_after n t) ts).0 ts))
    → (reach_step deep ends (reach (open_after n t) ts)).1 ≡ false
    → ((reach_step deep ends (reach (open_after n t) ts)).0 ≡ length (t ∷ ts)) ⊎ IsShut n (take (reach_step deep ends (reach (open_after n t) ts)).0 (t ∷ ts))
ends_step n t ts true ends e inner h = cc
ends_step n t ts false true e inner h = inr (shut_one n t e)
ends_step n t ts false false e inner h = elim (inner h) [
  | inl all ↦ inl (ap suc all)
  | inr shut ↦ inr (shut_more n t (take (reach (open_after n t) ts).0 ts) shut)
]

-- where it isn't, it is the last symbol of all, or the brackets are shut there
pub reach_ends : (n : ℕ) (ts : List Symbol) → (reach n ts).1 ≡ false → ((reach n ts).0 ≡ length ts) ⊎ IsShut n (take (reach n ts).0 ts)
unfolding reach
reach_ends n [] h = inl refl
reach_ends n (t ∷ ts) h =
    ends_step n t ts (open_after n t == 65) ((open_after n t == 0) && not (is_address_word t)) refl (reach_ends (open_after n t) ts) h

within_step : (n : ℕ) (t : Symbol) (ts : List Symbol) (deep ends : Bool) → (reach (open_after n t) ts).0 ≤ length ts → (reach_step deep ends (reach (open_after n t) ts)).0 ≤ length (t ∷ ts)
within_step n t ts true ends h = omega arith
within_step n t ts false true h = omega arith
within_step n t ts false false h = omega arith

pub reach_within : (n : ℕ) (ts : List Symbol) → (reach n ts).0 ≤ length ts
unfolding reach
reach_within n [] = omega arith
reach_within n (t ∷ ts) = within_step n t ts (open_after n t == 65) ((open_after n t == 0) && not (is_address_word t)) (reach_within (open_after n t) ts)

-- two cuts of one list: one front goes on to the other
fronts : (xs ys rest more : List Symbol) → xs ++ rest ≡ ys ++ more
    → ((u : List Symbol) × (ys ≡ xs ++ u)) ⊎ ((t : Symbol) × (u : List Symbol) × (xs ≡ ys ++ (t ∷ u)))
fronts [] ys rest more e = inl (ys, refl)
fronts (x ∷ xs) [] rest more e = inr (x, xs, refl)
fronts (x ∷ xs) (y ∷ ys) rest more e =
    let tail : xs ++ rest ≡ ys ++ more = cc in
    let head : x ≡ y = cc in
    elim (fronts xs ys rest more tail) [
      | inl u ↦ inl (u.0, let part : ys ≡ xs ++ u.0 = u.1 in cc)
      | inr u ↦ inr (u.0, u.1, let part : xs ≡ ys ++ (u.0 ∷ u.1) = u.2 in cc)
    ]

goes_on : (xs : List Symbol) (t : Symbol) (ys : List Symbol) → xs ++ (t ∷ ys) ≡ xs → ⊥
goes_on xs t ys e = absurd (omega (arith, ap length e, length-append xs (t ∷ ys)))

-- of symbols up to where no bracket nests too deep, a longer front begins no word where they are one, or where one of them is wrong
past_word : {V : Type 0} {L : Lang Symbol V} {r : ℕ → Reader Symbol V} → ((n : ℕ) → Good n L (r n) never) → (n : ℕ) (part : List Symbol) → length part ≤ n
    → (r n part ≡ Wrong [] → ⊥) → (t : Symbol) (u q : List Symbol) (v : V) → L ((part ++ (t ∷ u)) ++ q) v → ⊥
past_word {V = V} {L = L} {r = r} g n part short other t u q v word =
    let line : (part ++ (t ∷ u)) ++ q ≡ part ++ ((t ∷ u) ++ q) = append_assoc part (t ∷ u) q in
    let whole : L (part ++ ((t ∷ u) ++ q)) v = subst (λ z. L z v) line word in
    elim (reads_begun (g n) part short ((t ∷ u) ++ q, v, whole)) [
      | inl w ↦ other w
      | inr got ↦
          let reading = subst (Reads L part) got.1 (reads (g n) part short) in
          let all : part ≡ reading.0 = reading.1 ∙ append-nil reading.0 in
          let alone : L part got.0 = subst (λ z. L z got.0) (sym all) reading.2 in
          let same = one_reading g part (part ++ ((t ∷ u) ++ q)) ((t ∷ u) ++ q) [] got.0 v alone whole (sym (append-nil (part ++ ((t ∷ u) ++ q)))) (clear_never ((t ∷ u) ++ q)) (clear_never {S = Symbol} []) in
          goes_on part t (u ++ q) (sym same.0)
    ]

-- no bracket nests too deep in a list whose reader doesn't stop at the end of such symbols, or of which these are all
pub near_shallow : {V : Type 0} {L : Lang Symbol V} {r : ℕ → Reader Symbol V} → ((n : ℕ) → Good n L (r n) never) → (n : ℕ) (part rest : List Symbol) → length part ≤ n
    → deep_len 0 part ≡ None → (rest ≡ []) ⊎ (r n part ≡ Wrong [] → ⊥) → IsShallow L (part ++ rest)
near_shallow {V = V} {L = L} {r = r} g n part rest short none stop front more cut deep =
    elim (fronts front part more rest (sym cut)) [
      | inl u ↦
          let there : deep_len 0 part ≡ Some (length front) = ap (deep_len 0) u.1 ∙ deep_counted 0 front u.0 deep.deep in
          let no : None ≡ Some (length front) = sym none ∙ there in
          cc
      | inr u ↦ elim stop [
        | inl empty ↦
            let line : part ++ [] ≡ (part ++ (u.0 ∷ u.1)) ++ more = ap (λ z. part ++ z) (sym empty) ∙ cut ∙ ap (λ z. z ++ more) u.2 in
            goes_on part u.0 (u.1 ++ more) (sym (append_assoc part (u.0 ∷ u.1) more) ∙ sym line ∙ append-nil part)
        | inr other ↦
            past_word g n part short other u.0 u.1 deep.begins.0 deep.begins.1
            (subst (λ z. L (z ++ deep.begins.0) deep.begins.1) u.2 deep.begins.2)
      ]
    ]

-- a reader doesn't stop at the end of symbols that are shut
pub shut_read : {V : Type 0} {n : ℕ} {L : Lang Symbol V} {r : Reader Symbol V} → Good n L r never → Wholes L → (part : List Symbol) → length part ≤ n → IsShut 0 part
    → r part ≡ Wrong [] → ⊥
shut_read {V = V} {L = L} {r = r} g wholes part short shut stop =
    let reading = subst (Reads L part) stop (reads g part short) in
    let all : part ≡ reading.0.before = reading.0.cut ∙ append-nil reading.0.before in
    let begun : Begins L part = subst (Begins L) (sym all) reading.0.begins in
    let line : part ++ begun.0 ≡ (shut.front ++ shut.last ∷ []) ++ begun.0 = ap (λ z. z ++ begun.0) shut.cut in
    let none : open_from 0 (shut.front ++ shut.last ∷ []) ≡ 0 = ap (open_from 0) (sym shut.cut) ∙ shut.none in
    let empty : begun.0 ≡ [] = whole_ends (part ++ begun.0) (wholes.at (part ++ begun.0) begun.1 begun.2) shut.front shut.last begun.0 line none shut.other in
    let word : L part begun.1 = subst (λ z. L z begun.1) (ap (λ z. part ++ z) empty ∙ append-nil part) begun.2 in
    reading.1 part [] begun.1 (sym (append-nil part)) word
