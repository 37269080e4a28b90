-- What holds of each item's value holds of each value of a list.
use Rattle.std.proofs.Common.{List, [], ◌∷◌, Option, sym, subst, inl, inr}
use Rattle.grammar.specs.Language.{Lang, many, skip, listed}

-- the fact holds of each value
abbrev pub Every : {V : Type 0} → (V → Type 0) → List V → Type 0
Every P [] = Unit {0}
Every P (v ∷ vs) = P v × Every P vs

pub every_many : {S V : Type 0} (a : Lang S V) (P : V → Type 0) → ((ts : List S) (v : V) → a ts v → P v) → (ts : List S) (vs : List V) → many a ts vs → Every P vs
every_many a P h ts [] word = tt
every_many a P h ts (v ∷ vs) word = (h word.0 v word.3, every_many a P h word.1 vs word.4)

-- the same for items with a separator before each
pub every_skip : {S K V : Type 0} (separator : S → Option K) (a : Lang S V) (P : V → Type 0) → ((ts : List S) (v : V) → a ts v → P v)
    → (ts : List S) (v : V) → skip separator a ts v → P v
every_skip separator a P h ts v word = h word.1 v word.5

pub every_listed : {S K C V : Type 0} (separator : S → Option K) (close : S → Option C) (a : Lang S V) (P : V → Type 0)
    → ((ts : List S) (v : V) → a ts v → P v) → (ts : List S) (vs : List V) → listed separator close a ts vs → Every P vs
every_listed separator close a P h ts vs word = elim word [
  | inl u ↦ subst (Every P) (sym u.5.1) tt
  | inr u ↦
      let row = u.1.3 in
      let first = h row.1.0 row.0.0 row.1.3 in
      let rest = every_many (skip separator a) P (every_skip separator a P h) row.1.1 row.0.1 row.1.4 in
      subst (Every P) (sym u.2) (subst (Every P) (sym row.2) (first, rest))
]
