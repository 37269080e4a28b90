-- The first entries with each name.
use Rattle.std.proofs.Common.{◌≡◌, ℕ, ◌+◌, ◌<◌, ◌≤◌, inl, inr, List, length, Option, Some, None, refl, sym, ◌∙◌, ap, subst, arith, slice_get, rules}
use Rattle.std.specs.Prelude.{IfSome}
use Rattle.std.proofs.Math.ListN.{set, replicate}
use Rattle.std.proofs.lemmas.Bool.Decides.{eqb_tells}
use Rattle.std.proofs.lemmas.Option.{slice_get_within}
use Rattle.std.proofs.lemmas.List.{length-replicate}
use Rattle.ir_layout.proofs.Slices.{get_set_same, get_set_other, get_replicate}
use Rattle.ir_repeats.specs.declared.entries.Entry.{Entry}
use Rattle.ir_repeats.specs.Entries.{IsEarliest, AreEarliest, IsAmong}

one_of : {X : Type 0} (o : Option X) (x y : X) → o ≡ Some x → o ≡ Some y → x ≡ y
one_of o x y e f =
    let same : ◌≡◌ {A = Option _} (Some x) (Some y) = sym e ∙ f in
    cc

-- an entry that isn't before the first one changes nothing
pub stays_first : (entries : List Entry) (at id i : ℕ) (e d : Entry) → slice_get entries at ≡ Some d → slice_get entries i ≡ Some e → e.spot ≤ d.spot
    → IsEarliest entries at id (Some i) → IsEarliest entries (at + 1) id (Some i)
stays_first entries at id i e d here there before first =
    let same : first.0 ≡ e = one_of _ _ _ first.1 there in (
      first.0,
      first.1,
      omega (arith, first.2),
      first.3,
      λ j c below got named.
          elim (eqb_tells j at) [
            | inl h ↦
                let c_is : c ≡ d = one_of _ _ _ (subst (λ (k : ℕ). slice_get entries k ≡ Some c) h.1 got) here in
                let e_spot : first.0.spot ≡ e.spot = ap (λ (z : Entry). z.spot) same in
                let c_spot : c.spot ≡ d.spot = ap (λ (z : Entry). z.spot) c_is in
                omega (arith, before, e_spot, c_spot)
            | inr h ↦ first.4 j c (omega (arith, below, h.1)) got named
          ],
    )

-- one that is before it takes its place
pub becomes_first : (entries : List Entry) (at id i : ℕ) (e d : Entry) → slice_get entries at ≡ Some d → d.name.0 ≡ id → slice_get entries i ≡ Some e
    → d.spot < e.spot → IsEarliest entries at id (Some i) → IsEarliest entries (at + 1) id (Some at)
becomes_first entries at id i e d here is there before first =
    let same : first.0 ≡ e = one_of _ _ _ first.1 there in (
      d,
      here,
      omega arith,
      is,
      λ j c below got named.
          elim (eqb_tells j at) [
            | inl h ↦
                let c_is : c ≡ d = one_of _ _ _ (subst (λ (k : ℕ). slice_get entries k ≡ Some c) h.1 got) here in
                let c_spot : c.spot ≡ d.spot = ap (λ (z : Entry). z.spot) c_is in
                omega (arith, c_spot)
            | inr h ↦
                let e_spot : first.0.spot ≡ e.spot = ap (λ (z : Entry). z.spot) same in
                omega (arith, before, e_spot, first.4 j c (omega (arith, below, h.1)) got named)
          ],
    )

-- the only one is the first one
pub is_only : (entries : List Entry) (at id : ℕ) (d : Entry) → slice_get entries at ≡ Some d → d.name.0 ≡ id → IsEarliest entries at id None
    → IsEarliest entries (at + 1) id (Some at)
is_only entries at id d here is none = (
  d,
  here,
  omega arith,
  is,
  λ j c below got named.
      elim (eqb_tells j at) [
        | inl h ↦
            let c_is : c ≡ d = one_of _ _ _ (subst (λ (k : ℕ). slice_get entries k ≡ Some c) h.1 got) here in
            let c_spot : c.spot ≡ d.spot = ap (λ (z : Entry). z.spot) c_is in
            omega (arith, c_spot)
        | inr h ↦ absurd (none j c (omega (arith, below, h.1)) got named)
      ],
)

-- an entry with another name changes nothing
pub other_first : (entries : List Entry) (at id : ℕ) (d : Entry) (first : Option ℕ) → slice_get entries at ≡ Some d → (d.name.0 ≡ id → ⊥)
    → IsEarliest entries at id first → IsEarliest entries (at + 1) id first
other_first entries at id d None here differs none = λ j c below got named.
    elim (eqb_tells j at) [
      | inl h ↦
          let c_is : c ≡ d = one_of _ _ _ (subst (λ (k : ℕ). slice_get entries k ≡ Some c) h.1 got) here in
          differs (sym (ap (λ (z : Entry). z.name.0) c_is) ∙ named)
      | inr h ↦ none j c (omega (arith, below, h.1)) got named
    ]
other_first entries at id d (Some i) here differs first = (
  first.0,
  first.1,
  omega (arith, first.2),
  first.3,
  λ j c below got named.
      elim (eqb_tells j at) [
        | inl h ↦
            let c_is : c ≡ d = one_of _ _ _ (subst (λ (k : ℕ). slice_get entries k ≡ Some c) h.1 got) here in
            absurd (differs (sym (ap (λ (z : Entry). z.name.0) c_is) ∙ named))
        | inr h ↦ first.4 j c (omega (arith, below, h.1)) got named
      ],
)

option_is : {X : Type 0} (x y : X) → ◌≡◌ {A = Option X} (Some x) (Some y) → x ≡ y
option_is x y e = cc

pub none_earliest : (entries : List Entry) (n : ℕ) → AreEarliest entries 0 (replicate n None)
none_earliest entries n id first got =
    let within = slice_get_within (replicate n None) id first got in
    let is : None ≡ first = option_is _ _ (sym (get_replicate n id None (omega (arith, within, length-replicate {A = Option ℕ} n None))) ∙ got) in
    subst (λ (o : Option ℕ). IsEarliest entries 0 id o) is (λ j c below got named. omega (arith, below))

-- the table with one entry more
pub next_earliest : (entries : List Entry) (at : ℕ) (d : Entry) (firsts : List (Option ℕ)) (first : Option ℕ) → slice_get entries at ≡ Some d
    → d.name.0 < length firsts → IsEarliest entries (at + 1) d.name.0 first → AreEarliest entries at firsts
    → AreEarliest entries (at + 1) (set firsts d.name.0 first)
next_earliest entries at d firsts first here within is are id other got =
    elim (eqb_tells d.name.0 id) [
      | inl h ↦
          let put : slice_get (set firsts d.name.0 first) id ≡ Some first =
          subst (λ (k : ℕ). slice_get (set firsts d.name.0 first) k ≡ Some first) h.1 (get_set_same firsts d.name.0 first within) in
          let same : first ≡ other = option_is _ _ (sym put ∙ got) in
          subst (λ (o : Option ℕ). IsEarliest entries (at + 1) id o) same (subst (λ (k : ℕ). IsEarliest entries (at + 1) k first) h.1 is)
      | inr h ↦ other_first entries at id d other here h.1 (are id other (sym (get_set_other firsts d.name.0 id first h.1) ∙ got))
    ]

-- the first entry with the name of an entry
pub record FirstWith (entries : List Entry) (firsts : List (Option ℕ)) (d : Entry) (first : Option ℕ) : Type 0 where
  pub i : ℕ
  pub e : Entry
  pub is : first ≡ Some i
  pub in_table : slice_get firsts d.name.0 ≡ Some (Some i)
  pub within : i < length entries
  pub at : slice_get entries i ≡ Some e
  pub named : e.name.0 ≡ d.name.0
  pub before : e.spot ≤ d.spot

pub first_with : (entries : List Entry) (firsts : List (Option ℕ)) (d : Entry) (first : Option ℕ) → AreEarliest entries (length entries) firsts
    → IsAmong entries d → slice_get firsts d.name.0 ≡ Some first → FirstWith entries firsts d first
first_with entries firsts d None are among got =
    absurd (are d.name.0 None got among.0 d (slice_get_within entries among.0 d among.1) among.1 refl)
first_with entries firsts d (Some i) are among got =
    let first = are d.name.0 (Some i) got in
    record {
      i = i;
      e = first.0;
      is = refl;
      in_table = got;
      within = first.2;
      at = first.1;
      named = first.3;
      before = first.4 among.0 d (slice_get_within entries among.0 d among.1) among.1 refl;
    }

pub earliest_within : (entries : List Entry) (at : ℕ) (firsts : List (Option ℕ)) (id : ℕ) (first : Option ℕ) → AreEarliest entries at firsts
    → slice_get firsts id ≡ Some first → at ≤ length entries → IfSome first (λ i. i < length entries)
earliest_within entries at firsts id None are got long = search rules
earliest_within entries at firsts id (Some i) are got long = omega (arith, (are id (Some i) got).2, long)
