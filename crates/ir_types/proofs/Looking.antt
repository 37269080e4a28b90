-- What was found at one place, at places together, and at all places up to a number.
use Rattle.std.proofs.Common.{◌≡◌, ℕ, ◌+◌, ◌<◌, ◌≤◌, min, ◌⊎◌, inl, inr, Bool, true, false, Option, Some, None, List, map, refl, sym, ◌∙◌, ap, subst, arith, slice_get, option_map}
use Rattle.std.specs.Prelude.{◌↔◌, IsTrue}
use Rattle.std.proofs.lemmas.Bool.{cases_lt}
use Rattle.std.proofs.lemmas.Option.{slice_get-map, same_Some}
use Rattle.ir_tree.specs.ShapeOf.{module_shape}
use Rattle.ir_tree.specs.declared.parsed.Parsed.{Parsed}
use Rattle.ir_rules.specs.Places.{Place, spot_of}
use Rattle.ir_rules.specs.TypeRules.{HasProperTypes}
use Rattle.ir_rules.specs.Faults.{TypeFault}
use Rattle.ir_repeats.specs.Least.{first_of}
use Rattle.ir_types.specs.Looks.{IsFoundBy, HasLooked, fault_at}

-- no place at all
pub looked_nowhere : (p : Parsed) (Among : Place → Type 0) → ((q : Place) → Among q → ⊥) → HasLooked p Among None
looked_nowhere p Among none = record { fault = λ at e. cc; all = λ q at among e. absurd (none q among) }

-- one place, by a test of it
pub looked_at : (p : Parsed) (Among : Place → Type 0) (place : Place) (spot : ℕ) (is_proper : Bool) → ((q : Place) → Among q → q ≡ place)
    → spot_of p.spots place ≡ Some spot → IsTrue is_proper ↔ HasProperTypes (module_shape p.«module») place → HasLooked p Among (fault_at is_proper spot)
looked_at p Among place spot true only spotted tells = record {
  fault = λ at e. cc;
  all = λ q at among e. inl (subst (λ (r : Place). HasProperTypes (module_shape p.«module») r) (sym (only q among)) (tells.0 refl));
}
looked_at p Among place spot false only spotted tells = record {
  fault = λ at e.
      let is : spot ≡ at = same_Some spot at e in
      (place, spotted ∙ e, λ proper. let wrong : ◌≡◌ {A = Bool} false true = tells.1 proper in cc);
  all = λ q at among e.
      let is : spot ≡ at = same_Some spot at (sym spotted ∙ ap (spot_of p.spots) (sym (only q among)) ∙ e) in
      inr (spot, refl, omega arith);
}

least_is_fault : (p : Parsed) (at other : ℕ) → TypeFault p at → TypeFault p other → TypeFault p (min other at)
least_is_fault p at other one more =
    elim (cases_lt at other) [
      | inl less ↦ let is : at ≡ min other at = omega arith in subst (λ (n : ℕ). TypeFault p n) is one
      | inr least ↦ let is : other ≡ min other at = omega arith in subst (λ (n : ℕ). TypeFault p n) is more
    ]

first_is_fault : (p : Parsed) (one other : Option ℕ) → ((at : ℕ) → one ≡ Some at → TypeFault p at) → ((at : ℕ) → other ≡ Some at → TypeFault p at)
    → (at : ℕ) → first_of one other ≡ Some at → TypeFault p at
first_is_fault p None other one more at e = more at e
first_is_fault p (Some found) None one more at e = one at e
first_is_fault p (Some found) (Some next) one more at e =
    subst (λ (n : ℕ). TypeFault p n) (same_Some _ at e) (least_is_fault p found next (one found refl) (more next refl))

found_by_one : (one other : Option ℕ) (at : ℕ) → IsFoundBy one at → IsFoundBy (first_of one other) at
found_by_one None other at h = let no : ◌≡◌ {A = Option ℕ} None (Some h.0) = h.1 in cc
found_by_one (Some found) None at h = h
found_by_one (Some found) (Some next) at h =
    let is : found ≡ h.0 = same_Some found h.0 h.1 in
    let low : h.0 ≤ at = h.2 in
    (min next found, refl, omega arith)

found_by_other : (one other : Option ℕ) (at : ℕ) → IsFoundBy other at → IsFoundBy (first_of one other) at
found_by_other None other at h = h
found_by_other (Some found) None at h = let no : ◌≡◌ {A = Option ℕ} None (Some h.0) = h.1 in cc
found_by_other (Some found) (Some next) at h =
    let is : next ≡ h.0 = same_Some next h.0 h.1 in
    let low : h.0 ≤ at = h.2 in
    (min next found, refl, omega arith)

-- places of two kinds
pub looked_both : (p : Parsed) (One Other Among : Place → Type 0) (one other : Option ℕ)
    → ((q : Place) (at : ℕ) → Among q → spot_of p.spots q ≡ Some at → One q ⊎ Other q) → HasLooked p One one → HasLooked p Other other
    → HasLooked p Among (first_of one other)
looked_both p One Other Among one other split first second = record {
  fault = first_is_fault p one other first.fault second.fault;
  all = λ q at among e.
      elim (split q at among e) [
        | inl left ↦ elim (first.all q at left e) [ inl proper ↦ inl proper | inr by ↦ inr (found_by_one one other at by) ]
        | inr right ↦ elim (second.all q at right e) [ inl proper ↦ inl proper | inr by ↦ inr (found_by_other one other at by) ]
      ];
}

-- those of the places that stand in the text
pub looked_all : (p : Parsed) (Among Places : Place → Type 0) (found : Option ℕ) → ((q : Place) (at : ℕ) → Places q → spot_of p.spots q ≡ Some at → Among q)
    → HasLooked p Among found → HasLooked p Places found
looked_all p Among Places found each looked =
    record { fault = looked.fault; all = λ q at among e. looked.all q at (each q at among e) e }

-- ---- places of which there are some for each number
abbrev pub Below : (ℕ → Place → Type 0) → ℕ → Place → Type 0
Below Kind n place = (k : ℕ) × Kind k place × (k < n)

pub below_none : (p : Parsed) (Kind : ℕ → Place → Type 0) → HasLooked p (Below Kind 0) None
below_none p Kind = looked_nowhere p (Below Kind 0) (λ q h. let less : h.0 < 0 = h.2 in omega arith)

pub below_more : (p : Parsed) (Kind : ℕ → Place → Type 0) (n : ℕ) (found more new : Option ℕ) → new ≡ first_of found more → HasLooked p (Below Kind n) found
    → HasLooked p (Kind n) more → HasLooked p (Below Kind (n + 1)) new
below_more p Kind n found more new is looked last =
    subst (λ (o : Option ℕ). HasLooked p (Below Kind (n + 1)) o) (sym is)
    (looked_both p (Below Kind n) (Kind n) (Below Kind (n + 1)) found more
    (λ q at h e.
    elim (cases_lt h.0 n) [
      | inl less ↦ inl (h.0, h.1, less)
      | inr least ↦
          let low : h.0 < n + 1 = h.2 in
          let is : h.0 ≡ n = omega arith in
          inr (subst (λ (k : ℕ). Kind k q) is h.1)
    ])
    looked last)

-- ---- what is at a place
-- a test of an element tells of the one with its number in the list that it is mapped to
pub tells_at : {X S : Type 0} (f : X → S) (xs : List X) (at : ℕ) (x : X) (P : S → Type 0) (test : Bool) → slice_get xs at ≡ Some x → IsTrue test ↔ P (f x)
    → IsTrue test ↔ ((s : S) → slice_get (map f xs) at ≡ Some s → P s)
tells_at f xs at x P test here tells =
    let mapped : slice_get (map f xs) at ≡ Some (f x) = slice_get-map f xs at ∙ ap (option_map f) here in (
      λ yes s e. subst P (same_Some (f x) s (sym mapped ∙ e)) (tells.0 yes),
      λ all. tells.1 (all (f x) mapped),
    )
