-- Looking items up by the numbers of their names, and by the names.
use Rattle.std.proofs.Common.{◌≡◌, ℕ, ◌+◌, ◌<◌, inl, inr, Bool, true, false, List, [], ◌∷◌, length, map, Option, Some, None, refl, sym, ◌∙◌, ap, subst, slice_get, ◌==◌, cond, ltb-true}
use Rattle.std.specs.Prelude.{is_some, if◌then◌else◌, unwrap_or}
use Rattle.std.specs.List.{list_all, position_from, IsDistinct}
use Rattle.std.specs.Str.{bytes_eq}
use Rattle.std.proofs.lemmas.Bool.Decides.{eqb_tells}
use Rattle.std.proofs.lemmas.Slice.Eq.{bytes_eq-Decides}
use Rattle.ir_tree.specs.NameTable.{text_of, IsKnown}
use Rattle.ir_tree.specs.Shape.{TyShape, NamedTyShape}
use Rattle.ir_tree.specs.declared.names.NameId.{NameId}
use Rattle.ir_tree.proofs.Table.{one_number}
use Rattle.ir_tree.proofs.Grows.{and_left, and_right}
use Rattle.ir_layout.specs.Rules.{named_ty}
use Rattle.ir_layout.proofs.Laid.{text_at}
use Rattle.ir_names.specs.Numbers.{has_number, first_with}
use Rattle.ir_names.specs.Tables.{entry}

false_if_not : (b : Bool) → (b ≡ true → ⊥) → b ≡ false
false_if_not true h = absurd (h refl)
false_if_not false h = refl

-- names that are known are the same where their numbers are
pub same_text : (names : List (List ℕ)) → IsDistinct bytes_eq names → (i j : ℕ) → IsKnown names i → IsKnown names j
    → (i == j) ≡ bytes_eq (text_of names i) (text_of names j)
same_text names distinct i j known also =
    elim (eqb_tells i j) [
      | inl e ↦ e.0 ∙ sym ((bytes_eq-Decides (text_of names i) (text_of names j)).1 (ap (text_of names) e.1))
      | inr e ↦
          let apart = λ (same : bytes_eq (text_of names i) (text_of names j) ≡ true).
          e.1 (one_number names distinct i j (text_of names j)
          (text_at names i (ltb-true i (length names) known) ∙ ap (λ (z : List ℕ). Some z) ((bytes_eq-Decides (text_of names i) (text_of names j)).0 same))
          (text_at names j (ltb-true j (length names) also))) in
          e.0 ∙ sym (false_if_not (bytes_eq (text_of names i) (text_of names j)) apart)
    ]

next_place : (b c : Bool) (at : ℕ) (o p : Option ℕ) → b ≡ c → o ≡ p → cond b (Some at) o ≡ cond c (Some at) p
next_place true true at o p e same = refl
next_place true false at o p e same = cc
next_place false true at o p e same = cc
next_place false false at o p e same = same

-- two tests that say the same of each item that is known find the same one first
pub same_place : {X Y : Type 0} (f : X → Option NameId) (g : X → Y) (p : Y → Bool) (known : X → Bool) (id : ℕ)
    → ((x : X) → known x ≡ true → has_number id (f x) ≡ p (g x)) → (at : ℕ) (xs : List X) → list_all known xs ≡ true
    → position_from (has_number id) at (map f xs) ≡ position_from p at (map g xs)
same_place f g p known id same at [] all = refl
same_place f g p known id same at (x ∷ xs) all =
    next_place (has_number id (f x)) (p (g x)) at (position_from (has_number id) (at + 1) (map f xs)) (position_from p (at + 1) (map g xs))
    (same x (and_left _ _ all)) (same_place f g p known id same (at + 1) xs (and_right _ _ all))

-- a test that no item meets finds none
pub no_place : {Y : Type 0} (at : ℕ) (ys : List Y) → position_from (λ y. false) at ys ≡ None
no_place at [] = refl
no_place at (y ∷ ys) = no_place (at + 1) ys

some_either : (b : Bool) (t : TyShape) (o : Option TyShape) (at : ℕ) (p : Option ℕ) → is_some o ≡ is_some p → is_some (if b then Some t else o) ≡ is_some (cond b (Some at) p)
some_either true t o at p same = refl
some_either false t o at p same = same

-- a name stands for a type where there is a first named type with it
pub type_found : (name : List ℕ) (at : ℕ) (ts : List NamedTyShape) → is_some (named_ty ts name) ≡ is_some (position_from (λ t. bytes_eq t.name name) at ts)
type_found name at [] = refl
type_found name at (t ∷ ts) =
    some_either (bytes_eq t.name name) t.ty (named_ty ts name) at (position_from (λ t. bytes_eq t.name name) (at + 1) ts) (type_found name (at + 1) ts)

-- where a test is of names, only those that meet it can be the one that is looked for
chosen : (names : List (List ℕ)) → IsDistinct bytes_eq names → (test : List ℕ → Bool) (x : NameId) (id : ℕ) → IsKnown names x.0 → IsKnown names id
    → has_number id (if test (text_of names x.0) then Some x else None)
    ≡ (if test (text_of names id) then bytes_eq (text_of names x.0) (text_of names id) else false)
chosen names distinct test x id known also =
    elim (eqb_tells x.0 id) [
      | inl e ↦
          let same : text_of names x.0 ≡ text_of names id = ap (text_of names) e.1 in
          subst (λ (z : List ℕ). has_number id (if test z then Some x else None) ≡ (if test (text_of names id) then bytes_eq z (text_of names id) else false))
          (sym same) (here (test (text_of names id)) e.0)
      | inr e ↦
          rw (sym (same_text names distinct x.0 id known also)) (rw e.0 (there (test (text_of names x.0)) (test (text_of names id)) e.0))
    ]
  where
    here : (b : Bool) → (x.0 == id) ≡ true
        → has_number id (if b then Some x else None) ≡ (if b then bytes_eq (text_of names id) (text_of names id) else false)
    here true same = same ∙ sym ((bytes_eq-Decides (text_of names id) (text_of names id)).1 refl)
    here false same = refl

    there : (b c : Bool) → (x.0 == id) ≡ false → has_number id (if b then Some x else None) ≡ (if c then false else false)
    there true true apart = apart
    there true false apart = apart
    there false true apart = refl
    there false false apart = refl

-- the entries of a list are the first items, for all names
abbrev pub HasFirsts : ℕ → List (Option NameId) → List (Option ℕ) → Type 0
HasFirsts count ids firsts = (number : ℕ) → number < count → slice_get firsts number ≡ Some (first_with ids number)

pub entry_first : (names : List (List ℕ)) (ids : List (Option NameId)) (firsts : List (Option ℕ)) (id : ℕ) → HasFirsts (length names) ids firsts → IsKnown names id
    → entry firsts id ≡ first_with ids id
entry_first names ids firsts id has known = ap (λ (o : Option (Option ℕ)). unwrap_or o None) (has id (ltb-true id (length names) known))

place_if : {Y : Type 0} (b : Bool) (p : Y → Bool) (ys : List Y) → position_from (λ y. if b then p y else false) 0 ys ≡ (if b then position_from p 0 ys else None)
place_if true p ys = refl
place_if false p ys = no_place 0 ys

-- the first of the items whose names meet a test
pub chosen_place : {X Y : Type 0} (names : List (List ℕ)) → IsDistinct bytes_eq names → (test : List ℕ → Bool) (name : X → NameId) (g : X → Y) (text : Y → List ℕ)
    (known : X → Bool) → ((x : X) → text (g x) ≡ text_of names (name x).0) → ((x : X) → known x ≡ true → IsKnown names (name x).0)
    → (xs : List X) → list_all known xs ≡ true → (id : ℕ) → IsKnown names id
    → first_with (map (λ x. if test (text_of names (name x).0) then Some (name x) else None) xs) id
    ≡ (if test (text_of names id) then position_from (λ y. bytes_eq (text y) (text_of names id)) 0 (map g xs) else None)
chosen_place {X} names distinct test name g text known texts is xs all id also =
    same_place (λ x. if test (text_of names (name x).0) then Some (name x) else None) g
    (λ y. if test (text_of names id) then bytes_eq (text y) (text_of names id) else false) known id
    (λ (x : X) k. rw (texts x) (chosen names distinct test (name x) id (is x k) also)) 0 xs all
    ∙ place_if (test (text_of names id)) (λ y. bytes_eq (text y) (text_of names id)) (map g xs)
