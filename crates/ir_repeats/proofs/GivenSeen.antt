-- What was seen of the names that are given, one name more, and the names in a row.
use Rattle.std.proofs.Common.{◌≡◌, ℕ, zero, suc, ◌+◌, ◌<◌, ◌⊎◌, inl, inr, Bool, true, false, cond, ◌||◌, List, [], ◌∷◌, ◌++◌, length, take, Option, Some, refl, sym, ◌∙◌, ap, subst, arith, slice_get, nat_eq, zip, flat_map, add-one, Vec}
use Rattle.std.specs.declared.alloc.Global.{Global}
use Rattle.std.specs.List.{list_any}
use Rattle.std.specs.Ordering.{nat_cmp}
use Rattle.std.specs.BTreeMap.{is_at}
use Rattle.std.specs.BTreeSet.{BTreeSet, contains}
use Rattle.std.proofs.lemmas.Bool.Decides.{Decides-eqb, nat_tests}
use Rattle.std.proofs.lemmas.Option.{slice_get_within}
use Rattle.std.proofs.lemmas.List.{append_assoc, append-nil}
use Rattle.std.proofs.lemmas.List.Folds.{list_any-append}
use Rattle.std.proofs.lemmas.Map.Keys.{any_passes_from_place}
use Rattle.ir_tree.specs.declared.module.Inst.{Inst}
use Rattle.ir_tree.specs.declared.module.Block.{Block}
use Rattle.ir_tree.specs.declared.module.Param.{Param}
use Rattle.ir_rules.specs.Faults.{IsFirst}
use Rattle.ir_repeats.specs.declared.given.Seen.{Seen}
use Rattle.ir_repeats.specs.Least.{least_of}
use Rattle.ir_repeats.specs.Given.{GivenId, given_id, ids_of_params, ids_of_insts, ids_of_block, ids_of_blocks, IsGivenAgain, HasSeen, Notes}
use Rattle.ir_repeats.proofs.GivenFirsts.{first_same, first_either}

-- an element stands where it stood, and the last one after all others
kept_at : {X : Type 0} (xs : List X) (y : X) (j : ℕ) (x : X) → slice_get xs j ≡ Some x → slice_get (xs ++ y ∷ []) j ≡ Some x
kept_at [] y j x e = cc
kept_at (z ∷ xs) y zero x e = e
kept_at (z ∷ xs) y (suc j) x e = kept_at xs y j x e

last_at : {X : Type 0} (xs : List X) (y : X) → slice_get (xs ++ y ∷ []) (length xs) ≡ Some y
last_at [] y = refl
last_at (z ∷ xs) y = last_at xs y

kept_or_last : {X : Type 0} (xs : List X) (y : X) (j : ℕ) (x : X) → slice_get (xs ++ y ∷ []) j ≡ Some x
    → (slice_get xs j ≡ Some x) ⊎ ((j ≡ length xs) × (y ≡ x))
kept_or_last [] y zero x e = let same : y ≡ x = cc in inr (refl, same)
kept_or_last [] y (suc j) x e = cc
kept_or_last (z ∷ xs) y zero x e = inl e
kept_or_last (z ∷ xs) y (suc j) x e =
    elim (kept_or_last xs y j x e) [
      | inl h ↦ inl h
      | inr h ↦ inr (ap suc h.0, h.1)
    ]

-- an element that passes the test, where one does
abbrev Passes : {X : Type 0} → (X → Bool) → List X → Type 0
Passes {X} p xs = (j : ℕ) × (x : X) × (slice_get xs j ≡ Some x) × (p x ≡ true)

passes_here : {X : Type 0} (p : X → Bool) (x : X) (xs : List X) (b : Bool) → p x ≡ b → (list_any p xs ≡ true → Passes p xs) → (b || list_any p xs) ≡ true
    → Passes p (x ∷ xs)
passes_here p x xs true is rest e = (0, x, refl, is)
passes_here p x xs false is rest e = let h = rest e in (suc h.0, h.1, h.2, h.3)

one_passes : {X : Type 0} (p : X → Bool) (xs : List X) → list_any p xs ≡ true → Passes p xs
one_passes p [] e = cc
one_passes p (x ∷ xs) e = passes_here p x xs (p x) refl (one_passes p xs) e

-- with one name more, what is given again is so already, or it is that name
again_kept : (given : List GivenId) (x : GivenId) (at : ℕ) → IsGivenAgain given at → IsGivenAgain (given ++ x ∷ []) at
again_kept given x at a = record {
  first = a.first;
  second = a.second;
  one = a.one;
  other = a.other;
  before = a.before;
  is_first = kept_at given x a.first a.one a.is_first;
  is_second = kept_at given x a.second a.other a.is_second;
  same = a.same;
  at_spot = a.at_spot;
}

abbrev is_given : List GivenId → ℕ → Bool
is_given given number = list_any (λ (g : GivenId). nat_eq number g.number) given

again_last : (given : List GivenId) (x : GivenId) → is_given given x.number ≡ true → IsGivenAgain (given ++ x ∷ []) x.spot
again_last given x there =
    let found = one_passes (λ (g : GivenId). nat_eq x.number g.number) given there in
    record {
      first = found.0;
      second = length given;
      one = found.1;
      other = x;
      before = slice_get_within given found.0 found.1 found.2;
      is_first = kept_at given x found.0 found.1 found.2;
      is_second = last_at given x;
      same = sym ((Decides-eqb x.number found.1.number).0 found.3);
      at_spot = refl;
    }

again_or_last : (given : List GivenId) (x : GivenId) (at : ℕ) → IsGivenAgain (given ++ x ∷ []) at
    → IsGivenAgain given at ⊎ ((at ≡ x.spot) × (is_given given x.number ≡ true))
again_or_last given x at a =
    elim (kept_or_last given x a.second a.other a.is_second) [
      | inl second ↦
          let within : a.second < length given = slice_get_within given a.second a.other second in
          elim (kept_or_last given x a.first a.one a.is_first) [
            | inl first ↦ inl (record {
              first = a.first;
              second = a.second;
              one = a.one;
              other = a.other;
              before = a.before;
              is_first = first;
              is_second = second;
              same = a.same;
              at_spot = a.at_spot;
            })
            | inr last ↦ let before = a.before in absurd (omega (arith, last.0))
          ]
      | inr last ↦
          elim (kept_or_last given x a.first a.one a.is_first) [
            | inl first ↦
                let number : x.number ≡ a.one.number = ap (λ (g : GivenId). g.number) last.1 ∙ sym a.same in
                let spot : at ≡ x.spot = sym a.at_spot ∙ sym (ap (λ (g : GivenId). g.spot) last.1) in
                inr (spot, any_passes_from_place (λ (g : GivenId). nat_eq x.number g.number) given a.first a.one first ((Decides-eqb x.number a.one.number).1 number))
            | inr also ↦ let before = a.before in absurd (omega (arith, last.0, also.0))
          ]
    ]

-- the set with one number more
at_key : (k q : ℕ) → is_at (nat_cmp k) q ≡ nat_eq q k
at_key k q = grind (arith, nat_tests)

either_way : (b c : Bool) → cond b true c ≡ (c || (b || false))
either_way true true = refl
either_way true false = refl
either_way false true = refl
either_way false false = refl

numbers_more : (given : List GivenId) (x : GivenId) (old new : BTreeSet ℕ)
    → ((number : ℕ) → contains nat_cmp new number ≡ cond (is_at (nat_cmp x.number) number) true (contains nat_cmp old number))
    → ((number : ℕ) → contains nat_cmp old number ≡ is_given given number) → (number : ℕ) → contains nat_cmp new number ≡ is_given (given ++ x ∷ []) number
numbers_more given x old new updates names number =
    let step : contains nat_cmp new number ≡ cond (nat_eq number x.number) true (is_given given number) =
    updates number
    ∙ ap (λ (b : Bool). cond b true (contains nat_cmp old number)) (at_key x.number number)
    ∙ ap (λ (b : Bool). cond (nat_eq number x.number) true b) (names number) in
    step
    ∙ either_way (nat_eq number x.number) (is_given given number)
    ∙ sym (list_any-append (λ (g : GivenId). nat_eq number g.number) given (x ∷ []))

-- a name that wasn't given so far changes no fault
pub seen_new : (given : List GivenId) (x : GivenId) (old new : Seen)
    → ((number : ℕ) → contains nat_cmp new.names number ≡ cond (is_at (nat_cmp x.number) number) true (contains nat_cmp old.names number))
    → contains nat_cmp old.names x.number ≡ false → new.repeat ≡ old.repeat → HasSeen given old → HasSeen (given ++ x ∷ []) new
seen_new given x old new updates absent same seen =
    let unseen : is_given given x.number ≡ false = sym (seen.names x.number) ∙ absent in
    let back = λ (at : ℕ) (a : IsGivenAgain (given ++ x ∷ []) at). elim (again_or_last given x at a) as (λ _. IsGivenAgain given at) [
      | inl h ↦ h
      | inr h ↦ let wrong : true ≡ false = sym h.1 ∙ unseen in cc
    ] in
    let first = first_same (IsGivenAgain given) (IsGivenAgain (given ++ x ∷ [])) (again_kept given x) back old.repeat seen.repeat in
    record {
      names = numbers_more given x old.names new.names updates seen.names;
      repeat = subst (λ (o : Option ℕ). IsFirst (IsGivenAgain (given ++ x ∷ [])) o) (sym same) first;
    }

-- one that was given so far is given again
pub seen_again : (given : List GivenId) (x : GivenId) (old new : Seen)
    → ((number : ℕ) → contains nat_cmp new.names number ≡ cond (is_at (nat_cmp x.number) number) true (contains nat_cmp old.names number))
    → contains nat_cmp old.names x.number ≡ true → new.repeat ≡ Some (least_of old.repeat x.spot) → HasSeen given old → HasSeen (given ++ x ∷ []) new
seen_again given x old new updates present same seen =
    let again : is_given given x.number ≡ true = sym (seen.names x.number) ∙ present in
    let last = λ (at : ℕ) (e : at ≡ x.spot). subst (λ (n : ℕ). IsGivenAgain (given ++ x ∷ []) n) (sym e) (again_last given x again) in
    let back = λ (at : ℕ) (a : IsGivenAgain (given ++ x ∷ []) at). elim (again_or_last given x at a) as (λ _. (at ≡ x.spot) ⊎ IsGivenAgain given at) [
      | inl h ↦ inr h
      | inr h ↦ inl h.0
    ] in
    let here : IsFirst (λ at. at ≡ x.spot) (Some x.spot) = (refl, λ other e. omega arith) in
    let first = first_either (λ at. at ≡ x.spot) (IsGivenAgain given) (IsGivenAgain (given ++ x ∷ [])) last (again_kept given x) back (Some x.spot) old.repeat
    here seen.repeat in
    record {
      names = numbers_more given x old.names new.names updates seen.names;
      repeat = subst (λ (o : Option ℕ). IsFirst (IsGivenAgain (given ++ x ∷ [])) o) (sym same) first;
    }

-- nothing changes where no name is given
pub notes_none : (seen : Seen) → Notes seen [] seen
notes_none seen before has = subst (λ (given : List GivenId). HasSeen given seen) (sym (append-nil before)) has

-- names and then more names
pub notes_then : (old middle new : Seen) (given more : List GivenId) → Notes old given middle → Notes middle more new → Notes old (given ++ more) new
notes_then old middle new given more first then before has =
    subst (λ (all : List GivenId). HasSeen all new) (append_assoc before given more) (then (before ++ given) (first before has))

-- ---- the names of a row up to a place, and those at the place
pub row_more : {X : Type 0} (f : X → List GivenId) (xs : List X) (i : ℕ) (x : X) → slice_get xs i ≡ Some x
    → flat_map f (take (i + 1) xs) ≡ flat_map f (take i xs) ++ f x
row_more f [] i x e = cc
row_more f (y ∷ xs) zero x e = let same : y ≡ x = cc in rw same (append-nil (f x))
row_more f (y ∷ xs) (suc i) x e =
    rw add-one (rw add-one at (ap (λ (r : List GivenId). f y ++ r) (row_more f xs i x e) ∙ sym (append_assoc (f y) (flat_map f (take i xs)) (f x))))

zip_at : {X Y : Type 0} (xs : List X) (ys : List Y) (i : ℕ) (x : X) (y : Y) → slice_get xs i ≡ Some x → slice_get ys i ≡ Some y
    → slice_get (zip xs ys) i ≡ Some (x, y)
zip_at [] ys i x y e h = cc
zip_at (z ∷ xs) [] i x y e h = cc
zip_at (z ∷ xs) (w ∷ ys) zero x y e h =
    let left : z ≡ x = cc in
    let right : w ≡ y = cc in
    rw (left, right) refl
zip_at (z ∷ xs) (w ∷ ys) (suc i) x y e h = zip_at xs ys i x y e h

take_zip : {X Y : Type 0} (i : ℕ) (xs : List X) (ys : List Y) → take i (zip xs ys) ≡ zip (take i xs) (take i ys)
take_zip zero xs ys = refl
take_zip (suc i) [] ys = refl
take_zip (suc i) (x ∷ xs) [] = refl
take_zip (suc i) (x ∷ xs) (y ∷ ys) = ap (λ (r : _). (x, y) ∷ r) (take_zip i xs ys)

rows_more : {X Y : Type 0} (f : X × Y → List GivenId) (xs : List X) (ys : List Y) (i : ℕ) (x : X) (y : Y) → slice_get xs i ≡ Some x → slice_get ys i ≡ Some y
    → flat_map f (zip (take (i + 1) xs) (take (i + 1) ys)) ≡ flat_map f (zip (take i xs) (take i ys)) ++ f (x, y)
rows_more f xs ys i x y e h =
    ap (flat_map f) (sym (take_zip (i + 1) xs ys))
    ∙ row_more f (zip xs ys) i (x, y) (zip_at xs ys i x y e h)
    ∙ ap (λ (r : _). flat_map f r ++ f (x, y)) (take_zip i xs ys)

-- one parameter, one instruction or one block more
pub params_note : (spot : ℕ) (ps : List Param) (i : ℕ) (p : Param) (start old new : Seen) → slice_get ps i ≡ Some p
    → Notes start (ids_of_params spot (take i ps)) old → Notes old (given_id p.name spot) new → Notes start (ids_of_params spot (take (i + 1) ps)) new
params_note spot ps i p start old new here first then =
    subst (λ (given : List GivenId). Notes start given new) (sym (row_more (λ (q : Param). given_id q.name spot) ps i p here))
    (notes_then start old new (ids_of_params spot (take i ps)) (given_id p.name spot) first then)

pub insts_note : (xs : List Inst) (ss : List ℕ) (i : ℕ) (x : Inst) (s : ℕ) (start old new : Seen) → slice_get xs i ≡ Some x → slice_get ss i ≡ Some s
    → Notes start (ids_of_insts (take i xs) (take i ss)) old → Notes old (given_id x.result s) new → Notes start (ids_of_insts (take (i + 1) xs) (take (i + 1) ss)) new
insts_note xs ss i x s start old new here spot first then =
    subst (λ (given : List GivenId). Notes start given new) (sym (rows_more (λ (p : Inst × ℕ). given_id p.0.result p.1) xs ss i x s here spot))
    (notes_then start old new (ids_of_insts (take i xs) (take i ss)) (given_id x.result s) first then)

pub blocks_note : (spot : ℕ) (xs : List Block) (ss : List (Vec ℕ Global)) (i : ℕ) (x : Block) (s : Vec ℕ Global) (start old middle new : Seen)
    → slice_get xs i ≡ Some x → slice_get ss i ≡ Some s → Notes start (ids_of_blocks spot (take i xs) (take i ss)) old
    → Notes old (given_id (Some x.name) spot) middle → Notes middle (ids_of_insts x.insts.items s.items) new
    → Notes start (ids_of_blocks spot (take (i + 1) xs) (take (i + 1) ss)) new
blocks_note spot xs ss i x s start old middle new here spots first label insts =
    subst (λ (given : List GivenId). Notes start given new) (sym (rows_more (λ (p : Block × Vec ℕ Global). ids_of_block spot p.0 p.1.items) xs ss i x s here spots))
    (notes_then start old new (ids_of_blocks spot (take i xs) (take i ss)) (ids_of_block spot x s.items) first
    (notes_then old middle new (given_id (Some x.name) spot) (ids_of_insts x.insts.items s.items) label insts))
