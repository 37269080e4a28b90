-- When inputs from one block are alike, by the places that a map has.
use Rattle.std.proofs.Common.{◌≡◌, ℕ, zero, suc, ◌<◌, Bool, true, List, [], ◌∷◌, length, map, get_or, Option, Some, None, refl, sym, ◌∙◌, ap, subst, arith, slice_get}
use Rattle.std.specs.Prelude.{◌↔◌, IsTrue}
use Rattle.std.specs.List.{list_all}
use Rattle.std.proofs.lemmas.Option.{slice_get_within, same_Some}
use Rattle.std.specs.BTreeMap.{BTreeMap, get}
use Rattle.std.specs.Ordering.{nat_cmp}
use Rattle.ir_tree.specs.Known.{val_known, phi_in_known}
use Rattle.ir_tree.specs.Shape.{PhiInShape}
use Rattle.ir_tree.specs.ShapeOf.{val_shape, phi_in_shape}
use Rattle.ir_tree.specs.declared.module.PhiIn.{PhiIn}
use Rattle.ir_tree.proofs.Grows.{and_left}
use Rattle.ir_names.proofs.AllKnown.{one_of_all}
use Rattle.ir_flow.specs.Places.{ArePlaces}
use Rattle.ir_flow.specs.Phis.{AreAlike, IsLike}
use Rattle.ir_flow.proofs.OneByOne.{contained_at, mapped_to}

-- an element that a list has at a number, where the list is long enough
element_at : {X : Type 0} (xs : List X) (k : ℕ) → k < length xs → (x : X) × (slice_get xs k ≡ Some x)
element_at [] k within = absurd (omega arith)
element_at (x ∷ xs) zero within = (x, refl)
element_at (x ∷ xs) (suc k) within = element_at xs k (omega arith)

-- each input is like the one at the place of its block
pub alike_by_each : (inputs : List PhiInShape) (froms : List ℕ) (places : BTreeMap ℕ ℕ) → length froms ≡ length inputs → ArePlaces froms places
    → ((k : ℕ) → k < length inputs → IsLike inputs froms places k) → AreAlike inputs froms
alike_by_each inputs froms places long are each = λ j k from x y at_j at_k from_j from_k.
    let place = are.all from (contained_at froms j from from_j) in
    let within : place.0 < length froms = slice_get_within froms place.0 from (are.found from place.0 place.1) in
    let z = element_at inputs place.0 (omega arith) in
    let one = each j (slice_get_within inputs j x at_j) from place.0 z.0 x from_j place.1 z.1 at_j in
    let other = each k (slice_get_within inputs k y at_k) from place.0 z.0 y from_k place.1 z.1 at_k in
    sym one ∙ other

pub each_alike : (inputs : List PhiInShape) (froms : List ℕ) (places : BTreeMap ℕ ℕ) → ArePlaces froms places → AreAlike inputs froms
    → (k : ℕ) → IsLike inputs froms places k
each_alike inputs froms places are alike k = λ from other x y from_k place at_other at_k.
    alike other k from x y at_other at_k (are.found from other place) from_k

-- ---- by a test of two inputs
pub like_by : (inputs : List PhiInShape) (froms : List ℕ) (places : BTreeMap ℕ ℕ) → length froms ≡ length inputs → ArePlaces froms places
    → (at from other : ℕ) (test : Bool) → slice_get froms at ≡ Some from → get nat_cmp places from ≡ Some other
    → ((x y : PhiInShape) → slice_get inputs other ≡ Some x → slice_get inputs at ≡ Some y → IsTrue test ↔ (x.val ≡ y.val))
    → IsTrue test ↔ IsLike inputs froms places at
like_by inputs froms places long are at from other test here place tells = (
  λ t q o x y at_q at_o is_x is_y.
      let same : from ≡ q = same_Some from q (sym here ∙ at_q) in
      let equal : other ≡ o = same_Some other o (sym place ∙ ap (get nat_cmp places) same ∙ at_o) in
      (tells x y (ap (slice_get inputs) equal ∙ is_x) is_y).0 t,
  λ like.
      let there : other < length froms = slice_get_within froms other from (are.found from other place) in
      let within : at < length froms = slice_get_within froms at from here in
      let x = element_at inputs other (omega arith) in
      let y = element_at inputs at (omega arith) in
      (tells x.0 y.0 x.1 y.1).1 (like from other x.0 y.0 here place x.1 y.1),
)

pub like_none : (inputs : List PhiInShape) (froms : List ℕ) (places : BTreeMap ℕ ℕ) (at from : ℕ) → slice_get froms at ≡ Some from
    → get nat_cmp places from ≡ None → IsLike inputs froms places at
like_none inputs froms places at from here none = λ q o x y at_q at_o is_x is_y.
    let same : from ≡ q = same_Some from q (sym here ∙ at_q) in
    let wrong : ◌≡◌ {A = Option ℕ} None (Some o) = sym none ∙ ap (get nat_cmp places) same ∙ at_o in
    cc

-- what a test of operands tells of the shapes of their inputs
pub vals_tell : (names : List (List ℕ)) (inputs : List PhiIn) (i k : ℕ) (r s : PhiIn) (test : Bool) → slice_get inputs i ≡ Some r
    → slice_get inputs k ≡ Some s → IsTrue test ↔ (val_shape names r.val ≡ val_shape names s.val) → (x y : PhiInShape)
    → slice_get (map (phi_in_shape names) inputs) i ≡ Some x → slice_get (map (phi_in_shape names) inputs) k ≡ Some y → IsTrue test ↔ (x.val ≡ y.val)
vals_tell names inputs i k r s test at_i at_k tells x y is_x is_y =
    let one : phi_in_shape names r ≡ x = same_Some (phi_in_shape names r) x (sym (mapped_to (phi_in_shape names) inputs i r at_i) ∙ is_x) in
    let other : phi_in_shape names s ≡ y = same_Some (phi_in_shape names s) y (sym (mapped_to (phi_in_shape names) inputs k s at_k) ∙ is_y) in
    subst (λ (z : PhiInShape). IsTrue test ↔ (z.val ≡ y.val)) one (subst (λ (z : PhiInShape). IsTrue test ↔ ((phi_in_shape names r).val ≡ z.val)) other tells)

pub val_is_known : (count : ℕ) (inputs : List PhiIn) (i : ℕ) (d : PhiIn) → i < length inputs → list_all (phi_in_known count) inputs ≡ true
    → val_known count (get_or inputs i d).val ≡ true
val_is_known count inputs i d within known = and_left _ _ (one_of_all (phi_in_known count) inputs i d within known)
