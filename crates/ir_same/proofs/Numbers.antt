-- Names and their numbers in a table of distinct names.
use Rattle.std.proofs.Common.{◌≡◌, ℕ, zero, suc, ◌+◌, ◌<◌, Bool, true, false, List, [], ◌∷◌, length, Some, refl, sym, ◌∙◌, ap, arith, slice_get, cond, nat_lt, nat_eq, ltb-true}
use Rattle.std.specs.Prelude.{not, ◌↔◌, IsTrue}
use Rattle.std.proofs.lemmas.Bool.Decides.{Decides-eqb}
use Rattle.ir_tree.specs.Shape.{local}
use Rattle.std.proofs.lemmas.Slice.Eq.{bytes_eq-Decides}
use Rattle.std.specs.List.{IsDistinct}
use Rattle.std.specs.Str.{bytes_eq}
use Rattle.ir_tree.specs.NameTable.{text_of, number_of}
use Rattle.ir_tree.proofs.Table.{one_number}

found_here : (x : List ℕ) (xs : List (List ℕ)) (name : List ℕ) (b : Bool) → bytes_eq name x ≡ b
    → (b ≡ false → slice_get xs (number_of xs name) ≡ Some name) → slice_get (x ∷ xs) (cond (not b) (1 + number_of xs name) 0) ≡ Some name
found_here x xs name true e h = ap Some (sym ((bytes_eq-Decides name x).0 e))
found_here x xs name false e h =
    let next : 1 + number_of xs name ≡ suc (number_of xs name) = omega arith in
    rw next (h refl)

-- a name of the table stands at its number
pub found_at : (names : List (List ℕ)) (i : ℕ) (name : List ℕ) → slice_get names i ≡ Some name → slice_get names (number_of names name) ≡ Some name
found_at [] i name e = cc
found_at (x ∷ xs) zero name e =
    let same : name ≡ x = cc in
    found_here x xs name (bytes_eq name x) refl (λ differs. let equal : bytes_eq name x ≡ true = (bytes_eq-Decides name x).1 same in cc)
found_at (x ∷ xs) (suc i) name e = found_here x xs name (bytes_eq name x) refl (λ differs. found_at xs i name e)

text_at : (names : List (List ℕ)) (i : ℕ) → i < length names → slice_get names i ≡ Some (text_of names i)
text_at [] i h = absurd (omega arith)
text_at (x ∷ xs) zero h = refl
text_at (x ∷ xs) (suc i) h = text_at xs i (omega arith)

-- in a table of distinct names a number is that of its name
pub number_at : (names : List (List ℕ)) → IsDistinct bytes_eq names → (i : ℕ) → i < length names → number_of names (text_of names i) ≡ i
number_at names distinct i h =
    let there : slice_get names i ≡ Some (text_of names i) = text_at names i h in
    one_number names distinct _ i (text_of names i) (found_at names i (text_of names i) there) there

-- the number that stands in a name's place
abbrev pub number_in : List ℕ → ℕ
number_in [] = 0
number_in (id ∷ rest) = id

-- the name of the number
abbrev pub to_text : List (List ℕ) → List ℕ → List ℕ
to_text names number = text_of names (number_in number)

-- the number of the name
abbrev pub to_number : List (List ℕ) → List ℕ → List ℕ
to_number names name = number_of names name ∷ []

-- known numbers are equal where their texts are
pub one_text : (names : List (List ℕ)) → IsDistinct bytes_eq names → (i j : ℕ) → i < length names → j < length names
    → text_of names i ≡ text_of names j → i ≡ j
one_text names distinct i j h k e = sym (number_at names distinct i h) ∙ ap (number_of names) e ∙ number_at names distinct j k

-- values with names are equal where the numbers are
pub local_told : (names : List (List ℕ)) → IsDistinct bytes_eq names → (r : Bool) (i j : ℕ) → r ≡ nat_eq i j → nat_lt i (length names) ≡ true
    → nat_lt j (length names) ≡ true → IsTrue r ↔ (local (text_of names i) ≡ local (text_of names j))
local_told names distinct r i j is known also = (
  (λ yes. ap (λ (n : ℕ). local (text_of names n)) ((Decides-eqb i j).0 (sym is ∙ yes))),
  λ e.
      is
      ∙ (Decides-eqb i j).1
      (one_text names distinct i j (ltb-true i (length names) known) (ltb-true j (length names) also) (let same : text_of names i ≡ text_of names j = cc in same)),
)
