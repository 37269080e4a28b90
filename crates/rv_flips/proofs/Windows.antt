-- Window points of a sequence, from the places of its quiet path.
use Rattle.std.proofs.Common.{◌≡◌, ℕ, zero, suc, ◌+◌, ◌*◌, ◌<◌, ◌≤◌, ◌⊎◌, inl, inr, List, [], ◌∷◌, ◌++◌, length, Some, refl, ◌∙◌, ap, subst, arith}
use Rattle.std.proofs.Common.{Bool, true, false}
use Rattle.std.specs.Prelude.{IsTrue, All, Any, nat_lt}
use Rattle.std.proofs.lemmas.Bool.Decides.{nat_tests}
use Rattle.std.proofs.lemmas.List.Elements.{All-nil, All-cons}
use Rattle.rv_inst.specs.declared.instruction.Form.{Form}
use Rattle.rv_inst.specs.Registers.{reads}
use Rattle.rv_inst.specs.Window.{Place, IsPlace, IsQuietPath, IsWindowPoint, quiet_next, begins, may_use, passes, has_window}
use Rattle.rv_inst.proofs.WordLemmas.{form_at_word}
use Rattle.rv_model.specs.Text.{text_base, Stands, StandsAll}

-- the place of an instruction
abbrev pub place_of : ℕ → Form → Place
place_of p i = record { address = p; instruction = Some i }

-- where an instruction stands is a place of the text
pub stands_place : (words : List ℕ) (p : ℕ) (i : Form) → Stands words p i → IsPlace words text_base (place_of p i)
stands_place words p i h = record { index = h.index; word = h.word; address = h.place; found = h.found; instruction = form_at_word h.word i h.is_word }

-- the instructions from p on, each of which goes on to the next
abbrev pub places_from : ℕ → List Form → List Place
places_from p [] = []
places_from p (i ∷ is) = place_of p i ∷ places_from (p + 4) is

abbrev pub GoOn : ℕ → List Form → Type 0
GoOn p [] = Unit {0}
GoOn p (i ∷ []) = Unit {0}
GoOn p (i ∷ j ∷ is) = (quiet_next (place_of p i) ≡ p + 4) × GoOn (p + 4) (j ∷ is)

-- instructions that stand one after another, and go on so, are a quiet path
pub straight_path : (words : List ℕ) (p : ℕ) (is : List Form) → StandsAll words p is → GoOn p is → IsQuietPath words text_base (places_from p is)
straight_path words p [] stands go = tt
straight_path words p (i ∷ []) stands go = stands_place words p i stands.0
straight_path words p (i ∷ j ∷ is) stands go = (stands_place words p i stands.0, go.0, straight_path words (p + 4) (j ∷ is) stands.1 go.1)

-- each instruction lets r pass
abbrev pub AllPass : ℕ → Form → List Form → Type 0
AllPass r first [] = Unit {0}
AllPass r first (i ∷ is) = IsTrue (passes r first (Some i)) × AllPass r first is

pub all_pass : (r : ℕ) (first : Form) (q : ℕ) (is : List Form) → AllPass r first is → All (λ p. IsTrue (passes r first p.instruction)) (places_from q is)
all_pass r first q [] h = All-nil (λ p. IsTrue (passes r first p.instruction))
all_pass r first q (i ∷ is) h = All-cons (λ p. IsTrue (passes r first p.instruction)) (place_of q i) (places_from (q + 4) is) h.0 (all_pass r first (q + 4) is h.1)

pub length-places_from : (q : ℕ) (is : List Form) → length (places_from q is) ≡ length is
length-places_from q [] = refl
length-places_from q (i ∷ is) = ap suc (length-places_from (q + 4) is)

pub places_from-append : (q : ℕ) (is : List Form) (j : Form) → places_from q (is ++ j ∷ []) ≡ places_from q is ++ place_of (q + 4 * length is) j ∷ []
places_from-append q [] j = let same : q ≡ q + 4 * 0 = omega arith in ap (λ p. place_of p j ∷ []) same
places_from-append q (i ∷ is) j =
    let same : q + 4 + 4 * length is ≡ q + 4 * suc (length is) = omega arith in
    ap (λ ps. place_of q i ∷ ps) (places_from-append (q + 4) is j ∙ ap (λ p. places_from (q + 4) is ++ place_of p j ∷ []) same)

-- the address of the instruction with index n is on the way
pub on_way : (q : ℕ) (is : List Form) (n : ℕ) → n < length is → Any (λ p. p.address ≡ q + 4 * n) (places_from q is)
on_way q [] n h = absurd (omega arith)
on_way q (i ∷ is) zero h = (0, place_of q i, omega arith, refl, omega arith)
on_way q (i ∷ is) (suc n) h = there (on_way (q + 4) is n (omega arith))
  where
    there : Any (λ p. p.address ≡ q + 4 + 4 * n) (places_from (q + 4) is) → Any (λ p. p.address ≡ q + 4 * suc n) (place_of q i ∷ places_from (q + 4) is)
    there (k, p, small, is_there, at) = (suc k, p, omega arith, is_there, omega arith)

-- instructions that stand one after another: the first brings the value, the last uses it, and those between let it pass. Every
-- address after the first is a window point.
pub window_straight : (words : List ℕ) (p r : ℕ) (i : Form) (middle : List Form) (j : Form) (n : ℕ) → StandsAll words p (i ∷ (middle ++ j ∷ [])) → GoOn p (i ∷ (middle ++ j ∷ [])) →
    length middle + 2 ≤ 32 → n ≤ length middle → AllPass r i middle → IsTrue (begins r i) → IsTrue (reads j r) → IsTrue (may_use r i j) → IsTrue (has_window r i j) → IsWindowPoint words text_base (p + 4 + 4 * n) r
window_straight words p r i middle j n stands go short within pass brought read used window =
    let P : List Place → Type 0 = λ ps. IsQuietPath words text_base (place_of p i ∷ ps) in
    record {
      from = p;
      first = i;
      between = places_from (p + 4) middle;
      to = p + 4 + 4 * length middle;
      last = j;
      quiet = subst P (places_from-append (p + 4) middle j) (straight_path words p (i ∷ (middle ++ j ∷ [])) stands go);
      short = omega (arith, length-places_from (p + 4) middle);
      on_path = by_end (nat_lt n (length middle)) refl;
      let_pass = all_pass r i (p + 4) middle pass;
      brought = brought;
      read = read;
      used = used;
      window = window;
    }
  where
    by_end : (b : Bool) → nat_lt n (length middle) ≡ b → (p + 4 + 4 * n ≡ p + 4 + 4 * length middle) ⊎ Any (λ q. q.address ≡ p + 4 + 4 * n) (places_from (p + 4) middle)
    by_end true e = inr (on_way (p + 4) middle n (grind (arith, nat_tests)))
    by_end false e = let last : n ≡ length middle = grind (arith, nat_tests) in inl (ap (λ m. p + 4 + 4 * m) last)
