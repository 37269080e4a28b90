-- Window points after a check: from a branch that goes on over a repair, along words that let the register pass, to one that uses it.
use Rattle.std.proofs.Common.{◌≡◌, ℕ, ◌+◌, ◌*◌, ◌≤◌, ◌⊎◌, inl, inr, Bool, true, false, List, [], ◌∷◌, ◌++◌, length, refl, ap, subst, arith}
use Rattle.std.specs.Prelude.{IsTrue, Any, nat_lt}
use Rattle.std.proofs.lemmas.Bool.Decides.{nat_tests}
use Rattle.rv_inst.specs.declared.instruction.Form.{Form}
use Rattle.rv_inst.specs.Registers.{reads}
use Rattle.rv_inst.specs.Window.{Place, IsQuietPath, IsWindowPoint, quiet_next, begins, may_use, has_window}
use Rattle.rv_model.specs.Text.{text_base, Stands, StandsAll}
use Rattle.rv_flips.proofs.Windows.{place_of, stands_place, places_from, GoOn, straight_path, AllPass, all_pass, length-places_from, places_from-append, on_way}

-- a path with a place before it that quietly goes on to it
path_before : (words : List ℕ) (p q : ℕ) (i : Form) (middle : List Form) (j : Form) → Stands words p i → quiet_next (place_of p i) ≡ q → StandsAll words q (middle ++ j ∷ []) → GoOn q (middle ++ j ∷ []) →
    IsQuietPath words text_base (place_of p i ∷ places_from q (middle ++ j ∷ []))
path_before words p q i [] j first goes rest go = (stands_place words p i first, goes, straight_path words q (j ∷ []) rest go)
path_before words p q i (m ∷ ms) j first goes rest go = (stands_place words p i first, goes, straight_path words q (m ∷ (ms ++ j ∷ [])) rest go)

pub window_after : (words : List ℕ) (p q r : ℕ) (i : Form) (middle : List Form) (j : Form) (n : ℕ) → Stands words p i → quiet_next (place_of p i) ≡ q → StandsAll words q (middle ++ j ∷ []) → GoOn q (middle ++ j ∷ []) →
    length middle + 2 ≤ 32 → n ≤ length middle → AllPass r i middle → IsTrue (begins r i) → IsTrue (reads j r) → IsTrue (may_use r i j) → IsTrue (has_window r i j) → IsWindowPoint words text_base (q + 4 * n) r
window_after words p q r i middle j n first goes rest go short within pass brought read used window =
    let P : List Place → Type 0 = λ ps. IsQuietPath words text_base (place_of p i ∷ ps) in
    record {
      from = p;
      first = i;
      between = places_from q middle;
      to = q + 4 * length middle;
      last = j;
      quiet = subst P (places_from-append q middle j) (path_before words p q i middle j first goes rest go);
      short = omega (arith, length-places_from q middle);
      on_path = by_end (nat_lt n (length middle)) refl;
      let_pass = all_pass r i q middle pass;
      brought = brought;
      read = read;
      used = used;
      window = window;
    }
  where
    by_end : (b : Bool) → nat_lt n (length middle) ≡ b → (q + 4 * n ≡ q + 4 * length middle) ⊎ Any (λ x. x.address ≡ q + 4 * n) (places_from q middle)
    by_end true e = inr (on_way q middle n (grind (arith, nat_tests)))
    by_end false e = let last : n ≡ length middle = grind (arith, nat_tests) in inl (ap (λ m. q + 4 * m) last)
