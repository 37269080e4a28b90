-- What the search along words finds is a window point.
use Rattle.std.proofs.Common.{◌≡◌, ℕ, zero, suc, ◌+◌, ◌-◌, ◌*◌, ◌/◌, ◌%◌, ◌<◌, ◌≤◌, ◌^◌, ◌==◌, ◌⊎◌, inl, inr, Bool, true, false, cond, List, [], ◌∷◌, ◌++◌, length, take, Some, refl, sym, ◌∙◌, subst, arith, length-take}
use Rattle.std.specs.Prelude.{IsTrue, All, Any, nat_lt, ◌&&◌, pos, negsuc}
use Rattle.std.proofs.lemmas.Bool.{and_parts, or_cases}
use Rattle.std.proofs.lemmas.Bool.Decides.{nat_tests}
use Rattle.std.proofs.lemmas.List.Elements.{All-nil, All-cons}
use Rattle.rv_inst.specs.declared.instruction.Form.{Form}
use Rattle.rv_inst.specs.declared.instruction.Form.TheVariants.{BEQ, JAL}
use Rattle.rv_inst.specs.Registers.{reads}
use Rattle.rv_inst.specs.Window.{Place, IsQuietPath, IsWindowPoint, quiet_next, begins, may_use, passes, has_window}
use Rattle.rv_model.specs.Text.{text_base, data_base, Stands, StandsAll}
use Rattle.rv_flips.proofs.Windows.{place_of, stands_place}
use Rattle.flip_words.specs.Placed.{IsPlaced}
use Rattle.flip_guards.specs.Search.{passed_over, uses, leads_to_use, comes_by, in_window}

-- the first address of a path
abbrev head_address : List Place → ℕ → ℕ
head_address [] to = to
head_address (x ∷ xs) to = x.address

-- a quiet path from the address q to a use of r
record Found (words : List ℕ) (q r : ℕ) (first : Form) (count : ℕ) : Type 0 where
  between : List Place
  to : ℕ
  last : Form
  quiet : IsQuietPath words text_base (between ++ place_of to last ∷ [])
  from : head_address between to ≡ q
  few : length between + 1 ≤ count
  pass : All (λ p. IsTrue (passes r first p.instruction)) between
  read : IsTrue (reads last r)
  used : IsTrue (may_use r first last)
  window : IsTrue (has_window r first last)

-- the path comes by the address a
record ComesBy (words : List ℕ) (q r : ℕ) (first : Form) (count a : ℕ) : Type 0 where
  found : Found words q r first count
  on_path : (a ≡ found.to) ⊎ Any (λ p. p.address ≡ a) found.between

-- a place that quietly goes on to the path
quiet_before : (words : List ℕ) (p : ℕ) (i : Form) (between : List Place) (to : ℕ) (last : Form) → Stands words p i → quiet_next (place_of p i) ≡ head_address between to →
    IsQuietPath words text_base (between ++ place_of to last ∷ []) → IsQuietPath words text_base (place_of p i ∷ (between ++ place_of to last ∷ []))
quiet_before words p i [] to last stands goes quiet = (stands_place words p i stands, goes, quiet)
quiet_before words p i (x ∷ xs) to last stands goes quiet = (stands_place words p i stands, goes, quiet)

target_is : (p offset : ℕ) (b : Bool) → (nat_lt 0 offset && offset % 4 == 0) ≡ b → cond b (offset / 4 - 1) 32 < 32 → p + 4 + 4 * cond b (offset / 4 - 1) 32 < 2 ^ 64 → (p + offset) % 2 ^ 64 ≡ p + 4 + 4 * cond b (offset / 4 - 1) 32
target_is p offset true e few room =
    let parts = and_parts (nat_lt 0 offset) (offset % 4 == 0) e in
    let some : 0 < offset = grind (arith, nat_tests, parts.0) in
    let whole : offset % 4 ≡ 0 = grind (arith, nat_tests, parts.1) in
    omega arith
target_is p offset false e few room = absurd (omega arith)

-- where the quiet path goes on to
goes_over : (p : ℕ) (i : Form) → passed_over i < 32 → p + 4 + 4 * passed_over i < 2 ^ 64 → quiet_next (place_of p i) ≡ p + 4 + 4 * passed_over i
goes_over p (BEQ rs1 rs2 (pos offset)) few room = target_is p offset (nat_lt 0 offset && offset % 4 == 0) refl few room
goes_over p (BEQ rs1 rs2 (negsuc n)) few room = absurd (omega arith)
goes_over p (JAL rd (pos offset)) few room = target_is p offset (nat_lt 0 offset && offset % 4 == 0) refl few room
goes_over p (JAL rd (negsuc n)) few room = absurd (omega arith)
goes_over p _ few room = omega arith

-- the path begins within the words
over_within : (r : ℕ) (first : Form) (is : List Form) (over : ℕ) → leads_to_use r first is over ≡ true → over < length is
over_within r first [] over e = absurd (cc)
over_within r first (i ∷ is) (suc over) e = let rest = over_within r first is over e in omega arith
over_within r first (i ∷ is) zero e = omega arith

by_within : (r : ℕ) (first : Form) (is : List Form) (over k : ℕ) → comes_by r first is over k ≡ true → over < length is
by_within r first [] over k e = absurd (cc)
by_within r first (i ∷ is) (suc over) zero e = absurd (cc)
by_within r first (i ∷ is) (suc over) (suc k) e = let rest = by_within r first is over k e in omega arith
by_within r first (i ∷ is) zero k e = omega arith

found_before : (words : List ℕ) (p r : ℕ) (first i : Form) (count : ℕ) → Stands words p i → passed_over i < 32 → p + 4 + 4 * passed_over i < 2 ^ 64 → IsTrue (passes r first (Some i)) →
    Found words (p + 4 + 4 * passed_over i) r first count → Found words p r first (suc count)
found_before words p r first i count stands few room pass f =
    let goes : quiet_next (place_of p i) ≡ head_address f.between f.to = goes_over p i few room ∙ sym f.from in
    record {
      between = place_of p i ∷ f.between;
      to = f.to;
      last = f.last;
      quiet = quiet_before words p i f.between f.to f.last stands goes f.quiet;
      from = refl;
      few = omega (arith, f.few);
      pass = All-cons (λ x. IsTrue (passes r first x.instruction)) (place_of p i) f.between pass f.pass;
      read = f.read;
      used = f.used;
      window = f.window;
    }

at_skipped : (q n : ℕ) → q + 4 + 4 * n ≡ q + 4 * suc n
at_skipped q n = omega arith

leads_found : (words : List ℕ) (q r : ℕ) (first : Form) (is : List Form) (over : ℕ) → StandsAll words q is → length is ≤ 31 → q + 4 * length is ≤ data_base → leads_to_use r first is over ≡ true → Found words (q + 4 * over) r first (length is)
leads_found words q r first [] over stands few room e = absurd (cc)
leads_found words q r first (i ∷ is) (suc over) stands few room e =
    let rest = leads_found words (q + 4) r first is over stands.1 (omega arith) (omega arith) e in
    further rest
  where
    further : Found words (q + 4 + 4 * over) r first (length is) → Found words (q + 4 * suc over) r first (suc (length is))
    further f = record { between = f.between; to = f.to; last = f.last; quiet = f.quiet; from = f.from ∙ at_skipped q over; few = omega (arith, f.few); pass = f.pass; read = f.read; used = f.used; window = f.window }
leads_found words q r first (i ∷ is) zero stands few room e =
    by_use (or_cases (uses r first i) (passes r first (Some i) && leads_to_use r first is (passed_over i)) e) (λ k. leads_found words (q + 4) r first is (passed_over i) stands.1 (omega arith) (omega arith) k)
  where
    here : q ≡ q + 4 * 0
    here = omega arith

    by_use : (uses r first i ≡ true) ⊎ ((passes r first (Some i) && leads_to_use r first is (passed_over i)) ≡ true) → (leads_to_use r first is (passed_over i) ≡ true → Found words (q + 4 + 4 * passed_over i) r first (length is)) →
        Found words (q + 4 * 0) r first (suc (length is))
    by_use (inl u) rest =
        let a = and_parts (reads i r) (may_use r first i && has_window r first i) u in
        let b = and_parts (may_use r first i) (has_window r first i) a.1 in
        record { between = []; to = q; last = i; quiet = stands_place words q i stands.0; from = here; few = omega arith; pass = All-nil (λ p. IsTrue (passes r first p.instruction)); read = a.0; used = b.0; window = b.1 }
    by_use (inr g) rest =
        let a = and_parts (passes r first (Some i)) (leads_to_use r first is (passed_over i)) g in
        let within = over_within r first is (passed_over i) a.1 in
        let P : ℕ → Type 0 = λ p. Found words p r first (suc (length is)) in
        subst P here (found_before words q r first i (length is) stands.0 (omega arith) (omega arith) a.0 (rest a.1))

-- the first address, where the path has more
there : {X : Type 0} (P : X → Type 0) (x : X) (xs : List X) → Any P xs → Any P (x ∷ xs)
there P x xs (k, y, small, is_there, h) = (suc k, y, omega arith, is_there, h)

on_longer : (a : ℕ) (p : ℕ) (i : Form) (between : List Place) (to : ℕ) → (a ≡ to) ⊎ Any (λ x. x.address ≡ a) between → (a ≡ to) ⊎ Any (λ x. x.address ≡ a) (place_of p i ∷ between)
on_longer a p i between to (inl e) = inl e
on_longer a p i between to (inr e) = inr (there (λ x. x.address ≡ a) (place_of p i) between e)

-- a path comes by its first address
comes_first : (q : ℕ) (between : List Place) (to : ℕ) → head_address between to ≡ q → (q ≡ to) ⊎ Any (λ x. x.address ≡ q) between
comes_first q [] to e = inl (sym e)
comes_first q (x ∷ xs) to e = inr (zero, x, omega arith, refl, e)

by_found : (words : List ℕ) (q r : ℕ) (first : Form) (is : List Form) (over k : ℕ) → StandsAll words q is → length is ≤ 31 → q + 4 * length is ≤ data_base → comes_by r first is over k ≡ true →
    ComesBy words (q + 4 * over) r first (length is) (q + 4 * k)
by_found words q r first [] over k stands few room e = absurd (cc)
by_found words q r first (i ∷ is) (suc over) zero stands few room e = absurd (cc)
by_found words q r first (i ∷ is) (suc over) (suc k) stands few room e = further (by_found words (q + 4) r first is over k stands.1 (omega arith) (omega arith) e)
  where
    further : ComesBy words (q + 4 + 4 * over) r first (length is) (q + 4 + 4 * k) → ComesBy words (q + 4 * suc over) r first (suc (length is)) (q + 4 * suc k)
    further c =
        let f = c.found in
        let P : ℕ → Type 0 = λ a. (a ≡ c.found.to) ⊎ Any (λ x. x.address ≡ a) c.found.between in
        record {
          found = record { between = f.between; to = f.to; last = f.last; quiet = f.quiet; from = f.from ∙ at_skipped q over; few = omega (arith, f.few); pass = f.pass; read = f.read; used = f.used; window = f.window };
          on_path = subst P (at_skipped q k) c.on_path;
        }
by_found words q r first (i ∷ is) zero zero stands few room e =
    let f = leads_found words q r first (i ∷ is) zero stands few room e in
    record { found = f; on_path = comes_first (q + 4 * 0) f.between f.to f.from }
by_found words q r first (i ∷ is) zero (suc k) stands few room e =
    let a = and_parts (passes r first (Some i)) (comes_by r first is (passed_over i) k) e in
    longer a.0 (by_within r first is (passed_over i) k a.1) (by_found words (q + 4) r first is (passed_over i) k stands.1 (omega arith) (omega arith) a.1)
  where
    longer : IsTrue (passes r first (Some i)) → passed_over i < length is → ComesBy words (q + 4 + 4 * passed_over i) r first (length is) (q + 4 + 4 * k) → ComesBy words (q + 4 * 0) r first (suc (length is)) (q + 4 * suc k)
    longer pass within c =
        let f = c.found in
        let here : q ≡ q + 4 * 0 = omega arith in
        let goes : quiet_next (place_of q i) ≡ head_address f.between f.to = goes_over q i (omega arith) (omega arith) ∙ sym f.from in
        let P : ℕ → Type 0 = λ a. (a ≡ c.found.to) ⊎ Any (λ x. x.address ≡ a) c.found.between in
        let Q : ℕ → Type 0 = λ p. ComesBy words p r first (suc (length is)) (q + 4 * suc k) in
        subst Q here
        (record {
          found = record {
            between = place_of q i ∷ f.between;
            to = f.to;
            last = f.last;
            quiet = quiet_before words q i f.between f.to f.last stands.0 goes f.quiet;
            from = refl;
            few = omega (arith, f.few);
            pass = All-cons (λ x. IsTrue (passes r first x.instruction)) (place_of q i) f.between pass f.pass;
            read = f.read;
            used = f.used;
            window = f.window;
          };
          on_path = on_longer (q + 4 * suc k) q i f.between f.to (subst P (at_skipped q k) c.on_path);
        })

-- the words after an instruction, as many as a path may have
stands_taken : (words : List ℕ) (q n : ℕ) (is : List Form) → StandsAll words q is → StandsAll words q (take n is)
stands_taken words q zero is h = tt
stands_taken words q (suc n) [] h = tt
stands_taken words q (suc n) (i ∷ is) h = (h.0, stands_taken words (q + 4) n is h.1)

pub window_found : (words : List ℕ) (p r : ℕ) (code : List Form) (k : ℕ) → StandsAll words p code → p + 4 * length code ≤ data_base → in_window r code k ≡ true → IsWindowPoint words text_base (p + 4 * k) r
window_found words p r [] k stands room e = absurd (cc)
window_found words p r (i ∷ is) zero stands room e = absurd (cc)
window_found words p r (i ∷ is) (suc k) stands room e =
    by_begin (or_cases (in_window r is k) (begins r i && comes_by r i (take 31 is) (passed_over i) k) e) (λ t. window_found words (p + 4) r is k stands.1 (omega arith) t)
  where
    found_here : IsTrue (begins r i) → passed_over i < length (take 31 is) → ComesBy words (p + 4 + 4 * passed_over i) r i (length (take 31 is)) (p + 4 + 4 * k) → IsWindowPoint words text_base (p + 4 * suc k) r
    found_here brought within c =
        let f = c.found in
        let few : length (take 31 is) ≤ 31 = omega (arith, length-take 31 is) in
        let short : length (take 31 is) ≤ length is = omega (arith, length-take 31 is) in
        let goes : quiet_next (place_of p i) ≡ head_address f.between f.to = goes_over p i (omega arith) (omega arith) ∙ sym f.from in
        let P : ℕ → Type 0 = λ a. (a ≡ c.found.to) ⊎ Any (λ x. x.address ≡ a) c.found.between in
        record {
          from = p;
          first = i;
          between = f.between;
          to = f.to;
          last = f.last;
          quiet = quiet_before words p i f.between f.to f.last stands.0 goes f.quiet;
          short = omega (arith, f.few);
          on_path = subst P (at_skipped p k) c.on_path;
          let_pass = f.pass;
          brought = brought;
          read = f.read;
          used = f.used;
          window = f.window;
        }

    by_begin : (in_window r is k ≡ true) ⊎ ((begins r i && comes_by r i (take 31 is) (passed_over i) k) ≡ true) → (in_window r is k ≡ true → IsWindowPoint words text_base (p + 4 + 4 * k) r) → IsWindowPoint words text_base (p + 4 * suc k) r
    by_begin (inl t) earlier = let P : ℕ → Type 0 = λ a. IsWindowPoint words text_base a r in subst P (at_skipped p k) (earlier t)
    by_begin (inr t) earlier =
        let a = and_parts (begins r i) (comes_by r i (take 31 is) (passed_over i) k) t in
        let within = by_within r i (take 31 is) (passed_over i) k a.1 in
        let few : length (take 31 is) ≤ 31 = omega (arith, length-take 31 is) in
        let short : length (take 31 is) ≤ length is = omega (arith, length-take 31 is) in
        found_here a.0 within (by_found words (p + 4) r i (take 31 is) (passed_over i) k (stands_taken words (p + 4) 31 is stands.1) few (omega arith) a.1)

pub windows_found : (words : List ℕ) (p : ℕ) (code : List Form) (k r : ℕ) → IsPlaced words p code → in_window r code k ≡ true → IsWindowPoint words text_base (p + 4 * k) r
windows_found words p code k r placed e = window_found words p r code k placed.stands placed.room e
