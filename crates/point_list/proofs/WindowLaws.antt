-- What the walks mark are the window points.
use Rattle.std.proofs.Common.{◌≡◌, ◌<◌, ◌≤◌, ◌+◌, ◌*◌, ◌-◌, ◌⊎◌, inl, inr, ℕ, zero, suc, Bool, true, false, List, [], ◌∷◌, ◌++◌, length, map, Option, Some, None, refl, ap, sym, ◌∙◌, subst, arith}
use Rattle.std.specs.Prelude.{IsTrue, All, Any, ◌==◌, ◌&&◌, ◌||◌, slice_get}
use Rattle.std.proofs.lemmas.Bool.{cases_lt}
use Rattle.std.proofs.lemmas.Bool.Decides.{nat_tests}
use Rattle.std.proofs.lemmas.List.Elements.{All-nil, All-cons, All-head, All-tail}
use Rattle.rv_inst.specs.declared.instruction.Form.{Form}
use Rattle.rv_inst.specs.Word.{form_at}
use Rattle.rv_inst.specs.Registers.{reads}
use Rattle.rv_inst.specs.Window.{Place, IsPlace, IsQuietPath, IsWindowPoint, quiet_next, begins, may_use, passes, has_window}
use Rattle.point_list.specs.Walk.{index_of, instruction_at, next_index, holds_there, uses, holds_later, reaches, on_way, begun_by, begun_at, begun_before}
use Rattle.point_list.specs.declared.walk.Value.{Value}
use Rattle.point_list.proofs.MarkLemmas.{index_of_at, index_of_some}
use Rattle.point_list.proofs.WalkLemmas.{reaches_none, reaches_suc, reaches_more, on_way_none, on_way_suc, on_way_more, begun_zero, begun_suc}

-- tests
and_left : (a b : Bool) → (a && b) ≡ true → a ≡ true
and_left true b e = refl
and_left false b e = e

and_right : (a b : Bool) → (a && b) ≡ true → b ≡ true
and_right true b e = e
and_right false b e = absurd (cc)

or_cases : (a b : Bool) → (a || b) ≡ true → (a ≡ true) ⊎ (b ≡ true)
or_cases true b e = inl refl
or_cases false b e = inr e

or_left : (a b : Bool) → a ≡ true → (a || b) ≡ true
or_left true b e = refl
or_left false b e = absurd (cc)

or_right : (a b : Bool) → b ≡ true → (a || b) ≡ true
or_right true b e = refl
or_right false b e = e

there : (test : ℕ → Bool) (o : Option ℕ) → holds_there test o ≡ true → (m : ℕ) × (o ≡ Some m) × (test m ≡ true)
there test None e = absurd (cc)
there test (Some m) e = (m, refl, e)

-- what a list of words says, index by index
abbrev pub said_by : List ℕ → List (Option Form)
said_by words = map form_at words

pub length_said : (words : List ℕ) → length (said_by words) ≡ length words
length_said [] = refl
length_said (x ∷ xs) = ap suc (length_said xs)

said_at : (words : List ℕ) (k w : ℕ) → slice_get words k ≡ Some w → instruction_at (said_by words) k ≡ form_at w
said_at [] k w e = absurd (cc)
said_at (x ∷ xs) zero w e = let same : x ≡ w = cc in ap form_at same
said_at (x ∷ xs) (suc k) w e = said_at xs k w e

within_text : (words : List ℕ) (k w : ℕ) → slice_get words k ≡ Some w → k < length words
within_text [] k w e = absurd (cc)
within_text (x ∷ xs) zero w e = omega arith
within_text (x ∷ xs) (suc k) w e = let h = within_text xs k w e in omega arith

word_there : (words : List ℕ) (k : ℕ) → k < length words → (w : ℕ) × (slice_get words k ≡ Some w)
word_there [] k h = absurd (omega arith)
word_there (x ∷ xs) zero h = (x, refl)
word_there (x ∷ xs) (suc k) h = word_there xs k (omega arith)

-- the place with an index
abbrev place_of : List ℕ → ℕ → ℕ → Place
place_of words base k = record { address = base + 4 * k; instruction = instruction_at (said_by words) k }

is_place : (words : List ℕ) (base k : ℕ) → k < length words → IsPlace words base (place_of words base k)
is_place words base k h =
    let found = word_there words k h in
    record { index = k; word = found.0; address = refl; found = found.1; instruction = sym (said_at words k found.0 found.1) }

place_says : (words : List ℕ) (base k : ℕ) (i : Form) → k < length words → instruction_at (said_by words) k ≡ Some i → IsPlace words base (record { address = base + 4 * k; instruction = Some i })
place_says words base k i h e =
    let P : Option Form → Type 0 = λ o. IsPlace words base (record { address = base + 4 * k; instruction = o }) in
    subst P e (is_place words base k h)

same_index : (base i j a : ℕ) → a ≡ base + 4 * i → a ≡ base + 4 * j → i ≡ j
same_index base i j a e f = omega arith

-- a place at the address of index k says what word k says
place_instruction : (words : List ℕ) (base k : ℕ) (p : Place) → IsPlace words base p → p.address ≡ base + 4 * k → (instruction_at (said_by words) k ≡ p.instruction) × (k < length words)
place_instruction words base k p at e =
    let same : at.index ≡ k = same_index base at.index k p.address at.address e in
    let says : instruction_at (said_by words) at.index ≡ p.instruction = said_at words at.index at.word at.found ∙ at.instruction in
    let P : ℕ → Type 0 = λ n. (instruction_at (said_by words) n ≡ p.instruction) × (n < length words) in
    subst P same (says, within_text words at.index at.word at.found)

same_place : (p : Place) (a : ℕ) (o : Option Form) → p.address ≡ a → o ≡ p.instruction → quiet_next p ≡ quiet_next (record { address = a; instruction = o })
same_place p a o e f =
    let first : quiet_next p ≡ quiet_next (record { address = a; instruction = p.instruction }) = ap (λ (n : ℕ). quiet_next (record { address = n; instruction = p.instruction })) e in
    let second : quiet_next (record { address = a; instruction = p.instruction }) ≡ quiet_next (record { address = a; instruction = o }) =
    ap (λ (q : Option Form). quiet_next (record { address = a; instruction = q })) (sym f) in
    first ∙ second

-- where the quiet path goes on, as an index
next_is : (words : List ℕ) (base k m : ℕ) → next_index (said_by words) base k ≡ Some m → (quiet_next (place_of words base k) ≡ base + 4 * m) × (m < length words)
next_is words base k m e =
    let is = index_of_some base (length (said_by words)) (quiet_next (place_of words base k)) m e in
    (is.0, omega (arith, is.1, length_said words))

next_from : (words : List ℕ) (base k m : ℕ) → quiet_next (place_of words base k) ≡ base + 4 * m → m < length words → next_index (said_by words) base k ≡ Some m
next_from words base k m e h =
    ap (index_of base (length (said_by words))) e ∙ index_of_at base (length (said_by words)) m (omega (arith, length_said words))

-- quiet paths, place by place
abbrev first_address : List Place → ℕ → ℕ
first_address [] to = to
first_address (p ∷ ps) to = p.address

quiet_cons : (words : List ℕ) (base : ℕ) (p : Place) (between : List Place) (last : Place) → IsPlace words base p → quiet_next p ≡ first_address between last.address →
    IsQuietPath words base (between ++ last ∷ []) → IsQuietPath words base (p ∷ (between ++ last ∷ []))
quiet_cons words base p [] last at e quiet = (at, e, quiet)
quiet_cons words base p (b ∷ bs) last at e quiet = (at, e, quiet)

quiet_head : (words : List ℕ) (base : ℕ) (p : Place) (between : List Place) (last : Place) → IsQuietPath words base (p ∷ (between ++ last ∷ [])) →
    IsPlace words base p × (quiet_next p ≡ first_address between last.address) × IsQuietPath words base (between ++ last ∷ [])
quiet_head words base p [] last quiet = (quiet.0, quiet.1, quiet.2)
quiet_head words base p (b ∷ bs) last quiet = (quiet.0, quiet.1, quiet.2)

quiet_index : (words : List ℕ) (base : ℕ) (between : List Place) (last : Place) → IsQuietPath words base (between ++ last ∷ []) →
    (m : ℕ) × (first_address between last.address ≡ base + 4 * m) × (m < length words)
quiet_index words base [] last quiet = (quiet.index, quiet.address, within_text words quiet.index quiet.word quiet.found)
quiet_index words base (b ∷ bs) last quiet =
    let parts = quiet_head words base b bs last quiet in
    (parts.0.index, parts.0.address, within_text words parts.0.index parts.0.word parts.0.found)

-- from word j the value comes to a use by at most n words, past an address
record Use (words : List ℕ) (base : ℕ) (value : Value) (j n address : ℕ) : Type 0 where
  between : List Place
  to : ℕ
  last : Form
  quiet : IsQuietPath words base (between ++ record { address = to; instruction = Some last } ∷ [])
  starts : first_address between to ≡ base + 4 * j
  short : length between + 1 ≤ n
  on_path : (address ≡ to) ⊎ Any (λ p. p.address ≡ address) between
  let_pass : All (λ p. IsTrue (passes value.reg value.first p.instruction)) between
  read : IsTrue (reads last value.reg)
  used : IsTrue (may_use value.reg value.first last)
  window : IsTrue (has_window value.reg value.first last)

use_here : (words : List ℕ) (base : ℕ) (value : Value) (j n : ℕ) → j < length words → (o : Option Form) → instruction_at (said_by words) j ≡ o → uses value.reg value.first o ≡ true →
    Use words base value j (suc n) (base + 4 * j)
use_here words base value j n h None e u = absurd (cc)
use_here words base value j n h (Some i) e u =
    let front = and_left (reads i value.reg && may_use value.reg value.first i) (has_window value.reg value.first i) u in
    record {
      between = [];
      to = base + 4 * j;
      last = i;
      quiet = place_says words base j i h e;
      starts = refl;
      short = omega arith;
      on_path = inl refl;
      let_pass = All-nil (λ p. IsTrue (passes value.reg value.first p.instruction));
      read = and_left (reads i value.reg) (may_use value.reg value.first i) front;
      used = and_right (reads i value.reg) (may_use value.reg value.first i) front;
      window = and_right (reads i value.reg && may_use value.reg value.first i) (has_window value.reg value.first i) u;
    }

-- one place more in front
longer : (words : List ℕ) (base : ℕ) (value : Value) (j m n a b : ℕ) → j < length words → passes value.reg value.first (instruction_at (said_by words) j) ≡ true →
    next_index (said_by words) base j ≡ Some m → (u : Use words base value m n a) → (b ≡ u.to) ⊎ Any (λ p. p.address ≡ b) (place_of words base j ∷ u.between) → Use words base value j (suc n) b
longer words base value j m n a b h pass next u on =
    record {
      between = place_of words base j ∷ u.between;
      to = u.to;
      last = u.last;
      quiet = quiet_cons words base (place_of words base j) u.between (record { address = u.to; instruction = Some u.last }) (is_place words base j h)
          ((next_is words base j m next).0 ∙ sym u.starts) u.quiet;
      starts = refl;
      short = omega (arith, u.short);
      on_path = on;
      let_pass = All-cons (λ p. IsTrue (passes value.reg value.first p.instruction)) (place_of words base j) u.between pass u.let_pass;
      read = u.read;
      used = u.used;
      window = u.window;
    }

head_on : (p : Place) (ps : List Place) → Any (λ q. q.address ≡ p.address) (p ∷ ps)
head_on p ps = (0, p, omega arith, refl, refl)

tail_on : (a : ℕ) (p : Place) (ps : List Place) → Any (λ q. q.address ≡ a) ps → Any (λ q. q.address ≡ a) (p ∷ ps)
tail_on a p ps (k, x, h, is, at) = (suc k, x, omega arith, is, at)

still_on : (a to : ℕ) (p : Place) (ps : List Place) → (a ≡ to) ⊎ Any (λ q. q.address ≡ a) ps → (a ≡ to) ⊎ Any (λ q. q.address ≡ a) (p ∷ ps)
still_on a to p ps (inl e) = inl e
still_on a to p ps (inr any) = inr (tail_on a p ps any)

abbrev Reached : List ℕ → ℕ → Value → ℕ → Type 0
Reached words base value n = (m : ℕ) → m < length words → reaches (said_by words) base value n m ≡ true → Use words base value m n (base + 4 * m)

reach_later : (words : List ℕ) (base : ℕ) (value : Value) (j n : ℕ) → j < length words → Reached words base value n →
    holds_later (said_by words) base value j (reaches (said_by words) base value n) ≡ true → Use words base value j (suc n) (base + 4 * j)
reach_later words base value j n h ih e =
    let pass = and_left (passes value.reg value.first (instruction_at (said_by words) j)) (holds_there (reaches (said_by words) base value n) (next_index (said_by words) base j)) e in
    let goes = there (reaches (said_by words) base value n) (next_index (said_by words) base j)
    (and_right (passes value.reg value.first (instruction_at (said_by words) j)) (holds_there (reaches (said_by words) base value n) (next_index (said_by words) base j)) e) in
    let u = ih goes.0 (next_is words base j goes.0 goes.1).1 goes.2 in
    longer words base value j goes.0 n (base + 4 * goes.0) (base + 4 * j) h pass goes.1 u (inr (head_on (place_of words base j) u.between))

reach_use : (words : List ℕ) (base : ℕ) (value : Value) (n : ℕ) → Reached words base value n
reach_use words base value zero j h e = let none = reaches_none (said_by words) base value j in absurd (cc)
reach_use words base value (suc n) j h e =
    by (or_cases (uses value.reg value.first (instruction_at (said_by words) j)) (holds_later (said_by words) base value j (reaches (said_by words) base value n))
    (sym (reaches_suc (said_by words) base value n j) ∙ e)) (reach_use words base value n)
  where
    by : (uses value.reg value.first (instruction_at (said_by words) j) ≡ true) ⊎ (holds_later (said_by words) base value j (reaches (said_by words) base value n) ≡ true) →
        Reached words base value n → Use words base value j (suc n) (base + 4 * j)
    by (inl u) ih = use_here words base value j n h (instruction_at (said_by words) j) refl u
    by (inr l) ih = reach_later words base value j n h ih l

abbrev OnWay : List ℕ → ℕ → Value → ℕ → ℕ → Type 0
OnWay words base value k n = (m : ℕ) → m < length words → on_way (said_by words) base value n m k ≡ true → Use words base value m n (base + 4 * k)

way_later : (words : List ℕ) (base : ℕ) (value : Value) (j k n : ℕ) → j < length words → OnWay words base value k n →
    holds_later (said_by words) base value j (λ m. on_way (said_by words) base value n m k) ≡ true → Use words base value j (suc n) (base + 4 * k)
way_later words base value j k n h ih e =
    let test : ℕ → Bool = λ m. on_way (said_by words) base value n m k in
    let pass = and_left (passes value.reg value.first (instruction_at (said_by words) j)) (holds_there test (next_index (said_by words) base j)) e in
    let goes = there test (next_index (said_by words) base j)
    (and_right (passes value.reg value.first (instruction_at (said_by words) j)) (holds_there test (next_index (said_by words) base j)) e) in
    let u = ih goes.0 (next_is words base j goes.0 goes.1).1 goes.2 in
    longer words base value j goes.0 n (base + 4 * k) (base + 4 * k) h pass goes.1 u (still_on (base + 4 * k) u.to (place_of words base j) u.between u.on_path)

way_use : (words : List ℕ) (base : ℕ) (value : Value) (k n : ℕ) → OnWay words base value k n
way_use words base value k zero j h e = let none = on_way_none (said_by words) base value j k in absurd (cc)
way_use words base value k (suc n) j h e =
    by (or_cases (k == j && reaches (said_by words) base value (suc n) j) (holds_later (said_by words) base value j (λ m. on_way (said_by words) base value n m k))
    (sym (on_way_suc (said_by words) base value n j k) ∙ e)) (way_use words base value k n)
  where
    by : ((k == j && reaches (said_by words) base value (suc n) j) ≡ true) ⊎ (holds_later (said_by words) base value j (λ m. on_way (said_by words) base value n m k) ≡ true) →
        OnWay words base value k n → Use words base value j (suc n) (base + 4 * k)
    by (inl u) ih =
        let test = and_left (k == j) (reaches (said_by words) base value (suc n) j) u in
        let same : j ≡ k = grind (arith, nat_tests) in
        let P : ℕ → Type 0 = λ i. Use words base value j (suc n) (base + 4 * i) in
        subst P same (reach_use words base value (suc n) j h (and_right (k == j) (reaches (said_by words) base value (suc n) j) u))
    by (inr l) ih = way_later words base value j k n h ih l

-- what is marked is a window point
window_begun : (words : List ℕ) (base i k r : ℕ) (o : Option Form) → i < length words → instruction_at (said_by words) i ≡ o → begun_by i r o (said_by words) base k ≡ true →
    IsWindowPoint words base (base + 4 * k) r
window_begun words base i k r None h e b = absurd (cc)
window_begun words base i k r (Some first) h e b =
    let value : Value = record { reg = r; first = first } in
    let test : ℕ → Bool = λ j. on_way (said_by words) base value 31 j k in
    let brought = and_left (begins r first) (holds_there test (next_index (said_by words) base i)) b in
    let goes = there test (next_index (said_by words) base i) (and_right (begins r first) (holds_there test (next_index (said_by words) base i)) b) in
    let next = next_is words base i goes.0 goes.1 in
    let u = way_use words base value k 31 goes.0 next.1 goes.2 in
    record {
      from = base + 4 * i;
      first = first;
      between = u.between;
      to = u.to;
      last = u.last;
      quiet = quiet_cons words base (record { address = base + 4 * i; instruction = Some first }) u.between (record { address = u.to; instruction = Some u.last })
          (place_says words base i first h e)
          (ap (λ (q : Option Form). quiet_next (record { address = base + 4 * i; instruction = q })) (sym e) ∙ next.0 ∙ sym u.starts) u.quiet;
      short = omega (arith, u.short);
      on_path = u.on_path;
      let_pass = u.let_pass;
      brought = brought;
      read = u.read;
      used = u.used;
      window = u.window;
    }

pub window_marked : (words : List ℕ) (base k r n : ℕ) → n ≤ length words → begun_before (said_by words) base n k r ≡ true → IsWindowPoint words base (base + 4 * k) r
window_marked words base k r zero h e = let none = begun_zero (said_by words) base k r in absurd (cc)
window_marked words base k r (suc n) h e =
    by (or_cases (begun_before (said_by words) base n k r) (begun_at (said_by words) base n k r) (sym (begun_suc (said_by words) base n k r) ∙ e)) (window_marked words base k r n (omega arith))
  where
    by : (begun_before (said_by words) base n k r ≡ true) ⊎ (begun_at (said_by words) base n k r ≡ true) → (begun_before (said_by words) base n k r ≡ true → IsWindowPoint words base (base + 4 * k) r) →
        IsWindowPoint words base (base + 4 * k) r
    by (inl before) ih = ih before
    by (inr at) ih = window_begun words base n k r (instruction_at (said_by words) n) (omega arith) refl at

-- a path to a use is found
says_last : (words : List ℕ) (base j to : ℕ) (last : Form) → IsPlace words base (record { address = to; instruction = Some last }) → to ≡ base + 4 * j → instruction_at (said_by words) j ≡ Some last
says_last words base j to last at e = (place_instruction words base j (record { address = to; instruction = Some last }) at e).0

used_there : (value : Value) (last : Form) → IsTrue (reads last value.reg) → IsTrue (may_use value.reg value.first last) → IsTrue (has_window value.reg value.first last) →
    uses value.reg value.first (Some last) ≡ true
used_there value last read used window = rw (read, used, window)

later_there : (words : List ℕ) (base : ℕ) (value : Value) (j m : ℕ) (test : ℕ → Bool) → passes value.reg value.first (instruction_at (said_by words) j) ≡ true →
    next_index (said_by words) base j ≡ Some m → test m ≡ true → holds_later (said_by words) base value j test ≡ true
later_there words base value j m test pass next found = rw (pass, next) found

-- what a place before a path says of word j
record Front (words : List ℕ) (base : ℕ) (value : Value) (j : ℕ) (rest : List Place) (to : ℕ) : Type 0 where
  index : ℕ
  pass : passes value.reg value.first (instruction_at (said_by words) j) ≡ true
  next : next_index (said_by words) base j ≡ Some index
  starts : first_address rest to ≡ base + 4 * index
  within : index < length words

front_of : (words : List ℕ) (base : ℕ) (value : Value) (j : ℕ) (p : Place) (rest : List Place) (last : Place) → IsQuietPath words base (p ∷ (rest ++ last ∷ [])) → p.address ≡ base + 4 * j →
    IsTrue (passes value.reg value.first p.instruction) → Front words base value j rest last.address
front_of words base value j p rest last quiet e pass =
    let parts = quiet_head words base p rest last quiet in
    let goes = quiet_index words base rest last parts.2 in
    let says = place_instruction words base j p parts.0 e in
    record {
      index = goes.0;
      pass = ap (passes value.reg value.first) says.0 ∙ pass;
      next = next_from words base j goes.0 (sym (same_place p (base + 4 * j) (instruction_at (said_by words) j) e says.0) ∙ parts.1 ∙ goes.1) goes.2;
      starts = goes.1;
      within = goes.2;
    }

reach_found : (words : List ℕ) (base : ℕ) (value : Value) (to : ℕ) (last : Form) → IsTrue (reads last value.reg) → IsTrue (may_use value.reg value.first last) → IsTrue (has_window value.reg value.first last) →
    (between : List Place) (j n : ℕ) → IsQuietPath words base (between ++ record { address = to; instruction = Some last } ∷ []) → first_address between to ≡ base + 4 * j →
    All (λ p. IsTrue (passes value.reg value.first p.instruction)) between → length between + 1 ≤ n → reaches (said_by words) base value n j ≡ true
reach_found words base value to last read used window [] j n quiet e pass short =
    reaches_more (said_by words) base value n j (omega arith)
    ∙ or_left (uses value.reg value.first (instruction_at (said_by words) j)) (holds_later (said_by words) base value j (reaches (said_by words) base value (n - 1)))
    (ap (uses value.reg value.first) (says_last words base j to last quiet e) ∙ used_there value last read used window)
reach_found words base value to last read used window (p ∷ ps) j n quiet e pass short =
    let P : Place → Type 0 = λ q. IsTrue (passes value.reg value.first q.instruction) in
    let front = front_of words base value j p ps (record { address = to; instruction = Some last }) quiet e (All-head P p ps pass) in
    let ih = reach_found words base value to last read used window ps front.index (n - 1) (quiet_head words base p ps (record { address = to; instruction = Some last }) quiet).2 front.starts
    (All-tail P p ps pass) (omega arith) in
    reaches_more (said_by words) base value n j (omega arith)
    ∙ or_right (uses value.reg value.first (instruction_at (said_by words) j)) (holds_later (said_by words) base value j (reaches (said_by words) base value (n - 1)))
    (later_there words base value j front.index (reaches (said_by words) base value (n - 1)) front.pass front.next ih)

any_nil : (a : ℕ) → Any (λ (p : Place). p.address ≡ a) [] → ⊥
any_nil a (k, x, h, is, at) = omega arith

any_cases : (a : ℕ) (p : Place) (ps : List Place) → Any (λ q. q.address ≡ a) (p ∷ ps) → (p.address ≡ a) ⊎ Any (λ q. q.address ≡ a) ps
any_cases a p ps (zero, x, h, is, at) = inl (ap (λ (q : Place). q.address) is ∙ at)
any_cases a p ps (suc k, x, h, is, at) = inr (k, x, omega arith, is, at)

on_cases : (a to : ℕ) (p : Place) (ps : List Place) → (a ≡ to) ⊎ Any (λ q. q.address ≡ a) (p ∷ ps) → (p.address ≡ a) ⊎ ((a ≡ to) ⊎ Any (λ q. q.address ≡ a) ps)
on_cases a to p ps (inl e) = inr (inl e)
on_cases a to p ps (inr any) = by (any_cases a p ps any)
  where
    by : (p.address ≡ a) ⊎ Any (λ q. q.address ≡ a) ps → (p.address ≡ a) ⊎ ((a ≡ to) ⊎ Any (λ q. q.address ≡ a) ps)
    by (inl e) = inl e
    by (inr any) = inr (inr any)

-- the first word of a way is on it
way_first : (words : List ℕ) (base : ℕ) (value : Value) (n j k : ℕ) → 0 < n → k ≡ j → reaches (said_by words) base value n j ≡ true → on_way (said_by words) base value n j k ≡ true
way_first words base value n j k some same reached =
    let here : (k == j) ≡ true = grind (arith, nat_tests) in
    let both : (k == j && reaches (said_by words) base value n j) ≡ true = rw (here, reached) in
    on_way_more (said_by words) base value n j k some
    ∙ or_left (k == j && reaches (said_by words) base value n j) (holds_later (said_by words) base value j (λ m. on_way (said_by words) base value (n - 1) m k)) both

way_found : (words : List ℕ) (base : ℕ) (value : Value) (to : ℕ) (last : Form) → IsTrue (reads last value.reg) → IsTrue (may_use value.reg value.first last) → IsTrue (has_window value.reg value.first last) →
    (k : ℕ) (between : List Place) (j n : ℕ) → IsQuietPath words base (between ++ record { address = to; instruction = Some last } ∷ []) → first_address between to ≡ base + 4 * j →
    All (λ p. IsTrue (passes value.reg value.first p.instruction)) between → length between + 1 ≤ n → (base + 4 * k ≡ to) ⊎ Any (λ p. p.address ≡ base + 4 * k) between →
    on_way (said_by words) base value n j k ≡ true
way_found words base value to last read used window k [] j n quiet e pass short (inr any) = absurd (any_nil (base + 4 * k) any)
way_found words base value to last read used window k [] j n quiet e pass short (inl at) =
    way_first words base value n j k (omega arith) (omega arith) (reach_found words base value to last read used window [] j n quiet e pass short)
way_found words base value to last read used window k (p ∷ ps) j n quiet e pass short on =
    by (on_cases (base + 4 * k) to p ps on) (way_found words base value to last read used window k ps)
  where
    by : (p.address ≡ base + 4 * k) ⊎ ((base + 4 * k ≡ to) ⊎ Any (λ p. p.address ≡ base + 4 * k) ps) →
        ((i m : ℕ) → IsQuietPath words base (ps ++ record { address = to; instruction = Some last } ∷ []) → first_address ps to ≡ base + 4 * i →
        All (λ p. IsTrue (passes value.reg value.first p.instruction)) ps → length ps + 1 ≤ m → (base + 4 * k ≡ to) ⊎ Any (λ p. p.address ≡ base + 4 * k) ps →
        on_way (said_by words) base value m i k ≡ true) →
        on_way (said_by words) base value n j k ≡ true
    by (inl at) ih = way_first words base value n j k (omega arith) (omega arith) (reach_found words base value to last read used window (p ∷ ps) j n quiet e pass short)
    by (inr later) ih =
        let P : Place → Type 0 = λ q. IsTrue (passes value.reg value.first q.instruction) in
        let front = front_of words base value j p ps (record { address = to; instruction = Some last }) quiet e (All-head P p ps pass) in
        let rest = ih front.index (n - 1) (quiet_head words base p ps (record { address = to; instruction = Some last }) quiet).2 front.starts (All-tail P p ps pass) (omega arith) later in
        on_way_more (said_by words) base value n j k (omega arith)
        ∙ or_right (k == j && reaches (said_by words) base value n j) (holds_later (said_by words) base value j (λ m. on_way (said_by words) base value (n - 1) m k))
        (later_there words base value j front.index (λ m. on_way (said_by words) base value (n - 1) m k) front.pass front.next rest)

-- an address on a path is that of a word
on_index : (words : List ℕ) (base : ℕ) (between : List Place) (last : Place) (a : ℕ) → IsQuietPath words base (between ++ last ∷ []) → (a ≡ last.address) ⊎ Any (λ p. p.address ≡ a) between →
    (k : ℕ) × (a ≡ base + 4 * k) × (k < length words)
on_index words base [] last a quiet (inl e) = (quiet.index, e ∙ quiet.address, within_text words quiet.index quiet.word quiet.found)
on_index words base [] last a quiet (inr any) = absurd (any_nil a any)
on_index words base (p ∷ ps) last a quiet on = by (quiet_head words base p ps last quiet) (on_cases a last.address p ps on) (on_index words base ps last a)
  where
    by : IsPlace words base p × (quiet_next p ≡ first_address ps last.address) × IsQuietPath words base (ps ++ last ∷ []) →
        (p.address ≡ a) ⊎ ((a ≡ last.address) ⊎ Any (λ q. q.address ≡ a) ps) →
        (IsQuietPath words base (ps ++ last ∷ []) → (a ≡ last.address) ⊎ Any (λ p. p.address ≡ a) ps → (k : ℕ) × (a ≡ base + 4 * k) × (k < length words)) →
        (k : ℕ) × (a ≡ base + 4 * k) × (k < length words)
    by parts (inl e) ih = (parts.0.index, sym e ∙ parts.0.address, within_text words parts.0.index parts.0.word parts.0.found)
    by parts (inr later) ih = ih parts.2 later

-- one word that begins it is among the first n
begun_within : (words : List ℕ) (base k r i n : ℕ) → i < n → begun_at (said_by words) base i k r ≡ true → begun_before (said_by words) base n k r ≡ true
begun_within words base k r i zero h b = absurd (omega arith)
begun_within words base k r i (suc n) h b = begun_suc (said_by words) base n k r ∙ by (cases_lt i n) (begun_within words base k r i n)
  where
    by : (i < n) ⊎ (n ≤ i) → (i < n → begun_at (said_by words) base i k r ≡ true → begun_before (said_by words) base n k r ≡ true) →
        (begun_before (said_by words) base n k r || begun_at (said_by words) base n k r) ≡ true
    by (inl less) ih = or_left (begun_before (said_by words) base n k r) (begun_at (said_by words) base n k r) (ih less b)
    by (inr last) ih =
        let same : i ≡ n = omega arith in
        let P : ℕ → Type 0 = λ m. begun_at (said_by words) base m k r ≡ true in
        or_right (begun_before (said_by words) base n k r) (begun_at (said_by words) base n k r) (subst P same b)

begun_there : (words : List ℕ) (base i k r m : ℕ) (first : Form) → instruction_at (said_by words) i ≡ Some first → IsTrue (begins r first) → next_index (said_by words) base i ≡ Some m →
    on_way (said_by words) base (record { reg = r; first = first }) 31 m k ≡ true → begun_at (said_by words) base i k r ≡ true
begun_there words base i k r m first says brought next found =
    ap (λ o. begun_by i r o (said_by words) base k) says ∙ rw (brought, next) found

-- a window point is marked
pub window_found : (words : List ℕ) (base address r : ℕ) → IsWindowPoint words base address r →
    (k : ℕ) × (address ≡ base + 4 * k) × (k < length words) × (begun_before (said_by words) base (length words) k r ≡ true)
window_found words base address r w =
    let start : Place = record { address = w.from; instruction = Some w.first } in
    let end : Place = record { address = w.to; instruction = Some w.last } in
    let value : Value = record { reg = r; first = w.first } in
    let parts = quiet_head words base start w.between end w.quiet in
    let goes = quiet_index words base w.between end parts.2 in
    let on = on_index words base w.between end address parts.2 w.on_path in
    let first = place_instruction words base parts.0.index start parts.0 parts.0.address in
    let next = next_from words base parts.0.index goes.0
    (sym (same_place start (base + 4 * parts.0.index) (instruction_at (said_by words) parts.0.index) parts.0.address first.0) ∙ parts.1 ∙ goes.1) goes.2 in
    let P : ℕ → Type 0 = λ a. (a ≡ w.to) ⊎ Any (λ p. p.address ≡ a) w.between in
    let found = way_found words base value w.to w.last w.read w.used w.window on.0 w.between goes.0 31 parts.2 goes.1 w.let_pass (omega (arith, w.short)) (subst P on.1 w.on_path) in
    (on.0, on.1, on.2, begun_within words base on.0 r parts.0.index (length words) first.1 (begun_there words base parts.0.index on.0 r goes.0 w.first first.0 w.brought next found))
