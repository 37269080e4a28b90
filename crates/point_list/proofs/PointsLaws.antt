-- The points of marks are sorted, and are those that are marked.
use Rattle.std.proofs.Common.{◌≡◌, ◌<◌, ◌≤◌, ◌+◌, ◌*◌, ◌^◌, ◌⊎◌, inl, inr, ℕ, zero, suc, Bool, true, false, List, [], ◌∷◌, ◌++◌, length, get_or, refl, ap, sym, ◌∙◌, subst, arith, append_assoc}
use Rattle.std.specs.Prelude.{All, Contains, ◌↔◌, ◌==◌, ◌&&◌, ◌||◌, if◌then◌else◌, slice_index}
use Rattle.std.specs.Int.{bit_at}
use Rattle.std.specs.List.{list_any}
use Rattle.std.proofs.lemmas.Bool.Decides.{nat_tests}
use Rattle.std.proofs.lemmas.Bool.{cases_lt}
use Rattle.std.proofs.lemmas.List.{append-nil}
use Rattle.std.proofs.lemmas.List.Elements.{All-nil, All-cons, All-append, All-weaker, All-contains, Contains-append_left, Contains-append_right, Contains-push}
use Rattle.std.proofs.lemmas.List.Quantifiers.{all_pairs_push}
use Rattle.rv_inst.specs.Window.{IsWindowPoint}
use Rattle.point_list.specs.Walk.{begun_before}
use Rattle.point_list.specs.Marks.{is_marked, is_at, points_at, points_of, IsMarkedPoint}
use Rattle.point_list.specs.Points.{IsBefore, AreSorted}
use Rattle.point_list.specs.declared.list.Point.{Point}
use Rattle.point_list.proofs.MarkLemmas.{past_registers}
use Rattle.point_list.proofs.PointSearch.{same_fields}
use Rattle.point_list.proofs.WindowLaws.{said_by, window_marked, window_found}

-- the point of one register, where its bit is 1
abbrev one : ℕ → ℕ → Bool → List Point
one pc r b = if b then record { pc = pc; reg = r } ∷ [] else []

points_at_suc : (pc mark n : ℕ) → points_at pc mark (suc n) ≡ points_at pc mark n ++ one pc n (bit_at mark n == 1)
unfolding points_at
points_at_suc pc mark n = refl

points_at_zero : (pc mark : ℕ) → points_at pc mark 0 ≡ []
unfolding points_at
points_at_zero pc mark = refl

points_of_suc : (base : ℕ) (marks : List ℕ) (n : ℕ) → points_of base marks (suc n) ≡ points_of base marks n ++ points_at (base + 4 * n) (slice_index marks n) 32
unfolding points_of
points_of_suc base marks n = refl

points_of_zero : (base : ℕ) (marks : List ℕ) → points_of base marks 0 ≡ []
unfolding points_of
points_of_zero base marks = refl

-- a point of a word
record IsOf (pc mark n : ℕ) (p : Point) : Type 0 where
  at : p.pc ≡ pc
  low : p.reg < n
  set : (bit_at mark p.reg == 1) ≡ true

all_one : (pc mark n : ℕ) (b : Bool) → (bit_at mark n == 1) ≡ b → All (IsOf pc mark (suc n)) (one pc n b)
all_one pc mark n true e = All-cons (IsOf pc mark (suc n)) (record { pc = pc; reg = n }) [] (record { at = refl; low = omega arith; set = e }) (All-nil (IsOf pc mark (suc n)))
all_one pc mark n false e = All-nil (IsOf pc mark (suc n))

all_at : (pc mark n : ℕ) → All (IsOf pc mark n) (points_at pc mark n)
all_at pc mark zero = let P : List Point → Type 0 = λ ps. All (IsOf pc mark 0) ps in subst P (sym (points_at_zero pc mark)) (All-nil (IsOf pc mark 0))
all_at pc mark (suc n) =
    let P : List Point → Type 0 = λ ps. All (IsOf pc mark (suc n)) ps in
    subst P (sym (points_at_suc pc mark n))
    (All-append (IsOf pc mark (suc n)) (points_at pc mark n) (one pc n (bit_at mark n == 1))
    (All-weaker (IsOf pc mark n) (IsOf pc mark (suc n)) (λ p h. record { at = h.at; low = omega (arith, h.low); set = h.set }) (points_at pc mark n) (all_at pc mark n))
    (all_one pc mark n (bit_at mark n == 1) refl))

-- each marked register of a word has its point
at_marked : (pc mark n r : ℕ) → r < n → (bit_at mark r == 1) ≡ true → Contains (points_at pc mark n) (record { pc = pc; reg = r })
at_marked pc mark zero r h e = absurd (omega arith)
at_marked pc mark (suc n) r h e =
    let P : List Point → Type 0 = λ ps. Contains ps (record { pc = pc; reg = r }) in
    subst P (sym (points_at_suc pc mark n)) (by (cases_lt r n) (at_marked pc mark n r))
  where
    by : (r < n) ⊎ (n ≤ r) → (r < n → (bit_at mark r == 1) ≡ true → Contains (points_at pc mark n) (record { pc = pc; reg = r })) →
        Contains (points_at pc mark n ++ one pc n (bit_at mark n == 1)) (record { pc = pc; reg = r })
    by (inl less) ih = Contains-append_left (points_at pc mark n) (one pc n (bit_at mark n == 1)) (record { pc = pc; reg = r }) (ih less e)
    by (inr last) ih =
        let same : r ≡ n = omega arith in
        let bit : (bit_at mark n == 1) ≡ true = ap (λ i. bit_at mark i == 1) (sym same) ∙ e in
        let P : Bool → Type 0 = λ b. Contains (points_at pc mark n ++ one pc n b) (record { pc = pc; reg = r }) in
        let Q : ℕ → Type 0 = λ i. Contains (points_at pc mark n ++ one pc n true) (record { pc = pc; reg = i }) in
        subst P (sym bit) (subst Q (sym same) (Contains-push (points_at pc mark n) (record { pc = pc; reg = n })))

-- a point of the first words
record IsOfWords (base : ℕ) (marks : List ℕ) (n : ℕ) (p : Point) : Type 0 where
  word : ℕ
  at : p.pc ≡ base + 4 * word
  low : p.reg < 32
  within : word < n
  set : is_marked marks word p.reg ≡ true

all_of : (base : ℕ) (marks : List ℕ) (n : ℕ) → All (IsOfWords base marks n) (points_of base marks n)
all_of base marks zero = let P : List Point → Type 0 = λ ps. All (IsOfWords base marks 0) ps in subst P (sym (points_of_zero base marks)) (All-nil (IsOfWords base marks 0))
all_of base marks (suc n) =
    let P : List Point → Type 0 = λ ps. All (IsOfWords base marks (suc n)) ps in
    subst P (sym (points_of_suc base marks n))
    (All-append (IsOfWords base marks (suc n)) (points_of base marks n) (points_at (base + 4 * n) (slice_index marks n) 32)
    (All-weaker (IsOfWords base marks n) (IsOfWords base marks (suc n)) (λ p h. record { word = h.word; at = h.at; low = h.low; within = omega (arith, h.within); set = h.set })
    (points_of base marks n) (all_of base marks n))
    (All-weaker (IsOf (base + 4 * n) (slice_index marks n) 32) (IsOfWords base marks (suc n)) (λ p h. record { word = n; at = h.at; low = h.low; within = omega arith; set = h.set })
    (points_at (base + 4 * n) (slice_index marks n) 32) (all_at (base + 4 * n) (slice_index marks n) 32)))

of_marked : (base : ℕ) (marks : List ℕ) (n k r : ℕ) → k < n → r < 32 → is_marked marks k r ≡ true → Contains (points_of base marks n) (record { pc = base + 4 * k; reg = r })
of_marked base marks zero k r h small e = absurd (omega arith)
of_marked base marks (suc n) k r h small e =
    let P : List Point → Type 0 = λ ps. Contains ps (record { pc = base + 4 * k; reg = r }) in
    subst P (sym (points_of_suc base marks n)) (by (cases_lt k n) (of_marked base marks n k r))
  where
    by : (k < n) ⊎ (n ≤ k) → (k < n → r < 32 → is_marked marks k r ≡ true → Contains (points_of base marks n) (record { pc = base + 4 * k; reg = r })) →
        Contains (points_of base marks n ++ points_at (base + 4 * n) (slice_index marks n) 32) (record { pc = base + 4 * k; reg = r })
    by (inl less) ih = Contains-append_left (points_of base marks n) (points_at (base + 4 * n) (slice_index marks n) 32) (record { pc = base + 4 * k; reg = r }) (ih less small e)
    by (inr last) ih =
        let same : n ≡ k = omega arith in
        let P : ℕ → Type 0 = λ i. Contains (points_of base marks n ++ points_at (base + 4 * n) (slice_index marks n) 32) (record { pc = base + 4 * i; reg = r }) in
        let Q : ℕ → Type 0 = λ i. is_marked marks i r ≡ true in
        subst P same (Contains-append_right (points_of base marks n) (points_at (base + 4 * n) (slice_index marks n) 32) (record { pc = base + 4 * n; reg = r })
        (at_marked (base + 4 * n) (slice_index marks n) 32 r small (subst Q (sym same) e)))

-- sorted, as it is made
sorted_push : (ps : List Point) (p : Point) → AreSorted ps → All (λ q. IsBefore q p) ps → AreSorted (ps ++ p ∷ [])
sorted_push ps p up before = all_pairs_push IsBefore ps p up before

sorted_at : (pc mark : ℕ) (ps : List Point) → AreSorted ps → All (λ q. q.pc < pc) ps → (n : ℕ) → AreSorted (ps ++ points_at pc mark n)
sorted_at pc mark ps up before zero = subst AreSorted (sym (ap (λ (qs : List Point). ps ++ qs) (points_at_zero pc mark) ∙ append-nil ps)) up
sorted_at pc mark ps up before (suc n) =
    subst AreSorted (append_assoc ps (points_at pc mark n) (one pc n (bit_at mark n == 1)) ∙ ap (λ (qs : List Point). ps ++ qs) (sym (points_at_suc pc mark n)))
    (by (bit_at mark n == 1) (sorted_at pc mark ps up before n))
  where
    all_before : All (λ q. IsBefore q (record { pc = pc; reg = n })) (ps ++ points_at pc mark n)
    all_before =
        All-append (λ q. IsBefore q (record { pc = pc; reg = n })) ps (points_at pc mark n)
        (All-weaker (λ (q : Point). q.pc < pc) (λ q. IsBefore q (record { pc = pc; reg = n })) (λ q h. inl h) ps before)
        (All-weaker (IsOf pc mark n) (λ q. IsBefore q (record { pc = pc; reg = n })) (λ q h. inr (h.at, h.low)) (points_at pc mark n) (all_at pc mark n))

    by : (b : Bool) → AreSorted (ps ++ points_at pc mark n) → AreSorted (ps ++ points_at pc mark n ++ one pc n b)
    by true ih = sorted_push (ps ++ points_at pc mark n) (record { pc = pc; reg = n }) ih all_before
    by false ih = subst AreSorted (sym (append-nil (ps ++ points_at pc mark n))) ih

pub points_sorted : (base : ℕ) (marks : List ℕ) (n : ℕ) → AreSorted (points_of base marks n)
points_sorted base marks zero = subst AreSorted (sym (points_of_zero base marks)) nothing
  where
    nothing : AreSorted []
    nothing i j d h k = absurd (omega arith)
points_sorted base marks (suc n) =
    subst AreSorted (sym (points_of_suc base marks n))
    (sorted_at (base + 4 * n) (slice_index marks n) (points_of base marks n) (points_sorted base marks n)
    (All-weaker (IsOfWords base marks n) (λ (q : Point). q.pc < base + 4 * n) (λ q h. omega (arith, h.at, h.within)) (points_of base marks n) (all_of base marks n)) 32)

-- which points were asked
asked_of : (asked : List Point) (base k r : ℕ) → list_any (is_at base k r) asked ≡ true → Contains asked (record { pc = base + 4 * k; reg = r })
asked_of [] base k r e = absurd (cc)
asked_of (q ∷ qs) base k r e = by (is_at base k r q) refl e (asked_of qs base k r)
  where
    by : (b : Bool) → is_at base k r q ≡ b → (b || list_any (is_at base k r) qs) ≡ true → (list_any (is_at base k r) qs ≡ true → Contains qs (record { pc = base + 4 * k; reg = r })) →
        Contains (q ∷ qs) (record { pc = base + 4 * k; reg = r })
    by true at e ih = (0, omega arith, same_fields q (record { pc = base + 4 * k; reg = r }) (same_pc (q.pc == base + 4 * k) (q.reg == r) refl refl at) (same_reg (q.pc == base + 4 * k) (q.reg == r) refl refl at))
      where
        same_pc : (a b : Bool) → (q.pc == base + 4 * k) ≡ a → (q.reg == r) ≡ b → (a && b) ≡ true → q.pc ≡ base + 4 * k
        same_pc true b p s e = grind (arith, nat_tests)
        same_pc false b p s e = absurd (cc)

        same_reg : (a b : Bool) → (q.pc == base + 4 * k) ≡ a → (q.reg == r) ≡ b → (a && b) ≡ true → q.reg ≡ r
        same_reg true true p s e = grind (arith, nat_tests)
        same_reg true false p s e = absurd (cc)
        same_reg false b p s e = absurd (cc)
    by false at e ih = Contains-append_right (q ∷ []) qs (record { pc = base + 4 * k; reg = r }) (ih e)

asked_from : (asked : List Point) (base k r i : ℕ) → i < length asked → get_or asked i (record { pc = base + 4 * k; reg = r }) ≡ record { pc = base + 4 * k; reg = r } → list_any (is_at base k r) asked ≡ true
asked_from [] base k r i h e = absurd (omega arith)
asked_from (q ∷ qs) base k r zero h e =
    let pc : (q.pc == base + 4 * k) ≡ true = let same = ap (λ (p : Point). p.pc) e in grind (arith, nat_tests) in
    let reg : (q.reg == r) ≡ true = let same = ap (λ (p : Point). p.reg) e in grind (arith, nat_tests) in
    rw (pc, reg)
asked_from (q ∷ qs) base k r (suc i) h e = by (is_at base k r q) (asked_from qs base k r i (omega arith) e)
  where
    by : (b : Bool) → list_any (is_at base k r) qs ≡ true → (b || list_any (is_at base k r) qs) ≡ true
    by true f = refl
    by false f = f

and_left : (a b : Bool) → (a && b) ≡ true → a ≡ true
and_left true b e = refl
and_left false b e = e

and_right : (a b : Bool) → (a && b) ≡ true → b ≡ true
and_right true b e = e
and_right false b e = absurd (cc)

-- the points are those that are marked
pub points_marked : (base : ℕ) (marks : List ℕ) → ((k : ℕ) → slice_index marks k < 2 ^ 32) → (p : Point) → Contains (points_of base marks (length marks)) p ↔ IsMarkedPoint base marks p
points_marked base marks wide p = (λ c. there (All-contains (IsOfWords base marks (length marks)) (points_of base marks (length marks)) p (all_of base marks (length marks)) c), back)
  where
    there : IsOfWords base marks (length marks) p → IsMarkedPoint base marks p
    there h = (h.word, h.within, h.at, h.set)

    small : (k : ℕ) → is_marked marks k p.reg ≡ true → (p.reg < 32) ⊎ (32 ≤ p.reg) → p.reg < 32
    small k set (inl h) = h
    small k set (inr past) = let unset = past_registers marks k p.reg (wide k) past in absurd (cc)

    back : IsMarkedPoint base marks p → Contains (points_of base marks (length marks)) p
    back (k, within, at, set) =
        let P : ℕ → Type 0 = λ a. Contains (points_of base marks (length marks)) (record { pc = a; reg = p.reg }) in
        subst P (sym at) (of_marked base marks (length marks) k p.reg within (small k set (cases_lt p.reg 32)) set)

-- the marked points are the asked window points
pub marked_exact : (words : List ℕ) (base : ℕ) (asked : List Point) (marks : List ℕ) → length marks ≡ length words →
    ((k r : ℕ) → is_marked marks k r ≡ (begun_before (said_by words) base (length words) k r && list_any (is_at base k r) asked)) →
    (p : Point) → IsMarkedPoint base marks p ↔ (Contains asked p × IsWindowPoint words base p.pc p.reg)
marked_exact words base asked marks len marked p = (there, λ h. back h.0 (window_found words base p.pc p.reg h.1))
  where
    there : IsMarkedPoint base marks p → Contains asked p × IsWindowPoint words base p.pc p.reg
    there (k, within, at, set) =
        let both = sym (marked k p.reg) ∙ set in
        let window = window_marked words base k p.reg (length words) (omega arith) (and_left (begun_before (said_by words) base (length words) k p.reg) (list_any (is_at base k p.reg) asked) both) in
        let was = asked_of asked base k p.reg (and_right (begun_before (said_by words) base (length words) k p.reg) (list_any (is_at base k p.reg) asked) both) in
        let P : ℕ → Type 0 = λ a. Contains asked (record { pc = a; reg = p.reg }) × IsWindowPoint words base a p.reg in
        subst P (sym at) (was, window)

    back : Contains asked p → (k : ℕ) × (p.pc ≡ base + 4 * k) × (k < length words) × (begun_before (said_by words) base (length words) k p.reg ≡ true) → IsMarkedPoint base marks p
    back c (k, at, within, begun) =
        let P : ℕ → Type 0 = λ a. Contains asked (record { pc = a; reg = p.reg }) in
        let was = subst P at c in
        let any = asked_from asked base k p.reg was.0 was.1 was.2 in
        (k, omega arith, at, marked k p.reg ∙ rw (begun, any))

-- a list that is the points of all marks
pub list_sorted : (base : ℕ) (marks : List ℕ) (n : ℕ) (ps : List Point) → ps ≡ points_of base marks n → AreSorted ps
list_sorted base marks n ps e = subst AreSorted (sym e) (points_sorted base marks n)

pub list_marked : (base : ℕ) (marks : List ℕ) (n : ℕ) (ps : List Point) → ((k : ℕ) → slice_index marks k < 2 ^ 32) → ps ≡ points_of base marks n → n ≡ length marks →
    (p : Point) → Contains ps p ↔ IsMarkedPoint base marks p
list_marked base marks n ps wide e all p =
    let P : List Point → Type 0 = λ qs. Contains qs p ↔ IsMarkedPoint base marks p in
    subst P (sym (e ∙ ap (points_of base marks) all)) (points_marked base marks wide p)

pub chosen_exact : (words : List ℕ) (base : ℕ) (asked : List Point) (marks : List ℕ) (ps : List Point) → length marks ≡ length words →
    ((k r : ℕ) → is_marked marks k r ≡ (begun_before (said_by words) base (length words) k r && list_any (is_at base k r) asked)) → ((p : Point) → Contains ps p ↔ IsMarkedPoint base marks p) →
    (p : Point) → Contains ps p ↔ (Contains asked p × IsWindowPoint words base p.pc p.reg)
chosen_exact words base asked marks ps len marked listed p =
    let exact = marked_exact words base asked marks len marked p in
    (λ c. exact.0 ((listed p).0 c), λ h. (listed p).1 (exact.1 h))

-- a list of the marked points, where the marks are those of windows, is a list of the window points
pub windows_exact : (words : List ℕ) (base : ℕ) (marks : List ℕ) (ps : List Point) → length marks ≡ length words →
    ((k r : ℕ) → is_marked marks k r ≡ begun_before (said_by words) base (length words) k r) → ((p : Point) → Contains ps p ↔ IsMarkedPoint base marks p) →
    (p : Point) → Contains ps p ↔ IsWindowPoint words base p.pc p.reg
windows_exact words base marks ps len marked listed p = (λ c. there ((listed p).0 c), λ w. (listed p).1 (back (window_found words base p.pc p.reg w)))
  where
    there : IsMarkedPoint base marks p → IsWindowPoint words base p.pc p.reg
    there (k, within, at, set) =
        let P : ℕ → Type 0 = λ a. IsWindowPoint words base a p.reg in
        subst P (sym at) (window_marked words base k p.reg (length words) (omega arith) (sym (marked k p.reg) ∙ set))

    back : (k : ℕ) × (p.pc ≡ base + 4 * k) × (k < length words) × (begun_before (said_by words) base (length words) k p.reg ≡ true) → IsMarkedPoint base marks p
    back (k, at, within, begun) = (k, omega arith, at, marked k p.reg ∙ begun)
