-- What a view says of each register.
use Rattle.std.proofs.Common.{◌≡◌, ◌≢◌, ℕ, ◌<◌, ◌==◌, Bool, true, false, cond, [], Option, Some, None, refl, sym, ◌∙◌, ap, arith}
use Rattle.std.proofs.lemmas.Bool.Decides.{nat_tests}
use Rattle.rv_flips.specs.Cells.{Tag, Sure, One, Two, Three, Plain, Code, Leaf, Cell, Has, SaysLess}
use Rattle.rv_flips.specs.Assertion.{KnowsLess, with_register, after_write}
use Rattle.rv_flips.specs.Known.{Sures}
use Rattle.rv_flips.proofs.CellLemmas.{same_test, other_test, says_same}
use Rattle.flip_words.specs.Words.{slot_address}
use Rattle.flip_words.proofs.LessLemmas.{knows_regs, written_less}
use Rattle.flip_frames.specs.Views.{Stage, View, IsView, IsVersion, is_scratch, version, view_cell, at_address, with_value, with_scratch}

-- a scratch register is none of x0 to x4
pub scratch_above : (q : ℕ) → is_scratch q ≡ true → 4 < q
scratch_above q e = grind (arith, nat_tests)

pub view_cell-zero : (g : Stage) (t : Tag) (f : ℕ → Option ℕ) → view_cell g t f 0 ≡ Has Sure 0
unfolding view_cell
view_cell-zero g t f = refl

pub view_cell-two : (g : Stage) (t : Tag) (f : ℕ → Option ℕ) → view_cell g t f 2 ≡ Has One (slot_address g.base)
unfolding view_cell
view_cell-two g t f = refl

pub view_cell-three : (g : Stage) (t : Tag) (f : ℕ → Option ℕ) → view_cell g t f 3 ≡ Has Two (slot_address g.base)
unfolding view_cell
view_cell-three g t f = refl

pub view_cell-four : (g : Stage) (t : Tag) (f : ℕ → Option ℕ) → view_cell g t f 4 ≡ Has Three (slot_address g.base)
unfolding view_cell
view_cell-four g t f = refl

pub view_cell-scratch : (g : Stage) (t : Tag) (f : ℕ → Option ℕ) (q : ℕ) → is_scratch q ≡ true → view_cell g t f q ≡ version t (f q)
unfolding view_cell
view_cell-scratch g t f q e =
    let above : 4 < q = scratch_above q e in
    let e0 : (q == 0) ≡ false = grind (arith, nat_tests) in
    let e2 : (q == 2) ≡ false = grind (arith, nat_tests) in
    let e3 : (q == 3) ≡ false = grind (arith, nat_tests) in
    let e4 : (q == 4) ≡ false = grind (arith, nat_tests) in
    rw (e0, e2, e3, e4, e) refl

-- a register's cell depends on its own value alone
pub view_cell-file : (g : Stage) (t : Tag) (f f' : ℕ → Option ℕ) (q : ℕ) → f q ≡ f' q → view_cell g t f q ≡ view_cell g t f' q
unfolding view_cell
view_cell-file g t f f' q e =
    ap (λ (o : Option ℕ). cond (q == 0) (Has Sure 0) (cond (q == 2) (Has One (slot_address g.base)) (cond (q == 3) (Has Two (slot_address g.base)) (cond (q == 4) (Has Three (slot_address g.base)) (cond (is_scratch q) (version t o) (g.places q)))))) e

abbrev pub NotSure : Cell → Type 0
NotSure cell = (w : ℕ) → cell ≡ Has Sure w → ⊥

not_sure_by : (b : Bool) (one two : Cell) → NotSure one → NotSure two → NotSure (cond b one two)
not_sure_by true one two h k = h
not_sure_by false one two h k = k

pub not_sure_version : (t : Tag) (o : Option ℕ) → IsVersion t → NotSure (version t o)
not_sure_version t None h w e = cc
not_sure_version One (Some v) h w e = cc
not_sure_version Two (Some v) h w e = cc
not_sure_version Three (Some v) h w e = cc
not_sure_version Plain (Some v) h w e = cc
not_sure_version Sure (Some v) h w e = absurd h
not_sure_version Code (Some v) h w e = absurd h
not_sure_version (Leaf first more) (Some v) h w e = absurd h

not_sure_copy : (v : ℕ) → NotSure (Has One v) × NotSure (Has Two v) × NotSure (Has Three v)
not_sure_copy v = (λ w e. cc, λ w e. cc, λ w e. cc)

-- of the registers but x0 none is kept for sure
pub sures_view : (v : View) → IsView v → Sures (view_cell v.stage v.tag v.file) []
unfolding view_cell
sures_view v is q w e nonzero =
    let e0 : (q == 0) ≡ false = grind (arith, nat_tests) in
    let sp = slot_address v.stage.base in
    let copies = not_sure_copy (slot_address v.stage.base) in
    let rest = cond (is_scratch q) (version v.tag (v.file q)) (v.stage.places q) in
    let scratch : NotSure (cond (is_scratch q) (version v.tag (v.file q)) (v.stage.places q)) =
    not_sure_by (is_scratch q) (version v.tag (v.file q)) (v.stage.places q) (not_sure_version v.tag (v.file q) is.tag) (λ w e. is.places q w e) in
    let four : NotSure (cond (q == 4) (Has Three sp) rest) = not_sure_by (q == 4) (Has Three sp) rest copies.2 scratch in
    let three : NotSure (cond (q == 3) (Has Two sp) (cond (q == 4) (Has Three sp) rest)) = not_sure_by (q == 3) (Has Two sp) (cond (q == 4) (Has Three sp) rest) copies.1 four in
    let two : NotSure (cond (q == 2) (Has One sp) (cond (q == 3) (Has Two sp) (cond (q == 4) (Has Three sp) rest))) =
    not_sure_by (q == 2) (Has One sp) (cond (q == 3) (Has Two sp) (cond (q == 4) (Has Three sp) rest)) copies.0 three in
    absurd (two w (ap (λ b. cond b (Has Sure 0) (cond (q == 2) (Has One sp) (cond (q == 3) (Has Two sp) (cond (q == 4) (Has Three sp) rest)))) (sym e0) ∙ e))

pub with_value-same : (f : ℕ → Option ℕ) (r : ℕ) (o : Option ℕ) → with_value f r o r ≡ o
unfolding with_value
with_value-same f r o = ap (λ b. cond b o (f r)) (same_test r)

pub with_value-other : (f : ℕ → Option ℕ) (r q : ℕ) (o : Option ℕ) → q ≢ r → with_value f r o q ≡ f q
unfolding with_value
with_value-other f r q o ne = ap (λ b. cond b o (f q)) (other_test q r ne)

-- a scratch register that is written
pub scratch_written : (v : View) (r : ℕ) (o : Option ℕ) (cell : Cell) → is_scratch r ≡ true → SaysLess cell (version v.tag o) → (q : ℕ) → SaysLess (with_register (view_cell v.stage v.tag v.file) r cell q) (view_cell v.stage v.tag (with_value v.file r o) q)
scratch_written v r o cell scratch says =
    let own : view_cell v.stage v.tag (with_value v.file r o) r ≡ version v.tag o =
    view_cell-scratch v.stage v.tag (with_value v.file r o) r scratch ∙ ap (version v.tag) (with_value-same v.file r o) in
    written_less (view_cell v.stage v.tag v.file) (view_cell v.stage v.tag (with_value v.file r o)) r cell (rw own says)
    (λ q ne. says_same (view_cell v.stage v.tag v.file q) (view_cell v.stage v.tag (with_value v.file r o) q) (view_cell-file v.stage v.tag v.file (with_value v.file r o) q (sym (with_value-other v.file r q o ne))))

pub scratch_less : (v : View) (r : ℕ) (o : Option ℕ) (cell : Cell) (p q : ℕ) → is_scratch r ≡ true → SaysLess cell (version v.tag o) → q ≡ p → KnowsLess (after_write (at_address v p) r cell p) (at_address (with_scratch v r o) q)
scratch_less v r o cell p q scratch says at =
    knows_regs (at_address v p) p q (with_register (view_cell v.stage v.tag v.file) r cell) (view_cell v.stage v.tag (with_value v.file r o)) at (scratch_written v r o cell scratch says)

pub scratch_kept : (v : View) (r : ℕ) (o : Option ℕ) → IsView v → IsView (with_scratch v r o)
scratch_kept v r o is = record { tag = is.tag; places = is.places; size = is.size; base = is.base }
