-- One sequence after another, and lists of words that compute.
use Rattle.std.proofs.Common.{◌≡◌, ℕ, ◌+◌, ◌*◌, ◌<◌, ◌==◌, inl, inr, Bool, true, false, cond, List, [], ◌∷◌, ◌++◌, length, Option, Some, None, refl, sym, ◌∙◌, ap, subst, arith, length-append}
use Rattle.std.specs.Prelude.{◌&&◌, ◌||◌}
use Rattle.std.specs.List.{list_all}
use Rattle.std.proofs.lemmas.Bool.{and_parts}
use Rattle.std.proofs.lemmas.Bool.Decides.{nat_tests}
use Rattle.rv_inst.specs.declared.instruction.Form.{Form}
use Rattle.rv_inst.specs.declared.table.Group.{Group}
use Rattle.rv_inst.specs.declared.table.Group.TheVariants.{Constants, Addresses, Jumps, RegisterJumps, Branches, Loads, Stores, Immediates, Registers, Calls}
use Rattle.rv_inst.specs.Forms.{kind_of, operands_of}
use Rattle.rv_inst.specs.Groups.{group_of}
use Rattle.rv_model.specs.Operations.{bits64, operation}
use Rattle.rv_flips.specs.Cells.{Tag, Sure, One, Two, Three, Plain, Code, Leaf, Cell, Has, SaysLess}
use Rattle.rv_flips.specs.Assertion.{after_write}
use Rattle.rv_flips.specs.Computing.{IsUncoded, Keeps, KeepsOperands}
use Rattle.rv_flips.specs.Moves.{Covered}
use Rattle.rv_flips.proofs.CellLemmas.{says_free}
use Rattle.rv_flips.proofs.KnownRegisters.{covered}
use Rattle.flip_words.specs.Placed.{WindowPoints, Excepted, Carries}
use Rattle.flip_words.specs.Words.{only_computes, slot_address}
use Rattle.flip_words.proofs.CarryLemmas.{joined, carries_none, carries_less}
use Rattle.flip_words.proofs.LessLemmas.{says_again, knows_same, knows_regs}
use Rattle.flip_words.proofs.ComputeLaws.{compute_carries, group_carries}
use Rattle.flip_words.proofs.SlotLaws.{anything_carries}
use Rattle.flip_frames.specs.Views.{Stage, View, IsView, IsVersion, Runs, is_scratch, version, view_cell, at_address, with_scratch, no_values, next_version}
use Rattle.flip_frames.specs.Computing.{operand_in, of_both, computed_by, computed, effect_of, is_operand, is_pure}
use Rattle.flip_frames.proofs.ViewLemmas.{scratch_above, view_cell-zero, view_cell-scratch, sures_view, scratch_less, scratch_kept}

-- outside the window points, since nothing is kept for sure
pub covered_view : (words : List ℕ) (v : View) (p : ℕ) → IsView v → Covered (Excepted WindowPoints words) (at_address v p)
covered_view words v p is = covered (Excepted WindowPoints words) (at_address v p) [] (sures_view v is) tt

pub runs_then : {words : List ℕ} {xs ys : List Form} {u v w : View} → Runs words xs u v → Runs words ys v w → Runs words (xs ++ ys) u w
runs_then {words = words} {xs = xs} {ys = ys} {u = u} {v = v} {w = w} one two =
    record {
      carries = λ is p.
          let there : p + 4 * length xs + 4 * length ys ≡ p + 4 * length (xs ++ ys) = omega (arith, length-append xs ys) in
          let P : ℕ → Type 0 = λ q. Carries words (Excepted WindowPoints words) (xs ++ ys) (at_address u p) (at_address w q) in
          subst P there (joined (one.carries is p) (two.carries (one.kept is) (p + 4 * length xs)));
      kept = λ is. two.kept (one.kept is);
    }

pub runs_none : (words : List ℕ) (v : View) → Runs words [] v v
runs_none words v =
    record {
      carries = λ is p.
          let there : p ≡ p + 4 * 0 = omega arith in
          let P : ℕ → Type 0 = λ q. Carries words (Excepted WindowPoints words) [] (at_address v p) (at_address v q) in
          subst P there (carries_none words (Excepted WindowPoints words) (at_address v p));
      kept = λ is. is;
    }

pub version_uncoded : (t : Tag) → IsVersion t → IsUncoded t
version_uncoded One h = tt
version_uncoded Two h = tt
version_uncoded Three h = tt
version_uncoded Plain h = tt
version_uncoded Sure h = tt
version_uncoded Code h = absurd h
version_uncoded (Leaf first more) h = absurd h

some_is : (v w : ℕ) → ◌≡◌ {A = Option ℕ} (Some v) (Some w) → v ≡ w
some_is v w e = cc

-- an operand whose value is known is kept with the view's tag, or is x0
keeps_operand : (v : View) (r x : ℕ) → is_operand r ≡ true → operand_in v.file r ≡ Some x → Keeps (view_cell v.stage v.tag v.file) v.tag r x
keeps_operand v r x operand e = by_zero (r == 0) refl
  where
    by_zero : (b : Bool) → (r == 0) ≡ b → Keeps (view_cell v.stage v.tag v.file) v.tag r x
    by_zero true z =
        let none : r ≡ 0 = grind (arith, nat_tests) in
        let value : operand_in v.file r ≡ Some 0 = rw z refl in
        let is : 0 ≡ x = some_is 0 x (sym value ∙ e) in
        inr (ap (view_cell v.stage v.tag v.file) none ∙ view_cell-zero v.stage v.tag v.file ∙ ap (Has Sure) is)
    by_zero false z =
        let scratch : is_scratch r ≡ true = ap (λ b. b || is_scratch r) (sym z) ∙ operand in
        let value : operand_in v.file r ≡ v.file r = rw z refl in
        inl (view_cell-scratch v.stage v.tag v.file r scratch ∙ ap (version v.tag) (sym value ∙ e))

-- the parts of the test of a word that computes
pub record PureParts (form : Form) : Type 0 where
  pub only : only_computes form ≡ true
  pub rd : is_scratch (operands_of form).rd ≡ true
  pub rs1 : is_operand (operands_of form).rs1 ≡ true
  pub rs2 : is_operand (operands_of form).rs2 ≡ true

pure_parts : (form : Form) → is_pure form ≡ true → PureParts form
pure_parts form e =
    let a = and_parts (only_computes form) (is_scratch (operands_of form).rd && (is_operand (operands_of form).rs1 && is_operand (operands_of form).rs2)) e in
    let b = and_parts (is_scratch (operands_of form).rd) (is_operand (operands_of form).rs1 && is_operand (operands_of form).rs2) a.1 in
    let c = and_parts (is_operand (operands_of form).rs1) (is_operand (operands_of form).rs2) b.1 in
    record { only = a.0; rd = b.0; rs1 = c.0; rs2 = c.1 }

-- one word that computes
pub word_runs : (words : List ℕ) (form : Form) (v : View) → is_pure form ≡ true → Runs words (form ∷ []) v (with_scratch v (operands_of form).rd (computed form v.file))
word_runs words form v pure =
    record {
      carries = λ is p.
          let parts = pure_parts form pure in
          carries_less (knows_same (at_address v p)) (by_group is p (group_of (kind_of form)) refl)
          (scratch_less v (operands_of form).rd (computed form v.file) (version v.tag (computed form v.file)) (p + 4) (p + 4) parts.rd (says_again (version v.tag (computed form v.file))) refl);
      kept = scratch_kept v (operands_of form).rd (computed form v.file);
    }
  where
    gives : View → ℕ → Option ℕ → Type 0
    gives v p o = Carries words (Excepted WindowPoints words) (form ∷ []) (at_address v p) (after_write (at_address v p) (operands_of form).rd (version v.tag o) (p + 4))

    rd_above : 0 < (operands_of form).rd
    rd_above = let above = scratch_above (operands_of form).rd ((pure_parts form pure).rd) in omega arith

    nothing : IsView v → (p : ℕ) → gives v p None
    nothing is p = anything_carries words (Excepted WindowPoints words) (at_address v p) form ((pure_parts form pure).only) rd_above (covered_view words v p is)

    known : IsView v → (p x y : ℕ) → KeepsOperands (group_of (kind_of form)) (operands_of form) (view_cell v.stage v.tag v.file) v.tag x y → gives v p (Some (operation (kind_of form) x y))
    known is p x y keeps = compute_carries words (Excepted WindowPoints words) (at_address v p) form v.tag x y keeps (version_uncoded v.tag is.tag) rd_above (covered_view words v p is)

    immediate : IsView v → (p : ℕ) → group_of (kind_of form) ≡ Immediates → (a : Option ℕ) → operand_in v.file (operands_of form).rs1 ≡ a → gives v p (of_both (operation (kind_of form)) a (Some (bits64 (operands_of form).imm)))
    immediate is p e None f = nothing is p
    immediate is p e (Some x) f =
        let P : Group → Type 0 = λ g. KeepsOperands g (operands_of form) (view_cell v.stage v.tag v.file) v.tag x (bits64 (operands_of form).imm) in
        known is p x (bits64 (operands_of form).imm) (subst P (sym e) (keeps_operand v (operands_of form).rs1 x ((pure_parts form pure).rs1) f, refl))

    registers : IsView v → (p : ℕ) → group_of (kind_of form) ≡ Registers → (a b : Option ℕ) → operand_in v.file (operands_of form).rs1 ≡ a → operand_in v.file (operands_of form).rs2 ≡ b → gives v p (of_both (operation (kind_of form)) a b)
    registers is p e None b f h = nothing is p
    registers is p e (Some x) None f h = nothing is p
    registers is p e (Some x) (Some y) f h =
        let P : Group → Type 0 = λ g. KeepsOperands g (operands_of form) (view_cell v.stage v.tag v.file) v.tag x y in
        known is p x y (subst P (sym e) (keeps_operand v (operands_of form).rs1 x ((pure_parts form pure).rs1) f, keeps_operand v (operands_of form).rs2 y ((pure_parts form pure).rs2) h))

    by_group : IsView v → (p : ℕ) (g : Group) → group_of (kind_of form) ≡ g → gives v p (computed_by g (kind_of form) (operands_of form) v.file)
    by_group is p Constants e = group_carries words (Excepted WindowPoints words) (at_address v p) form v.tag e rd_above (covered_view words v p is)
    by_group is p Immediates e = immediate is p e (operand_in v.file (operands_of form).rs1) refl
    by_group is p Registers e = registers is p e (operand_in v.file (operands_of form).rs1) (operand_in v.file (operands_of form).rs2) refl refl
    by_group is p Addresses e = nothing is p
    by_group is p Jumps e = nothing is p
    by_group is p RegisterJumps e = nothing is p
    by_group is p Branches e = nothing is p
    by_group is p Loads e = nothing is p
    by_group is p Stores e = nothing is p
    by_group is p Calls e = nothing is p

pub pure_runs : (words : List ℕ) (code : List Form) (v : View) → list_all is_pure code ≡ true → Runs words code v (record v { file = effect_of code v.file })
pure_runs words [] v e = runs_none words v
pure_runs words (i ∷ is) v e =
    let both = and_parts (is_pure i) (list_all is_pure is) e in
    runs_then (word_runs words i v both.0) (pure_runs words is (with_scratch v (operands_of i).rd (computed i v.file)) both.1)

says_by : (b : Bool) (one two less lesser : Cell) → SaysLess one less → SaysLess two lesser → SaysLess (cond b one two) (cond b less lesser)
says_by true one two less lesser h k = h
says_by false one two less lesser h k = k

-- where the versions say less, the views do
pub cells_say : (g : Stage) (t t' : Tag) (f f' : ℕ → Option ℕ) (q : ℕ) → SaysLess (version t (f q)) (version t' (f' q)) → SaysLess (view_cell g t f q) (view_cell g t' f' q)
unfolding view_cell
cells_say g t t' f f' q says =
    let sp = slot_address g.base in
    let place = g.places q in
    let s1 = says_by (is_scratch q) (version t (f q)) place (version t' (f' q)) place says (says_again place) in
    let a1 = cond (is_scratch q) (version t (f q)) place in
    let b1 = cond (is_scratch q) (version t' (f' q)) place in
    let s2 = says_by (q == 4) (Has Three sp) a1 (Has Three sp) b1 (says_again (Has Three sp)) s1 in
    let a2 = cond (q == 4) (Has Three sp) a1 in
    let b2 = cond (q == 4) (Has Three sp) b1 in
    let s3 = says_by (q == 3) (Has Two sp) a2 (Has Two sp) b2 (says_again (Has Two sp)) s2 in
    let a3 = cond (q == 3) (Has Two sp) a2 in
    let b3 = cond (q == 3) (Has Two sp) b2 in
    let s4 = says_by (q == 2) (Has One sp) a3 (Has One sp) b3 (says_again (Has One sp)) s3 in
    says_by (q == 0) (Has Sure 0) (cond (q == 2) (Has One sp) a3) (Has Sure 0) (cond (q == 2) (Has One sp) b3) (says_again (Has Sure 0)) s4

-- a sequence whose view is known less afterwards, of scratch registers
pub runs_less : {words : List ℕ} {code : List Form} {v w : View} (tag : Tag) (file : ℕ → Option ℕ) → IsVersion tag → ((q : ℕ) → SaysLess (version w.tag (w.file q)) (version tag (file q))) → Runs words code v w → Runs words code v (record w { tag = tag; file = file })
runs_less {words = words} {code = code} {v = v} {w = w} tag file version says one =
    record {
      carries = λ is p.
          carries_less (knows_same (at_address v p)) (one.carries is p)
          (knows_regs (at_address w p) (p + 4 * length code) (p + 4 * length code) (view_cell w.stage w.tag w.file) (view_cell w.stage tag file) refl (λ q. cells_say w.stage w.tag tag w.file file q (says q)));
      kept = λ is. let still = one.kept is in record { tag = version; places = still.places; size = still.size; base = still.base };
    }

-- what is known of scratch registers is forgotten
pub turn_runs : (words : List ℕ) (v : View) (tag : Tag) → IsVersion tag → Runs words [] v (next_version v tag)
turn_runs words v tag is = runs_less tag no_values is (λ q. says_free (version v.tag (v.file q))) (runs_none words v)
