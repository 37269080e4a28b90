-- One version of an operation by one vote, and three of them in a row.
use Rattle.std.proofs.Common.{◌≡◌, ◌≢◌, ℕ, ◌+◌, ◌<◌, ◌≤◌, ◌==◌, Bool, true, false, List, [], ◌∷◌, ◌++◌, length, cond, Option, None, Some, refl, sym, ◌∙◌, ap, subst, arith, length-append, append_assoc, lit≤}
use Rattle.std.specs.List.{list_all}
use Rattle.std.proofs.lemmas.Bool.{and_parts, and_from}
use Rattle.std.proofs.lemmas.Bool.Decides.{nat_tests}
use Rattle.rv_inst.specs.declared.instruction.Form.{Form}
use Rattle.rv_inst.specs.declared.instruction.Form.TheVariants.{ADDW}
use Rattle.rv_inst.specs.declared.table.Format.{Format}
use Rattle.rv_inst.specs.declared.table.Format.TheVariants.{Upper, Jump, Immediate, Branch, Store, Register, Shift, ShiftWord, System}
use Rattle.rv_inst.specs.declared.table.Operands.{Operands}
use Rattle.rv_inst.specs.Forms.{kind_of, operands_of}
use Rattle.rv_inst.specs.Registers.{reads, writes, sources, target}
use Rattle.rv_inst.specs.Table.{row}
use Rattle.rv_model.specs.Operations.{plus32}
use Rattle.rv_flips.specs.Cells.{Tag, One, Two, Three}
use Rattle.rv_flips.proofs.CellLemmas.{says_free}
use Rattle.flip_frames.specs.Views.{Stage, View, IsVersion, Runs, is_scratch, version, with_value, no_values}
use Rattle.flip_frames.specs.Computing.{is_operand, is_pure, effect_of}
use Rattle.flip_frames.specs.Fetching.{Triple}
use Rattle.flip_frames.specs.Slots.{vote_words, is_near, with_slot}
use Rattle.flip_frames.proofs.ViewLemmas.{scratch_above, with_value-other}
use Rattle.flip_frames.proofs.RunLaws.{runs_then, runs_none, runs_less}
use Rattle.flip_versions.specs.Operations.{resting, IsSlot, stored, Leaves, IsApart}
use Rattle.flip_versions.proofs.VersionLaws.{slot_after}
use Rattle.flip_guards.specs.Sources.{Upper, Source, InSlot, InRegister, Constant, bring}
use Rattle.flip_guards.specs.Fetching.{in_slots}
use Rattle.flip_guards.proofs.FetchLaws.{triples_give}
use Rattle.flip_copies.specs.Copies.{IsReadInTime}
use Rattle.flip_copies.proofs.CopyLaws.{GivesTurn, gives_stored}
use Rattle.flip_operations.specs.Operations.{version_of_two, version_of_one}
use Rattle.flip_operations.proofs.OperationLaws.{brings_run, two_version, one_version}
use Rattle.flip_votes.specs.Votes.{RunsVoted, lets_stand, ends_in_access, IsServed, voted_store}
use Rattle.flip_votes.specs.Versions.{is_near_slot, slot_load, late, near_two, near_one, voted_two, voted_one, TwoAreVoted, OneIsVoted, AdditionsAreVoted, AdditionsAreShort}
use Rattle.flip_votes.proofs.VotedRuns.{voted_then, voted_none, load_voted, store_voted, pure_parts, pure_voted}
use Rattle.flip_votes.proofs.VoteWindows.{scratch_apart, served_runs}

-- ---- the vote stands all along
target_none : (f : Format) (o : Operands) → (2 == o.rd) ≡ false → target f o 2 ≡ false
target_none Upper o e = e
target_none Jump o e = e
target_none Immediate o e = e
target_none Branch o e = refl
target_none Store o e = refl
target_none Register o e = e
target_none Shift o e = e
target_none ShiftWord o e = e
target_none System o e = refl

sources_none : (f : Format) (o : Operands) → (2 == o.rs1) ≡ false → (2 == o.rs2) ≡ false → sources f o 2 ≡ false
sources_none Upper o e h = refl
sources_none Jump o e h = refl
sources_none Immediate o e h = e
sources_none Branch o e h = rw (e, h) refl
sources_none Store o e h = rw (e, h) refl
sources_none Register o e h = rw (e, h) refl
sources_none Shift o e h = e
sources_none ShiftWord o e h = e
sources_none System o e h = refl

operand_apart : (r : ℕ) → is_operand r ≡ true → (2 == r) ≡ false
operand_apart r e = grind (arith, nat_tests)

pure_stands : (i : Form) → is_pure i ≡ true → lets_stand i ≡ true
pure_stands i pure =
    let parts = pure_parts i pure in
    let o = operands_of i in
    let read : reads i 2 ≡ false = sources_none ((row (kind_of i)).format) (operands_of i) (operand_apart o.rs1 parts.rs1) (operand_apart o.rs2 parts.rs2) in
    let written : writes i 2 ≡ false = target_none ((row (kind_of i)).format) (operands_of i) (scratch_apart o.rd parts.rd) in
    rw (parts.only, read, written) refl

pub all_stand : (code : List Form) → list_all is_pure code ≡ true → list_all lets_stand code ≡ true
all_stand [] pure = refl
all_stand (i ∷ is) pure =
    let both = and_parts (is_pure i) (list_all is_pure is) pure in
    and_from (lets_stand i) (list_all lets_stand is) (pure_stands i both.0) (all_stand is both.1)

pub all_both : (xs ys : List Form) → list_all lets_stand xs ≡ true → list_all lets_stand ys ≡ true → list_all lets_stand (xs ++ ys) ≡ true
all_both [] ys h k = k
all_both (x ∷ xs) ys h k =
    let both = and_parts (lets_stand x) (list_all lets_stand xs) h in
    and_from (lets_stand x) (list_all lets_stand (xs ++ ys)) both.0 (all_both xs ys both.1 k)

-- what ends in an access does so after other words
pub ends_after : (xs ys : List Form) → ends_in_access ys ≡ true → ends_in_access (xs ++ ys) ≡ true
ends_after [] ys h = h
ends_after (x ∷ []) [] h = absurd (cc)
ends_after (x ∷ []) (y ∷ ys) h = h
ends_after (x ∷ x' ∷ xs) ys h = ends_after (x' ∷ xs) ys h

-- ---- one version
-- the code computes while the vote stands, and x5 goes to the slot; then the turn is the next version's
store_turns : {words : List ℕ} {front : List Form} {v : View} (code : List Form) (g : Stage) (t t' : Tag) (d : ℕ) (file : ℕ → Option ℕ) (o : Option ℕ) → IsVersion t' → IsSlot g d → list_all is_pure code ≡ true →
    effect_of code file 5 ≡ o → list_all lets_stand front ≡ true → length front + length code ≤ 30 → RunsVoted words front v (record { stage = g; tag = t; file = file }) →
    Runs words (vote_words ++ (front ++ (code ++ voted_store 5 d))) v (resting (stored g d t o) t')
store_turns {words = words} {front = front} {v = v} code g t t' d file o turn slot pure is stands few one =
    let w : View = record { stage = g; tag = t; file = effect_of code file } in
    let all = voted_then one (voted_then (pure_voted words code (record { stage = g; tag = t; file = file }) pure) (store_voted words w 5 d refl slot.within)) in
    let tail = code ++ voted_store 5 d in
    let size : length (front ++ (code ++ voted_store 5 d)) ≤ 31 = omega (arith, length-append front (code ++ voted_store 5 d), length-append code (voted_store 5 d)) in
    let served : IsServed (front ++ (code ++ voted_store 5 d)) =
    record {
      short = size;
      stands = all_both front tail stands (all_both code (voted_store 5 d) (all_stand code pure) refl);
      last = ends_after front tail (ends_after code (voted_store 5 d) refl);
    } in
    let P : Option ℕ → Type 0 = λ x. Runs words (vote_words ++ (front ++ (code ++ voted_store 5 d))) v (resting (stored g d t x) t') in
    subst P is (runs_less t' no_values turn (λ q. says_free (version t (effect_of code file q))) (served_runs words (front ++ tail) v (with_slot w d (effect_of code file 5)) served all))

-- x28 and x29 are used up, of which nothing was known
none_used : (f : ℕ → Option ℕ) (q : ℕ) → f 28 ≡ None → f 29 ≡ None → with_value (with_value f 28 None) 29 None q ≡ f q
unfolding with_value
none_used f q e28 e29 = by (q == 29) (q == 28) refl refl
  where
    by : (b29 b28 : Bool) → (q == 29) ≡ b29 → (q == 28) ≡ b28 → cond b29 None (cond b28 None (f q)) ≡ f q
    by true b28 e h = let same : 29 ≡ q = grind (arith, nat_tests) in subst (λ k. None ≡ f k) same (sym e29)
    by false true e h = let same : 28 ≡ q = grind (arith, nat_tests) in subst (λ k. None ≡ f k) same (sym e28)
    by false false e h = refl

-- a version comes in before the vote, unless it comes by it
early_runs : (words : List ℕ) (v : View) (r : ℕ) (s : Source) (o : Option ℕ) (b : Bool) → is_scratch r ≡ true → v.file 28 ≡ None → v.file 29 ≡ None → IsVersion v.tag → GivesTurn v.stage s v.tag o
    → Runs words (cond b [] (bring r s)) v (record v { file = cond b v.file (with_value v.file r o) })
early_runs words v r s o true scratch e28 e29 turn gives = runs_none words v
early_runs words v r s o false scratch e28 e29 turn gives =
    let above : 4 < r = scratch_above r scratch in
    let P : (ℕ → Option ℕ) → Type 0 = λ file. Runs words (bring r s) v (record v { file = with_value file r o }) in
    let unused : with_value (with_value v.file 28 None) 29 None ≡ v.file = λ i q. none_used v.file q e28 e29 i in
    subst P unused (brings_run words v r s o above scratch turn gives)

-- and after it, where it does
late_voted : (words : List ℕ) (v : View) (r : ℕ) (s : Source) (o : Option ℕ) (b : Bool) → is_near_slot s ≡ b → is_scratch r ≡ true → GivesTurn v.stage s v.tag o
    → RunsVoted words (cond b (slot_load r s) []) v (record v { file = cond b (with_value v.file r o) v.file })
late_voted words v r s o false near scratch gives = voted_none words v
late_voted words v r (InSlot n) o true near scratch gives = load_voted words v r n o scratch gives.0.within gives.1
late_voted words v r (InRegister k) o true near scratch gives = absurd (cc)
late_voted words v r (Constant parts) o true near scratch gives = absurd (cc)

late_stands : (r : ℕ) (s : Source) (b : Bool) → is_scratch r ≡ true → list_all lets_stand (cond b (slot_load r s) []) ≡ true
late_stands r s false scratch = refl
late_stands r (InSlot n) true scratch = rw scratch refl
late_stands r (InRegister k) true scratch = refl
late_stands r (Constant parts) true scratch = refl

late_few : (r : ℕ) (s : Source) (b : Bool) → length (cond b (slot_load r s) []) ≤ 1
late_few r s false = lit≤ tt
late_few r (InSlot n) true = lit≤ tt
late_few r (InRegister k) true = lit≤ tt
late_few r (Constant parts) true = lit≤ tt

-- the values that come in before the vote, and all
abbrev early_file : Bool → Bool → Option ℕ → Option ℕ → ℕ → Option ℕ
early_file bx by o1 o2 = cond by (cond bx no_values (with_value no_values 5 o1)) (with_value (cond bx no_values (with_value no_values 5 o1)) 6 o2)

abbrev late_file : Bool → Bool → Option ℕ → Option ℕ → (ℕ → Option ℕ) → ℕ → Option ℕ
late_file bx by o1 o2 f = cond by (with_value (cond bx (with_value f 5 o1) f) 6 o2) (cond bx (with_value f 5 o1) f)

-- in whichever order they come in
swapped : (b6 b5 : Bool) (o1 o2 : Option ℕ) → (b6 ≡ true → b5 ≡ false) → cond b5 o1 (cond b6 o2 None) ≡ cond b6 o2 (cond b5 o1 None)
swapped true b5 o1 o2 apart = rw (apart refl) refl
swapped false b5 o1 o2 apart = refl

same_values : (bx by : Bool) (o1 o2 : Option ℕ) (q : ℕ) → late_file bx by o1 o2 (early_file bx by o1 o2) q ≡ with_value (with_value no_values 5 o1) 6 o2 q
unfolding with_value
same_values true true o1 o2 q = refl
same_values true false o1 o2 q = swapped (q == 6) (q == 5) o1 o2 (λ e. grind (arith, nat_tests))
same_values false true o1 o2 q = refl
same_values false false o1 o2 q = refl

-- x28 and x29 aren't among them
five_apart : (b : Bool) (o : Option ℕ) (q : ℕ) → q ≢ 5 → cond b no_values (with_value no_values 5 o) q ≡ None
five_apart true o q apart = refl
five_apart false o q apart = with_value-other no_values 5 q o apart

near_version : (words : List ℕ) (code : List Form) (g : Stage) (t t' : Tag) (x y : Source) (d : ℕ) (o1 o2 o : Option ℕ) → list_all is_pure code ≡ true → length code ≤ 28 → Leaves code o1 o2 o → IsVersion t → IsVersion t' →
    GivesTurn g x t o1 → GivesTurn g y t o2 → IsSlot g d → Runs words (near_two code x y d) (resting g t) (resting (stored g d t o) t')
near_version words code g t t' x y d o1 o2 o pure few leaves turn turn' gx gy sd =
    let bx = is_near_slot x in
    let by = is_near_slot y in
    let v = resting g t in
    let v1 : View = record { stage = g; tag = t; file = cond (is_near_slot x) no_values (with_value no_values 5 o1) } in
    let v2 : View = record { stage = g; tag = t; file = early_file (is_near_slot x) (is_near_slot y) o1 o2 } in
    let v3 : View = record { stage = g; tag = t; file = cond (is_near_slot x) (with_value v2.file 5 o1) v2.file } in
    let rest = code ++ voted_store 5 d in
    let e28 = five_apart bx o1 28 (omega arith) in
    let e29 = five_apart bx o1 29 (omega arith) in
    let size : length (late 5 x ++ late 6 y) + length code ≤ 30 = omega (arith, few, late_few 5 x (is_near_slot x), late_few 6 y (is_near_slot y), length-append (late 5 x) (late 6 y)) in
    let values : late_file (is_near_slot x) (is_near_slot y) o1 o2 (early_file (is_near_slot x) (is_near_slot y) o1 o2) ≡ with_value (with_value no_values 5 o1) 6 o2 = λ i q. same_values bx by o1 o2 q i in
    let value : effect_of code (late_file (is_near_slot x) (is_near_slot y) o1 o2 (early_file (is_near_slot x) (is_near_slot y) o1 o2)) 5 ≡ o = ap (λ (f : ℕ → Option ℕ). effect_of code f 5) values ∙ leaves in
    let loads = voted_then (late_voted words v2 5 x o1 bx refl refl gx) (late_voted words v3 6 y o2 by refl refl gy) in
    let tail = store_turns code g t t' d (late_file bx by o1 o2 (early_file bx by o1 o2)) o turn' sd pure value (all_both (late 5 x) (late 6 y) (late_stands 5 x bx refl) (late_stands 6 y by refl)) size loads in
    let P : List Form → Type 0 = λ zs. Runs words (vote_words ++ zs) (record { stage = g; tag = t; file = early_file (is_near_slot x) (is_near_slot y) o1 o2 }) (resting (stored g d t o) t') in
    runs_then (early_runs words v 5 x o1 bx refl refl refl turn gx)
    (runs_then (early_runs words v1 6 y o2 by refl e28 e29 turn gy) (subst P (append_assoc (late 5 x) (late 6 y) rest) tail))

two_voted_version : (words : List ℕ) (code : List Form) (g : Stage) (t t' : Tag) (x y : Source) (d : ℕ) (o1 o2 o : Option ℕ) → list_all is_pure code ≡ true → length code ≤ 28 → Leaves code o1 o2 o → IsVersion t → IsVersion t' →
    GivesTurn g x t o1 → GivesTurn g y t o2 → IsSlot g d → Runs words (voted_two code x y d) (resting g t) (resting (stored g d t o) t')
two_voted_version words code g t t' x y d o1 o2 o pure few leaves turn turn' gx gy sd = by (is_near d)
  where
    by : (b : Bool) → Runs words (cond b (near_two code x y d) (version_of_two code x y d)) (resting g t) (resting (stored g d t o) t')
    by true = near_version words code g t t' x y d o1 o2 o pure few leaves turn turn' gx gy sd
    by false = two_version words code g t t' x y d o1 o2 o pure leaves turn turn' gx gy sd

-- of one operand nothing is in x6
one_test : (b6 b5 : Bool) (o1 : Option ℕ) → (b6 ≡ true → b5 ≡ false) → cond b6 None (cond b5 o1 None) ≡ cond b5 o1 None
one_test true b5 o1 apart = rw (apart refl) refl
one_test false b5 o1 apart = refl

one_value : (o1 : Option ℕ) (q : ℕ) → with_value (with_value no_values 5 o1) 6 None q ≡ with_value no_values 5 o1 q
unfolding with_value
one_value o1 q = one_test (q == 6) (q == 5) o1 (λ e. grind (arith, nat_tests))

near_single : (words : List ℕ) (code : List Form) (g : Stage) (t t' : Tag) (x : Source) (d : ℕ) (o1 o : Option ℕ) → list_all is_pure code ≡ true → length code ≤ 28 → Leaves code o1 None o → IsVersion t → IsVersion t' →
    GivesTurn g x t o1 → IsSlot g d → Runs words (near_one code x d) (resting g t) (resting (stored g d t o) t')
near_single words code g t t' x d o1 o pure few leaves turn turn' gx sd = by (is_near_slot x) refl
  where
    same : with_value no_values 5 o1 ≡ with_value (with_value no_values 5 o1) 6 None
    same = λ i q. sym (one_value o1 q) i

    value : effect_of code (with_value no_values 5 o1) 5 ≡ o
    value = ap (λ (f : ℕ → Option ℕ). effect_of code f 5) same ∙ leaves

    tail : (b : Bool) (v : View) → RunsVoted words (cond b (slot_load 5 x) []) v (record { stage = g; tag = t; file = with_value no_values 5 o1 }) → Runs words (vote_words ++ (cond b (slot_load 5 x) [] ++ (code ++ voted_store 5 d))) v (resting (stored g d t o) t')
    tail b v loads = store_turns code g t t' d (with_value no_values 5 o1) o turn' sd pure value (late_stands 5 x b refl) (omega (arith, few, late_few 5 x b)) loads

    by : (b : Bool) → is_near_slot x ≡ b → Runs words (cond b [] (bring 5 x) ++ (vote_words ++ (cond b (slot_load 5 x) [] ++ (code ++ voted_store 5 d)))) (resting g t) (resting (stored g d t o) t')
    by true near = tail true (resting g t) (late_voted words (resting g t) 5 x o1 true near refl gx)
    by false near =
        let v : View = record { stage = g; tag = t; file = with_value no_values 5 o1 } in
        runs_then (early_runs words (resting g t) 5 x o1 false refl refl refl turn gx) (tail false v (voted_none words v))

one_voted_version : (words : List ℕ) (code : List Form) (g : Stage) (t t' : Tag) (x : Source) (d : ℕ) (o1 o : Option ℕ) → list_all is_pure code ≡ true → length code ≤ 28 → Leaves code o1 None o → IsVersion t → IsVersion t' →
    GivesTurn g x t o1 → IsSlot g d → Runs words (voted_one code x d) (resting g t) (resting (stored g d t o) t')
one_voted_version words code g t t' x d o1 o pure few leaves turn turn' gx sd = by (is_near d)
  where
    by : (b : Bool) → Runs words (cond b (near_one code x d) (version_of_one code x d)) (resting g t) (resting (stored g d t o) t')
    by true = near_single words code g t t' x d o1 o pure few leaves turn turn' gx sd
    by false = one_version words code g t t' x d o1 o pure leaves turn turn' gx sd

-- ---- all three
pub two_run : TwoAreVoted
two_run words code g x y d o1 o2 o pure few leaves gx gy slots tx ty =
    let g1 = stored g d.one One o in
    let g2 = stored g1 d.two Two o in
    runs_then (two_voted_version words code g One Two x.one y.one d.one o1 o2 o pure few leaves tt tt gx.one gy.one slots.one)
    (runs_then (two_voted_version words code g1 Two Three x.two y.two d.two o1 o2 o pure few leaves tt tt (gives_stored g d.one Two One o o1 x.two gx.two tx.two_one)
    (gives_stored g d.one Two One o o2 y.two gy.two ty.two_one) (slot_after g d.two d.one One o slots.two))
    (two_voted_version words code g2 Three One x.three y.three d.three o1 o2 o pure few leaves tt tt
    (gives_stored g1 d.two Three Two o o1 x.three (gives_stored g d.one Three One o o1 x.three gx.three tx.three_one) tx.three_two)
    (gives_stored g1 d.two Three Two o o2 y.three (gives_stored g d.one Three One o o2 y.three gy.three ty.three_one) ty.three_two)
    (slot_after g1 d.three d.two Two o (slot_after g d.three d.one One o slots.three))))

pub one_runs : OneIsVoted
one_runs words code g x d o1 o pure few leaves gx slots tx =
    let g1 = stored g d.one One o in
    let g2 = stored g1 d.two Two o in
    runs_then (one_voted_version words code g One Two x.one d.one o1 o pure few leaves tt tt gx.one slots.one)
    (runs_then (one_voted_version words code g1 Two Three x.two d.two o1 o pure few leaves tt tt (gives_stored g d.one Two One o o1 x.two gx.two tx.two_one)
    (slot_after g d.two d.one One o slots.two))
    (one_voted_version words code g2 Three One x.three d.three o1 o pure few leaves tt tt
    (gives_stored g1 d.two Three Two o o1 x.three (gives_stored g d.one Three One o o1 x.three gx.three tx.three_one) tx.three_two)
    (slot_after g1 d.three d.two Two o (slot_after g d.three d.one One o slots.three))))

-- ---- values in slots
in_time : (d x : Triple) → IsApart d x → IsReadInTime d (in_slots x)
in_time d x apart = record { two_one = apart.two_one; three_one = apart.three_one; three_two = apart.three_two }

sum_left : (a b : ℕ) → Leaves (ADDW 5 5 6 ∷ []) (Some a) (Some b) (Some (plus32 a b))
unfolding with_value
sum_left a b = refl

pub additions_run : AdditionsAreVoted
additions_run words g x y d a b sx sy sd hx hy ax ay =
    two_run words (ADDW 5 5 6 ∷ []) g (in_slots x) (in_slots y) d (Some a) (Some b) (Some (plus32 a b)) refl (lit≤ tt) (sum_left a b) (triples_give g x (Some a) sx hx) (triples_give g y (Some b) sy hy) sd
    (in_time d x ax) (in_time d y ay)

pub additions_short : AdditionsAreShort
additions_short x y d nx ny nd = rw (nx.one, nx.two, nx.three, ny.one, ny.two, ny.three, nd.one, nd.two, nd.three) refl
