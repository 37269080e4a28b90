-- Copies one after another: what they do, what they set, and what stays.
use Rattle.std.proofs.Common.{◌≡◌, ◌≢◌, ℕ, ◌+◌, ◌*◌, ◌/◌, ◌<◌, List, [], ◌∷◌, length, cond, Option, None, refl, sym, ◌∙◌, ap, subst, arith}
use Rattle.rv_flips.specs.Cells.{Tag, One, Two, Three, Free, SaysLess}
use Rattle.rv_flips.specs.Assertion.{KnownByte, AnyByte, with_register}
use Rattle.rv_flips.proofs.CellLemmas.{other_test, with_register-other, says_free}
use Rattle.flip_words.specs.Memory.{without_bytes}
use Rattle.flip_words.proofs.CarryLemmas.{carries_less}
use Rattle.flip_words.proofs.LessLemmas.{says_again, says_then, knows_same, knows_regs, written_says}
use Rattle.flip_frames.specs.Views.{Stage, View, IsView, IsVersion, Runs, version, view_cell, at_address, with_value, with_scratch, no_values}
use Rattle.flip_frames.specs.Fetching.{Triple}
use Rattle.flip_frames.specs.Slots.{far_view}
use Rattle.flip_frames.proofs.ViewLemmas.{view_cell-zero, view_cell-two, view_cell-three, view_cell-four, sures_view, scratch_written, with_value-same}
use Rattle.flip_frames.proofs.RunLaws.{runs_then, runs_none, runs_less}
use Rattle.flip_frames.proofs.AnySlots.{any_store_runs}
use Rattle.flip_versions.specs.Operations.{resting, IsSlot, AreSlots, HoldsVersions, stored, defined}
use Rattle.flip_versions.proofs.VersionLaws.{slot_after, defined_hold, others_stay}
use Rattle.flip_guards.specs.Slots.{IsFramed}
use Rattle.flip_guards.specs.Sources.{Source, InSlot, InRegister, Constant, bring, Gives}
use Rattle.flip_guards.specs.Fetching.{Operand, IsGiven}
use Rattle.flip_guards.proofs.SourceLaws.{source_carries}
use Rattle.flip_copies.specs.Copies.{Copy, version_copy, operand_copy, copies_words, CanCopy, IsElsewhere, IsReadInTime, IsUnread, IsClear, AllLeaveAlone, Compatible, copied, AreSet, IsBeside, IsBesideAll, SameWhere, IsClearOfAll}

-- what a version of any turn says of the other registers
same_turn : (g : Stage) (t : Tag) (q : ℕ) → view_cell g t no_values q ≡ view_cell g One no_values q
unfolding view_cell
same_turn g t q = refl

-- between sequences the frame is at the stack pointer, whichever version has its turn
framed_turn : (g : Stage) (t : Tag) (p : ℕ) → IsView (resting g t) → IsFramed (at_address (resting g t) p) g.base
framed_turn g t p is =
    record {
      zero = view_cell-zero g t no_values;
      one = view_cell-two g t no_values;
      two = view_cell-three g t no_values;
      three = view_cell-four g t no_values;
      sures = sures_view (resting g t) is;
      size = is.size;
      frame = is.base;
    }

-- a source gives a version between sequences
abbrev pub GivesTurn : Stage → Source → Tag → Option ℕ → Type 0
GivesTurn g s t o = Gives (at_address (resting g One) 0) g.base s t o

gives_turn : (g : Stage) (t : Tag) (p : ℕ) (s : Source) (o : Option ℕ) → GivesTurn g s t o → Gives (at_address (resting g t) p) g.base s t o
gives_turn g t p (InSlot n) o gives = (record { within = gives.0.within; small = gives.0.small }, gives.1)
gives_turn g t p (InRegister r) o gives = (gives.0, same_turn g t r ∙ gives.1)
gives_turn g t p (Constant parts) o gives = gives

-- x28 and x29 are used up, and x5 has the version
brought_less : (g : Stage) (t : Tag) (o : Option ℕ) (q : ℕ) →
    SaysLess (with_register (with_register (with_register (view_cell g t no_values) 28 Free) 29 Free) 5 (version t o) q) (view_cell g t (with_value (with_value (with_value no_values 28 None) 29 None) 5 o) q)
brought_less g t o q =
    let v = resting g t in
    let v28 = with_scratch (resting g t) 28 None in
    let v29 = with_scratch v28 29 None in
    let r0 = view_cell g t no_values in
    let r28 = with_register r0 28 Free in
    let less28 = view_cell g t (with_value no_values 28 None) in
    let less29 = view_cell g t (with_value (with_value no_values 28 None) 29 None) in
    let s28 = scratch_written v 28 None Free refl (says_again Free) in
    let s29 : (k : ℕ) → SaysLess (with_register (with_register (view_cell g t no_values) 28 Free) 29 Free k) (view_cell g t (with_value (with_value no_values 28 None) 29 None) k) =
    λ k. says_then (with_register r28 29 Free k) (with_register less28 29 Free k) (less29 k) (written_says r28 less28 29 Free Free (says_again Free) (λ r ne. s28 r) k) (scratch_written v28 29 None Free refl (says_again Free) k) in
    says_then (with_register (with_register r28 29 Free) 5 (version t o) q) (with_register less29 5 (version t o) q) (view_cell g t (with_value (with_value (with_value no_values 28 None) 29 None) 5 o) q)
    (written_says (with_register r28 29 Free) less29 5 (version t o) (version t o) (says_again (version t o)) (λ r ne. s29 r) q)
    (scratch_written v29 5 o (version t o) refl (says_again (version t o)) q)

-- a version comes into x5
abbrev with_five : Stage → Tag → Option ℕ → View
with_five g t o = with_scratch (far_view (resting g t)) 5 o

brings_run : (words : List ℕ) (g : Stage) (t : Tag) (s : Source) (o : Option ℕ) → IsVersion t → GivesTurn g s t o → Runs words (bring 5 s) (resting g t) (with_five g t o)
brings_run words g t s o turn gives =
    record {
      carries = λ is p.
          let end = p + 4 * length (bring 5 s) in
          let above : 4 < 5 = omega arith in
          carries_less (knows_same (at_address (resting g t) p)) (source_carries words (at_address (resting g t) p) g.base 5 s t o (framed_turn g t p is) above turn (gives_turn g t p s o gives))
          (knows_regs (at_address (resting g t) p) (p + 4 * length (bring 5 s)) (p + 4 * length (bring 5 s)) (with_register (with_register (with_register (view_cell g t no_values) 28 Free) 29 Free) 5 (version t o)) (view_cell g t ((with_five g t o).file)) refl (brought_less g t o));
      kept = λ is. record { tag = is.tag; places = is.places; size = is.size; base = is.base };
    }

-- and goes to a slot; the turn is the next version's
version_runs : (words : List ℕ) (g : Stage) (t t' : Tag) (s : Source) (n : ℕ) (o : Option ℕ) → IsVersion t → IsVersion t' → GivesTurn g s t o → IsSlot g n → Runs words (version_copy s n) (resting g t) (resting (stored g n t o) t')
version_runs words g t t' s n o turn turn' gives slot =
    let v = with_five g t o in
    let five : v.file 5 ≡ o = with_value-same ((far_view (resting g t)).file) 5 o in
    let P : Option ℕ → Type 0 = λ x. Runs words (version_copy s n) (resting g t) (resting (stored g n t x) t') in
    subst P five
    (runs_then (brings_run words g t s o turn gives)
    (runs_less t' no_values turn' (λ q. says_free (version t ((far_view v).file q))) (any_store_runs words v 5 n refl (omega arith) (omega arith) slot.small slot.within)))

-- what is read from elsewhere stays
same_place : (g : Stage) (d : ℕ) (t : Tag) (o : Option ℕ) (q : ℕ) → view_cell (stored g d t o) One no_values q ≡ view_cell g One no_values q
unfolding view_cell
same_place g d t o q = refl

pub gives_stored : (g : Stage) (d : ℕ) (t u : Tag) (o x : Option ℕ) (s : Source) → GivesTurn g s t x → IsElsewhere d s → GivesTurn (stored g d u o) s t x
gives_stored g d t u o x (InSlot n) gives other =
    let apart : g.base + n ≢ g.base + d = omega (arith, other) in
    (record { within = gives.0.within; small = gives.0.small }, with_register-other g.slots (g.base + d) (g.base + n) (version u o) apart ∙ gives.1)
gives_stored g d t u o x (InRegister r) gives other = (gives.0, same_place g d u o r ∙ gives.1)
gives_stored g d t u o x (Constant parts) gives other = gives

-- one copy
copy_runs : (words : List ℕ) (g : Stage) (x : Operand) (d : Triple) (o : Option ℕ) → IsGiven g x o → AreSlots g d → IsReadInTime d x → Runs words (operand_copy x d) (resting g One) (resting (defined g d o) One)
copy_runs words g x d o gives slots time =
    let g1 = stored g d.one One o in
    let g2 = stored g1 d.two Two o in
    runs_then (version_runs words g One Two x.one d.one o tt tt gives.one slots.one)
    (runs_then (version_runs words g1 Two Three x.two d.two o tt tt (gives_stored g d.one Two One o o x.two gives.two time.two_one) (slot_after g d.two d.one One o slots.two))
    (version_runs words g2 Three One x.three d.three o tt tt (gives_stored g1 d.two Three Two o o x.three (gives_stored g d.one Three One o o x.three gives.three time.three_one) time.three_two)
    (slot_after g1 d.three d.two Two o (slot_after g d.three d.one One o slots.three))))

-- slots that aren't written hold what they held
pub holds_defined : (g : Stage) (d x : Triple) (o o' : Option ℕ) → HoldsVersions g x o → IsClear d x → HoldsVersions (defined g d o') x o
holds_defined g d x o o' holds clear =
    record {
      one = others_stay g d o' x.one clear.one ∙ holds.one;
      two = others_stay g d o' x.two clear.two ∙ holds.two;
      three = others_stay g d o' x.three clear.three ∙ holds.three;
    }

slots_defined : (g : Stage) (d : Triple) (o : Option ℕ) (x : Triple) → AreSlots g x → AreSlots (defined g d o) x
slots_defined g d o x s = record { one = slot x.one s.one; two = slot x.two s.two; three = slot x.three s.three }
  where
    slot : (n : ℕ) → IsSlot g n → IsSlot (defined g d o) n
    slot n s = record { within = s.within; small = s.small }

gives_defined : (g : Stage) (d : Triple) (t : Tag) (o x : Option ℕ) (s : Source) → GivesTurn g s t x → IsUnread d s → GivesTurn (defined g d o) s t x
gives_defined g d t o x s gives unread =
    let g1 = stored g d.one One o in
    let g2 = stored g1 d.two Two o in
    gives_stored g2 d.three t Three o x s (gives_stored g1 d.two t Two o x s (gives_stored g d.one t One o x s gives unread.one) unread.two) unread.three

-- after one copy the others can be made still
can_defined : (g : Stage) (d : Triple) (o : Option ℕ) (cs : List Copy) (values : ℕ → Option ℕ) → CanCopy g cs values → AllLeaveAlone d cs → CanCopy (defined g d o) cs values
can_defined g d o [] values can alone = tt
can_defined g d o (c ∷ cs) values can alone =
    let x = c.source in
    let a = values c.id in
    let gives : IsGiven (defined g d o) c.source (values c.id) = record { one = gives_defined g d One o a x.one can.0.one alone.0.one; two = gives_defined g d Two o a x.two can.0.two alone.0.two; three = gives_defined g d Three o a x.three can.0.three alone.0.three } in
    (gives, slots_defined g d o c.goal can.1, can_defined g d o cs values can.2 alone.1)

pub copy_lists_run : (words : List ℕ) (g : Stage) (cs : List Copy) (values : ℕ → Option ℕ) → CanCopy g cs values → Compatible cs → Runs words (copies_words cs) (resting g One) (resting (copied g cs values) One)
copy_lists_run words g [] values can fits = runs_none words (resting g One)
copy_lists_run words g (c ∷ cs) values can fits =
    runs_then (copy_runs words g c.source c.goal (values c.id) can.0 can.1 fits.1)
    (copy_lists_run words (defined g c.goal (values c.id)) cs values (can_defined g c.goal (values c.id) cs values can.2 fits.2) fits.3)

-- what holds in slots that no copy writes
pub holds_copied : (g : Stage) (cs : List Copy) (values : ℕ → Option ℕ) (x : Triple) (o : Option ℕ) → HoldsVersions g x o → IsClearOfAll cs x → HoldsVersions (copied g cs values) x o
holds_copied g [] values x o holds clear = holds
holds_copied g (c ∷ cs) values x o holds clear =
    holds_copied (defined g c.goal (values c.id)) cs values x o (holds_defined g c.goal x o (values c.id) holds clear.0) clear.1

turned : (d x : Triple) → IsClear d x → IsClear x d
turned d x h =
    record {
      one = record { one = λ e. h.one.one (sym e); two = λ e. h.two.one (sym e); three = λ e. h.three.one (sym e) };
      two = record { one = λ e. h.one.two (sym e); two = λ e. h.two.two (sym e); three = λ e. h.three.two (sym e) };
      three = record { one = λ e. h.one.three (sym e); two = λ e. h.two.three (sym e); three = λ e. h.three.three (sym e) };
    }

clear_of_later : (d : Triple) (cs : List Copy) → AllLeaveAlone d cs → IsClearOfAll cs d
clear_of_later d [] alone = tt
clear_of_later d (c ∷ cs) alone = (turned d c.goal alone.0.written, clear_of_later d cs alone.1)

pub goals_are_set : (g : Stage) (cs : List Copy) (values : ℕ → Option ℕ) → Compatible cs → AreSet (copied g cs values) cs values
goals_are_set g [] values fits = tt
goals_are_set g (c ∷ cs) values fits =
    let h = defined g c.goal (values c.id) in
    (holds_copied h cs values c.goal (values c.id) (defined_hold g c.goal (values c.id) fits.0) (clear_of_later c.goal cs fits.2), goals_are_set h cs values fits.3)

-- a byte of a word that isn't written
pub bytes_other : (bytes : ℕ → KnownByte) (k o : ℕ) → o / 8 ≢ k → without_bytes bytes k o ≡ bytes o
unfolding without_bytes
bytes_other bytes k o ne = ap (λ b. cond b AnyByte (bytes o)) (other_test (o / 8) k ne)

-- what one value doesn't write stays
same_defined : (g : Stage) (d : Triple) (o : Option ℕ) → SameWhere (IsBeside g.base d) g (defined g d o)
same_defined g d o =
    let g1 = stored g d.one One o in
    let g2 = stored g1 d.two Two o in
    record {
      base = refl;
      places = refl;
      slots = λ k beside.
          with_register-other g2.slots (g.base + d.three) k (version Three o) beside.three
          ∙ with_register-other g1.slots (g.base + d.two) k (version Two o) beside.two
          ∙ with_register-other g.slots (g.base + d.one) k (version One o) beside.one;
      bytes = λ q beside.
          bytes_other g2.bytes (g.base + d.three) q beside.three
          ∙ bytes_other g1.bytes (g.base + d.two) q beside.two
          ∙ bytes_other g.bytes (g.base + d.one) q beside.one;
      size = refl;
      input = refl;
      out = refl;
    }

pub same_then : (P Q : ℕ → Type 0) (g h k : Stage) → SameWhere P g h → SameWhere Q h k → SameWhere (λ n. P n × Q n) g k
same_then P Q g h k one two =
    record {
      base = two.base ∙ one.base;
      places = two.places ∙ one.places;
      slots = λ n both. two.slots n both.1 ∙ one.slots n both.0;
      bytes = λ o both. two.bytes o both.1 ∙ one.bytes o both.0;
      size = two.size ∙ one.size;
      input = two.input ∙ one.input;
      out = two.out ∙ one.out;
    }

pub same_again : (P : ℕ → Type 0) (g : Stage) → SameWhere P g g
same_again P g = record { base = refl; places = refl; slots = λ k h. refl; bytes = λ o h. refl; size = refl; input = refl; out = refl }

pub rest_stays : (g : Stage) (cs : List Copy) (values : ℕ → Option ℕ) → SameWhere (IsBesideAll g.base cs) g (copied g cs values)
rest_stays g [] values = same_again (IsBesideAll g.base []) g
rest_stays g (c ∷ cs) values =
    let h = defined g c.goal (values c.id) in
    same_then (IsBeside g.base c.goal) (IsBesideAll g.base cs) g h (copied h cs values) (same_defined g c.goal (values c.id)) (rest_stays h cs values)
