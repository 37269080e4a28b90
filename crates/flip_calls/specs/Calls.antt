-- A call of a function of the text, and the return from it. The caller moves the frame down, copies the arguments into slots of the new
-- frame, and jumps; the callee keeps the return address in a slot of its frame, once, and loads it to return; the caller copies the result
-- from the callee's frame, and moves the frame up. Only x1 crosses a jump, and only the return address is in it.
use Rattle.std.specs.Prelude.{◌≡◌, ◌+◌, ◌*◌, ◌%◌, ◌<◌, ◌≤◌, ℕ, ℤ, pos, List, [], ◌∷◌, ◌++◌, length, Option}
use Rattle.rv_inst.specs.declared.instruction.Form.{Form}
use Rattle.rv_inst.specs.declared.instruction.Form.TheVariants.{JAL, JALR}
use Rattle.rv_flips.specs.Cells.{Free, Has, Sure, One}
use Rattle.rv_flips.specs.Assertion.{with_register}
use Rattle.flip_words.specs.Memory.{without_bytes}
use Rattle.flip_words.specs.Placed.{IsPlaced}
use Rattle.flip_frames.specs.Views.{Stage, Runs}
use Rattle.flip_frames.specs.Slots.{near_load, near_store, IsInData}
use Rattle.flip_versions.specs.Operations.{resting, IsOther}
use Rattle.flip_copies.specs.Copies.{Copy, copies_words, CanCopy, Compatible, copied, AreSet, SameWhere}
use Rattle.flip_jumps.specs.Jumps.{target}
use Rattle.flip_jumps.specs.Places.{Goes}
use Rattle.flip_calls.specs.Frames.{frame_down, frame_up, based_at}

-- the entry of a function: the return address goes to slot m of its frame, which is near
abbrev pub entry_words : ℕ → List Form
entry_words m = near_store 1 m

-- the stage after it: the slot has the address for sure
abbrev pub linked_back : Stage → ℕ → ℕ → Stage
linked_back g m back = record g { slots = with_register g.slots (g.base + m) (Has Sure back); bytes = without_bytes g.bytes (g.base + m) }

-- a jump that links at p, and the entry at its target: the return address, of the word after the jump, is kept
abbrev pub EntriesKeepLinks : Type 0
EntriesKeepLinks = (words : List ℕ) (g : Stage) (p m : ℕ) (offset : ℤ) → g.places 1 ≡ Free → IsInData (resting g One) m
    → IsPlaced words p (JAL 1 offset ∷ []) → IsPlaced words (target p offset) (entry_words m)
    → Goes words (resting g One) p 4 (resting (linked_back g m (p + 4)) One) (target p offset + 12)

-- the call of a function whose frame has n slots: a slot k of the caller is slot n + k of the new frame
abbrev pub call_words : ℕ → List Copy → ℤ → List Form
call_words n args offset = (frame_down n ++ copies_words args) ++ JAL 1 offset ∷ []

-- where the jump of a call at p stands
abbrev pub jump_of : ℕ → ℕ → List Copy → ℕ
jump_of p n args = p + 4 * length (frame_down n ++ copies_words args)

-- where that call returns to: the word after its jump
abbrev pub back_of : ℕ → ℕ → List Copy → ℕ
back_of p n args = jump_of p n args + 4

-- the stage in the callee: its frame begins at this base, the arguments are in it, and so is the return address
abbrev pub called : Stage → ℕ → List Copy → (ℕ → Option ℕ) → ℕ → ℕ → Stage
called g base args values m back = linked_back (copied (based_at g base) args values) m back

-- what a call needs: room for the new frame, arguments that can be copied into it, a slot for the return address, and that nothing is
-- kept in x1
pub record IsCall (g : Stage) (n base m : ℕ) (args : List Copy) (values : ℕ → Option ℕ) : Type 0 where
  pub size : n < 0x800_0000
  pub below : base + n ≡ g.base
  pub arguments : CanCopy (based_at g base) args values
  pub compatible : Compatible args
  pub link : IsInData (resting (based_at g base) One) m
  pub unused : g.places 1 ≡ Free

-- a call, from the caller's place to the callee's after its entry
abbrev pub CallsEnter : Type 0
CallsEnter = (words : List ℕ) (g : Stage) (p n base m : ℕ) (args : List Copy) (values : ℕ → Option ℕ) (offset : ℤ)
    → IsCall g n base m args values → IsPlaced words p (call_words n args offset)
    → IsPlaced words (target (jump_of p n args) offset) (entry_words m)
    → Goes words (resting g One) p (length (call_words n args offset) + 3)
    (resting (called g base args values m (back_of p n args)) One) (target (jump_of p n args) offset + 12)

-- no argument goes to slot m
abbrev pub SparesSlot : ℕ → List Copy → Type 0
SparesSlot m [] = Unit {0}
SparesSlot m (c ∷ cs) = IsOther c.goal m × SparesSlot m cs

-- the callee has its arguments, where the return address isn't among them
abbrev pub ArgumentsAreSet : Type 0
ArgumentsAreSet = (g : Stage) (base m back : ℕ) (args : List Copy) (values : ℕ → Option ℕ) → Compatible args → SparesSlot m args
    → AreSet (called g base args values m back) args values

-- the slot has the return address, which is even
abbrev pub LinksAreKept : Type 0
LinksAreKept = (words : List ℕ) (g : Stage) (p m : ℕ) (offset : ℤ) → IsPlaced words p (JAL 1 offset ∷ [])
    → ((linked_back g m (p + 4)).slots (g.base + m) ≡ Has Sure (p + 4)) × ((p + 4) % 2 ≡ 0)

-- the copies write slots of a frame of n slots alone
abbrev pub AreInside : ℕ → List Copy → Type 0
AreInside n [] = Unit {0}
AreInside n (c ∷ cs) = (c.goal.one < n) × (c.goal.two < n) × (c.goal.three < n) × AreInside n cs

-- the frames of the callers, which lie above, stay as they were
abbrev pub CallersStay : Type 0
CallersStay = (g : Stage) (n base m back : ℕ) (args : List Copy) (values : ℕ → Option ℕ) → base + n ≡ g.base → AreInside n args → m < n
    → SameWhere (λ k. g.base ≤ k) (based_at g base) (called g base args values m back)

-- the return: the address is loaded, and the machine goes on there
abbrev pub return_words : ℕ → List Form
return_words m = near_load 1 m ++ JALR 0 1 (pos 0) ∷ []

-- from any place of the callee to where its caller called it
abbrev pub ReturnsGo : Type 0
ReturnsGo = (words : List ℕ) (g : Stage) (p m back : ℕ) → IsPlaced words p (return_words m) → IsInData (resting g One) m
    → g.slots (g.base + m) ≡ Has Sure back → back % 2 ≡ 0 → g.places 1 ≡ Free
    → Goes words (resting g One) p 4 (resting g One) back

-- the return with a result, which is copied before into slots that the caller knows; no copy writes the return address
abbrev pub ResultsReturn : Type 0
ResultsReturn = (words : List ℕ) (g : Stage) (p m back : ℕ) (cs : List Copy) (values : ℕ → Option ℕ)
    → IsPlaced words p (copies_words cs ++ return_words m) → CanCopy g cs values → Compatible cs → SparesSlot m cs
    → IsInData (resting g One) m → g.slots (g.base + m) ≡ Has Sure back → back % 2 ≡ 0 → g.places 1 ≡ Free
    → Goes words (resting g One) p (length (copies_words cs ++ return_words m)) (resting (copied g cs values) One) back

-- what follows in the caller: the result comes from the callee's frame, and the frame goes up. A slot k of the caller is slot n + k here
abbrev pub after_words : List Copy → ℕ → List Form
after_words cs n = copies_words cs ++ frame_up n

-- the result is there, and the frame is the caller's again
abbrev pub ResultsAreTaken : Type 0
ResultsAreTaken = (words : List ℕ) (g : Stage) (n base : ℕ) (cs : List Copy) (values : ℕ → Option ℕ) → CanCopy g cs values → Compatible cs
    → n < 0x800_0000 → g.base + n ≡ base → 8 * base ≤ 0x4000_0000
    → Runs words (after_words cs n) (resting g One) (resting (based_at (copied g cs values) base) One)
