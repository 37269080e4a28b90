-- From place to place of a text, by code that jumps, and what is known there.
use Rattle.std.specs.Prelude.{◌≡◌, ◌+◌, ◌*◌, ℕ, ℤ, List, [], ◌∷◌, length}
use Rattle.rv_inst.specs.declared.instruction.Form.{Form}
use Rattle.rv_inst.specs.declared.instruction.Form.TheVariants.{JAL}
use Rattle.rv_flips.specs.Cells.{Tag, Sure, Has, SaysLess}
use Rattle.rv_flips.specs.Assertion.{ByteSaysLess}
use Rattle.rv_flips.specs.Moves.{Moves, Finishes}
use Rattle.flip_words.specs.Placed.{WindowPoints, Excepted, IsPlaced}
use Rattle.flip_frames.specs.Views.{Stage, View, IsView, Runs, no_values, at_address}
use Rattle.flip_jumps.specs.Jumps.{target}

-- each run that comes to p as the view v says comes to q as w says, after at most n instructions, whatever flip comes outside the window
-- points of the text
pub record Goes (words : List ℕ) (v : View) (p n : ℕ) (w : View) (q : ℕ) : Type 0 where
  pub moves : IsView v → Moves words (Excepted WindowPoints words) (at_address v p) n (at_address w q)
  pub kept : IsView v → IsView w

-- from one place to a second, and from there to a third
abbrev pub PlacesJoin : Type 0
PlacesJoin = (words : List ℕ) (u v w : View) (p q r m n : ℕ) → Goes words u p m v q → Goes words v q n w r → Goes words u p (m + n) w r

-- a sequence that stands at a place goes from there to its end
abbrev pub SequencesGo : Type 0
SequencesGo = (words : List ℕ) (code : List Form) (v w : View) (p : ℕ) → IsPlaced words p code → Runs words code v w
    → Goes words v p (length code) w (p + 4 * length code)

-- a jump goes to its target
abbrev pub PlacesJump : Type 0
PlacesJump = (words : List ℕ) (v : View) (p : ℕ) (offset : ℤ) → IsPlaced words p (JAL 0 offset ∷ []) → Goes words v p 1 v (target p offset)

-- a run that goes to a place from where it ends, ends
abbrev pub PlacesEnd : Type 0
PlacesEnd = (words : List ℕ) (v w : View) (p q n m : ℕ) (out : List ℕ) (status : ℕ) → IsView v → Goes words v p n w q
    → (IsView w → Finishes words (Excepted WindowPoints words) (at_address w q) m out status)
    → Finishes words (Excepted WindowPoints words) (at_address v p) (n + m) out status

-- a second stage, with its frame at the same place, says no more than a first one
pub record StageSaysLess (more less : Stage) : Type 0 where
  pub base : less.base ≡ more.base
  pub places : (r : ℕ) → SaysLess (more.places r) (less.places r)
  pub slots : (k : ℕ) → SaysLess (more.slots k) (less.slots k)
  pub bytes : (o : ℕ) → ByteSaysLess (more.bytes o) (less.bytes o)
  pub size : less.size ≡ more.size
  pub input : less.input ≡ more.input
  pub out : less.out ≡ more.out

-- what is known may be forgotten between sequences, and what is known of a stage may be said of an equal one
abbrev pub StagesAreForgotten : Type 0
StagesAreForgotten = (words : List ℕ) (more less : Stage) (tag : Tag) → StageSaysLess more less
    → ((q w : ℕ) → less.places q ≡ Has Sure w → ⊥)
    → Runs words [] (record { stage = more; tag = tag; file = no_values }) (record { stage = less; tag = tag; file = no_values })
