-- A switch on a value of which three versions are kept. The cases are tried one after another: from each version the case's number is taken
-- away, the three differences are compared, and the right one is compared with 0. So no value need live from one case to the next.
use Rattle.std.specs.Prelude.{◌≡◌, ◌+◌, ◌*◌, ◌<◌, ◌^◌, ◌==◌, if◌then◌else◌, ℕ, ℤ, pos, List, [], ◌∷◌, ◌++◌, length, Some, None}
use Rattle.rv_inst.specs.declared.instruction.Form.{Form}
use Rattle.rv_inst.specs.declared.instruction.Form.TheVariants.{ADDI, SUB, BNE, JAL}
use Rattle.rv_model.specs.State.{plus64}
use Rattle.rv_model.specs.Operations.{bits64}
use Rattle.rv_flips.specs.Cells.{One}
use Rattle.flip_words.specs.Placed.{IsPlaced}
use Rattle.flip_frames.specs.Views.{Stage}
use Rattle.flip_versions.specs.Operations.{resting}
use Rattle.flip_guards.specs.Sources.{Part, part_words, made}
use Rattle.flip_guards.specs.Fetching.{Operand, IsGiven, bring_three, check_words}
use Rattle.flip_jumps.specs.Jumps.{target}
use Rattle.flip_jumps.specs.Places.{Goes}

-- how a number is taken away: its negative is added by one word; or it is made in x28, by words for any number of 64 bits
pub data Taking : Type 0 where
  Adding : (less : ℤ) → Taking
  Made : (parts : List Part) → Taking

-- from register d
abbrev pub taking_words : ℕ → Taking → List Form
taking_words d (Adding less) = ADDI d d less ∷ []
taking_words d (Made parts) = part_words 28 parts ++ SUB d d 28 ∷ []

-- this is the number that is taken away
abbrev pub Takes : ℕ → Taking → Type 0
Takes n (Adding less) = plus64 n (bits64 less) ≡ 0
Takes n (Made parts) = made parts None ≡ Some n

-- a case: its number, how it is taken away, and the offset of its jump
pub record Case : Type 0 where
  pub number : ℕ
  pub taking : Taking
  pub hit : ℤ

-- the test of a case: where the value isn't the number, the next word is passed over
abbrev pub case_test : Operand → Taking → List Form
case_test x t =
    (bring_three 5 6 7 x ++ (taking_words 7 t ++ (taking_words 6 t ++ taking_words 5 t))) ++ (check_words 5 6 7 ++ BNE 5 0 (pos 8) ∷ [])

-- the case jumps where it is hit
abbrev pub case_words : Operand → Case → List Form
case_words x k = case_test x k.taking ++ JAL 0 k.hit ∷ []

-- one case after another, and a jump where none is hit
abbrev pub switch_words : Operand → List Case → ℤ → List Form
switch_words x [] last = JAL 0 last ∷ []
switch_words x (k ∷ ks) last = case_words x k ++ switch_words x ks last

-- each case's words take its number away, which is one of 64 bits
abbrev pub AreCases : List Case → Type 0
AreCases [] = Unit {0}
AreCases (k ∷ ks) = Takes k.number k.taking × (k.number < 2 ^ 64) × AreCases ks

-- where a switch at p on the value v goes on: at the jump of the first case with this number
abbrev pub switch_target : ℕ → Operand → List Case → ℤ → ℕ → ℕ
switch_target p x [] last v = target p last
switch_target p x (k ∷ ks) last v =
    if v == k.number then target (p + 4 * length (case_test x k.taking)) k.hit
    else switch_target (p + 4 * length (case_words x k)) x ks last v

-- any switch, on a value in slots near or far, in places, or a constant
abbrev pub SwitchesTurn : Type 0
SwitchesTurn = (words : List ℕ) (g : Stage) (x : Operand) (ks : List Case) (last : ℤ) (v p : ℕ) → IsGiven g x (Some v) → v < 2 ^ 64
    → AreCases ks → IsPlaced words p (switch_words x ks last)
    → Goes words (resting g One) p (length (switch_words x ks last)) (resting g One) (switch_target p x ks last v)
