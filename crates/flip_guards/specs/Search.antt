-- Window points of a list of instructions, found by going along it. The test computes, so a law of concrete words shows its window
-- points by computation alone.
use Rattle.std.specs.Prelude.{ℕ, zero, suc, ◌+◌, ◌-◌, ◌*◌, ◌/◌, ◌%◌, ◌==◌, nat_lt, ◌&&◌, ◌||◌, pos, negsuc, Bool, false, IsTrue, if◌then◌else◌, List, [], ◌∷◌, take, Some}
use Rattle.rv_inst.specs.declared.instruction.Form.{Form}
use Rattle.rv_inst.specs.declared.instruction.Form.TheVariants.{BEQ, JAL}
use Rattle.rv_inst.specs.Registers.{reads}
use Rattle.rv_inst.specs.Window.{IsWindowPoint, begins, may_use, passes, has_window}
use Rattle.rv_model.specs.Text.{text_base}
use Rattle.flip_words.specs.Placed.{IsPlaced}

-- how many words lie between an instruction and the target at this offset; more than a path may have where it is no word further on
abbrev pub words_over : ℕ → ℕ
words_over offset = if nat_lt 0 offset && offset % 4 == 0 then offset / 4 - 1 else 32

-- how many words the quiet path passes over after the instruction
abbrev pub passed_over : Form → ℕ
passed_over (BEQ rs1 rs2 (pos offset)) = words_over offset
passed_over (BEQ rs1 rs2 (negsuc n)) = 32
passed_over (JAL rd (pos offset)) = words_over offset
passed_over (JAL rd (negsuc n)) = 32
passed_over _ = 0

-- the instruction uses r, whose value the first one brought or checked
abbrev pub uses : ℕ → Form → Form → Bool
uses r first i = reads i r && (may_use r first i && has_window r first i)

-- the quiet path that passes over some of these words leads to a use of r, and all before it let r pass
abbrev pub leads_to_use : ℕ → Form → List Form → ℕ → Bool
leads_to_use r first [] over = false
leads_to_use r first (i ∷ is) (suc over) = leads_to_use r first is over
leads_to_use r first (i ∷ is) zero = uses r first i || passes r first (Some i) && leads_to_use r first is (passed_over i)

-- it does so, and comes by the word with this index
abbrev pub comes_by : ℕ → Form → List Form → ℕ → ℕ → Bool
comes_by r first [] over k = false
comes_by r first (i ∷ is) (suc over) zero = false
comes_by r first (i ∷ is) (suc over) (suc k) = comes_by r first is over k
comes_by r first (i ∷ is) zero zero = leads_to_use r first (i ∷ is) zero
comes_by r first (i ∷ is) zero (suc k) = passes r first (Some i) && comes_by r first is (passed_over i) k

-- some instruction before the word with this index begins such a path of at most 32 words
abbrev pub in_window : ℕ → List Form → ℕ → Bool
in_window r [] k = false
in_window r (i ∷ is) zero = false
in_window r (i ∷ is) (suc k) = in_window r is k || begins r i && comes_by r i (take 31 is) (passed_over i) k

-- what is found so is a window point
abbrev pub WindowsAreFound : Type 0
WindowsAreFound = (words : List ℕ) (p : ℕ) (code : List Form) (k r : ℕ) → IsPlaced words p code → IsTrue (in_window r code k)
    → IsWindowPoint words text_base (p + 4 * k) r
