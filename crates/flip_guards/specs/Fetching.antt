-- Operands that are fetched: the right value stands in a register, and the next word uses it.
use Rattle.std.specs.Prelude.{◌≡◌, ◌≢◌, ℕ, ◌+◌, ◌*◌, ◌<◌, pos, IsTrue, List, [], ◌∷◌, ◌++◌, length, Option, Some, None}
use Rattle.rv_inst.specs.declared.instruction.Form.{Form}
use Rattle.rv_inst.specs.declared.instruction.Form.TheVariants.{ADDI, BEQ}
use Rattle.rv_inst.specs.Registers.{reads}
use Rattle.rv_inst.specs.Window.{may_use, is_operand_register}
use Rattle.rv_flips.specs.Cells.{Sure, One, Two, Three, Free, Has}
use Rattle.rv_flips.specs.Assertion.{Assertion, after_write}
use Rattle.rv_flips.specs.Known.{Sures}
use Rattle.rv_flips.specs.Moves.{Covered}
use Rattle.flip_words.specs.Joining.{checked}
use Rattle.flip_words.specs.Placed.{WindowPoints, Excepted, IsPlaced, Carries}
use Rattle.flip_frames.specs.Views.{Stage, IsView, is_scratch, version, at_address}
use Rattle.flip_frames.specs.Fetching.{Triple}
use Rattle.flip_versions.specs.Operations.{resting, AreSlots, HoldsVersions}
use Rattle.flip_guards.specs.Guards.{Kept, guard_at, guarded}
use Rattle.flip_guards.specs.Slots.{IsFramed}
use Rattle.flip_guards.specs.Sources.{Part, part_words, made, Source, InSlot, Constant, bring, Gives}

-- the sources of the three versions of an operand
pub record Operand : Type 0 where
  pub one : Source
  pub two : Source
  pub three : Source

-- a value in slots
abbrev pub in_slots : Triple → Operand
in_slots x = record { one = InSlot x.one; two = InSlot x.two; three = InSlot x.three }

-- a constant, of which each version is made by words of its own
abbrev pub constant : List Part → Operand
constant parts = record { one = Constant parts; two = Constant parts; three = Constant parts }

-- the sources give the three versions of a value
pub record GivesAll (c : Assertion) (base : ℕ) (x : Operand) (o : Option ℕ) : Type 0 where
  pub one : Gives c base x.one One o
  pub two : Gives c base x.two Two o
  pub three : Gives c base x.three Three o

-- they do so between sequences
abbrev pub IsGiven : Stage → Operand → Option ℕ → Type 0
IsGiven g x o = GivesAll (at_address (resting g One) 0) g.base x o

-- slots that hold three versions give them
abbrev pub TriplesGive : Type 0
TriplesGive = (g : Stage) (x : Triple) (o : Option ℕ) → AreSlots g x → HoldsVersions g x o → IsGiven g (in_slots x) o

-- and so do words that make a constant
abbrev pub ConstantsGive : Type 0
ConstantsGive = (g : Stage) (parts : List Part) (v : ℕ) → made parts None ≡ Some v → IsGiven g (constant parts) (Some v)

-- the versions come into a, b and t, the third one first
abbrev pub bring_three : ℕ → ℕ → ℕ → Operand → List Form
bring_three a b t x = bring t x.three ++ (bring b x.two ++ bring a x.one)

-- a register that the next two may be brought after: a scratch register, but not one in which far addresses are formed
pub record IsKeeping (r : ℕ) : Type 0 where
  pub scratch : IsTrue (is_scratch r)
  pub not_first : r ≢ 28
  pub not_second : r ≢ 29

-- what is known after three versions came in
abbrev pub brought : Assertion → ℕ → ℕ → ℕ → Option ℕ → ℕ → Assertion
brought c a b t o p = after_write (after_write (after_write c t (version Three o) p) b (version Two o) p) a (version One o) p

-- they are there, and all else is as it was where nothing was known of x28 and x29
abbrev pub OperandsComeIn : Type 0
OperandsComeIn = (words : List ℕ) (c : Assertion) (base a b t : ℕ) (x : Operand) (o : Option ℕ) → IsFramed c base → c.regs 28 ≡ Free → c.regs 29 ≡ Free
    → 4 < a → IsKeeping b → IsKeeping t → GivesAll c base x o
    → Carries words (Excepted WindowPoints words) (bring_three a b t x) c (brought c a b t o (c.pc + 4 * length (bring_three a b t x)))

-- d is right where it equals b, and else t is
abbrev pub check_words : ℕ → ℕ → ℕ → List Form
check_words d b t = BEQ d b (pos 8) ∷ ADDI d t (pos 0) ∷ []

-- the fetch of an operand into x5
abbrev pub fetch_operand : Operand → List Form
fetch_operand x = bring_three 5 6 7 x ++ check_words 5 6 7

-- x5 holds the right value for sure, or anything where the value isn't known
abbrev pub fetched_operand : Stage → Option ℕ → ℕ → Assertion
fetched_operand g o p = guard_at (guarded g (Kept 5 Sure o ∷ [])) p

-- that is so after the fetch, wherever it stands
abbrev pub OperandsAreFetched : Type 0
OperandsAreFetched = (words : List ℕ) (g : Stage) (x : Operand) (o : Option ℕ) (p : ℕ) → IsView (resting g One) → IsGiven g x o
    → Carries words (Excepted WindowPoints words) (fetch_operand x) (at_address (resting g One) p) (fetched_operand g o (p + 4 * length (fetch_operand x)))

-- where the next word uses x5, a flip of x5 before it falls at a window point
abbrev pub FetchedOperandsAreCovered : Type 0
FetchedOperandsAreCovered = (words : List ℕ) (g : Stage) (x : Operand) (o : Option ℕ) (p : ℕ) (j : Form) → IsView (resting g One)
    → IsPlaced words p (fetch_operand x ++ j ∷ []) → IsTrue (reads j 5) → IsTrue (may_use 5 (BEQ 5 6 (pos 8)) j)
    → Covered (Excepted WindowPoints words) (fetched_operand g o (p + 4 * length (fetch_operand x)))

-- the fetch of a value into x5 and of an address into x28: the value is checked before the address, so that both are right at the next
-- word, which stores the one at the other
abbrev pub fetch_both : Operand → Operand → List Form
fetch_both x y = bring_three 5 6 7 x ++ (bring_three 28 30 31 y ++ (check_words 5 6 7 ++ check_words 28 30 31))

-- x5 holds the value for sure, or anything where it isn't known, and x28 the address for sure
abbrev pub fetched_both : Stage → Option ℕ → ℕ → ℕ → Assertion
fetched_both g o a p = guard_at (guarded g (Kept 28 Sure (Some a) ∷ Kept 5 Sure o ∷ [])) p

-- the next word uses both
pub record UsesBoth (j : Form) : Type 0 where
  pub reads_value : IsTrue (reads j 5)
  pub uses_value : IsTrue (may_use 5 (BEQ 5 6 (pos 8)) j)
  pub reads_address : IsTrue (reads j 28)
  pub uses_address : IsTrue (may_use 28 (BEQ 28 30 (pos 8)) j)

-- that is so after the fetch of both, where the next word uses them
abbrev pub TwoOperandsAreFetched : Type 0
TwoOperandsAreFetched = (words : List ℕ) (g : Stage) (x y : Operand) (o : Option ℕ) (a p : ℕ) (j : Form) → IsView (resting g One) → IsGiven g x o
    → IsGiven g y (Some a) → UsesBoth j → IsPlaced words p (fetch_both x y ++ j ∷ [])
    → Carries words (Excepted WindowPoints words) (fetch_both x y) (at_address (resting g One) p) (fetched_both g o a (p + 4 * length (fetch_both x y)))

-- then a flip of either before that word falls at a window point
abbrev pub TwoFetchedAreCovered : Type 0
TwoFetchedAreCovered = (words : List ℕ) (g : Stage) (x y : Operand) (o : Option ℕ) (a p : ℕ) (j : Form) → IsView (resting g One) → UsesBoth j
    → IsPlaced words p (fetch_both x y ++ j ∷ []) → Covered (Excepted WindowPoints words) (fetched_both g o a (p + 4 * length (fetch_both x y)))

-- a constant that is made twice and compared, and where the two differ made a third time
abbrev pub guarded_constant : ℕ → ℕ → List Part → List Form
guarded_constant d b parts = part_words d parts ++ (part_words b parts ++ checked d b (part_words d parts))

-- then d holds it for sure, and b is used up
abbrev pub ConstantsAreGuarded : Type 0
ConstantsAreGuarded = (words : List ℕ) (c : Assertion) (d b : ℕ) (parts : List Part) (v : ℕ) → c.regs 0 ≡ Has Sure 0 → Sures c.regs [] → 0 < d → 0 < b → d ≢ b
    → made parts None ≡ Some v
    → Carries words (Excepted WindowPoints words) (guarded_constant d b parts) c
    (after_write (after_write c b Free (c.pc + 4 * length (guarded_constant d b parts))) d (Has Sure v) (c.pc + 4 * length (guarded_constant d b parts)))

-- where the next word uses d, a flip of d before it falls at a window point
abbrev pub GuardedConstantsAreCovered : Type 0
GuardedConstantsAreCovered = (words : List ℕ) (c : Assertion) (d b : ℕ) (parts : List Part) (v : ℕ) (j : Form) → Sures c.regs []
    → IsTrue (is_operand_register d) → 0 < b → d ≢ b → 0 < length (part_words d parts) → IsPlaced words c.pc (guarded_constant d b parts ++ j ∷ [])
    → IsTrue (reads j d) → IsTrue (may_use d (BEQ d b (pos (4 * length (part_words d parts) + 4))) j)
    → Covered (Excepted WindowPoints words)
    (after_write (after_write c b Free (c.pc + 4 * length (guarded_constant d b parts))) d (Has Sure v) (c.pc + 4 * length (guarded_constant d b parts)))
