-- The choice between two values by a third, in three versions and without a branch: by masks. The value that isn't chosen need not be
-- known.
use Rattle.std.specs.Prelude.{◌≡◌, ◌⊎◌, ℕ, ◌+◌, ◌-◌, ◌<◌, ◌^◌, ◌==◌, negsuc, List, [], ◌∷◌, ◌++◌, Option, Some, None, if◌then◌else◌}
use Rattle.rv_inst.specs.declared.instruction.Form.{Form}
use Rattle.rv_inst.specs.declared.instruction.Form.TheVariants.{AND, OR, XORI}
use Rattle.rv_flips.specs.Cells.{Tag, Has, One}
use Rattle.rv_flips.specs.Assertion.{Assertion, after_write}
use Rattle.rv_flips.specs.Computing.{IsUncoded}
use Rattle.rv_flips.specs.Moves.{Covered}
use Rattle.flip_words.specs.Placed.{Points, Excepted, Carries}
use Rattle.flip_frames.specs.Views.{Stage, Runs}
use Rattle.flip_frames.specs.Fetching.{Triple}
use Rattle.flip_frames.specs.Slots.{any_load, any_store}
use Rattle.flip_versions.specs.Operations.{resting, AreSlots, HoldsVersions, defined, IsApart}

-- an AND of anything with a version of 0 is a version of 0
abbrev pub ZerosMask : Type 0
ZerosMask = (points : Points) (words : List ℕ) (c : Assertion) (d a b : ℕ) (tag : Tag) → c.regs b ≡ Has tag 0 → IsUncoded tag → 0 < d
    → Covered (Excepted points words) c → Carries words (Excepted points words) (AND d a b ∷ []) c (after_write c d (Has tag 0) (c.pc + 4))

-- a condition is all zeros or all ones, as one bit is that is extended by its sign
abbrev pub IsMask : Option ℕ → Type 0
IsMask None = Unit {0}
IsMask (Some m) = (m ≡ 0) ⊎ (m ≡ 2 ^ 64 - 1)

-- a known value is one of 64 bits
abbrev pub IsWord : Option ℕ → Type 0
IsWord None = Unit {0}
IsWord (Some v) = v < 2 ^ 64

-- the first value where the condition holds, the second one where it doesn't; nothing is known where the condition isn't
abbrev pub chosen : Option ℕ → Option ℕ → Option ℕ → Option ℕ
chosen None first second = None
chosen (Some m) first second = if m == 0 then second else first

-- of the mask in x5 and of the values in x6 and x7: each value is masked, and both come together
abbrev pub select_code : List Form
select_code = AND 6 6 5 ∷ XORI 5 5 (negsuc 0) ∷ AND 7 7 5 ∷ OR 5 6 7 ∷ []

-- one version
abbrev pub select_version : ℕ → ℕ → ℕ → ℕ → List Form
select_version m x y d = any_load 5 m ++ (any_load 6 x ++ (any_load 7 y ++ (select_code ++ any_store 5 d)))

-- all three
abbrev pub select_words : Triple → Triple → Triple → Triple → List Form
select_words m x y d =
    select_version m.one x.one y.one d.one ++ (select_version m.two x.two y.two d.two ++ select_version m.three x.three y.three d.three)

-- then the slots of d hold three versions of what is chosen
abbrev pub SelectsRun : Type 0
SelectsRun = (words : List ℕ) (g : Stage) (m x y d : Triple) (mask first second : Option ℕ) → IsMask mask → IsWord first → IsWord second
    → AreSlots g m → AreSlots g x → AreSlots g y → AreSlots g d → HoldsVersions g m mask → HoldsVersions g x first → HoldsVersions g y second
    → IsApart d m → IsApart d x → IsApart d y
    → Runs words (select_words m x y d) (resting g One) (resting (defined g d (chosen mask first second)) One)
