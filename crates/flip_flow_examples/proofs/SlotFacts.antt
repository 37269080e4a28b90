-- Three slots one after another, and others.
use Rattle.std.proofs.Common.{ℕ, suc, ◌+◌, ◌*◌, ◌<◌, ◌≤◌, ◌⊎◌, inl, inr, List, arith}
use Rattle.flip_frames.specs.Views.{Stage}
use Rattle.flip_versions.specs.Operations.{IsSlot, AreSlots, AreDifferent, IsOther}
use Rattle.flip_guards.specs.Fetching.{in_slots, constant}
use Rattle.flip_copies.specs.Copies.{IsReadInTime, IsClear, LeavesAlone}
use Rattle.flip_guards.specs.Sources.{Part}
use Rattle.flip_flow_examples.specs.Slots.{slots_from}

-- they are in reach where they lie in the data
pub slots : (g : Stage) (n : ℕ) → 8 * (g.base + n) + 24 ≤ g.size → n < 1000 → AreSlots g (slots_from n)
slots g n within small = record { one = slot n (omega arith) (omega arith); two = slot (suc n) (omega arith) (omega arith); three = slot (suc (suc n)) (omega arith) (omega arith) }
  where
    slot : (k : ℕ) → 8 * (g.base + k) + 8 ≤ g.size → k < 2000 → IsSlot g k
    slot k within small = record { within = within; small = omega arith }

pub different : (n : ℕ) → AreDifferent (slots_from n)
different n = record { one_two = omega arith; one_three = omega arith; two_three = omega arith }

-- apart from others that lie above or below
abbrev pub AreApart : ℕ → ℕ → Type 0
AreApart x d = (x + 3 ≤ d) ⊎ (d + 3 ≤ x)

pub other : (d n : ℕ) → (d + 3 ≤ n) ⊎ (n + 1 ≤ d) → IsOther (slots_from d) n
other d n (inl h) = record { one = omega arith; two = omega arith; three = omega arith }
other d n (inr h) = record { one = omega arith; two = omega arith; three = omega arith }

pub clear : (d x : ℕ) → AreApart x d → IsClear (slots_from d) (slots_from x)
clear d x (inl h) = record { one = other d x (inr (omega arith)); two = other d (suc x) (inr (omega arith)); three = other d (suc (suc x)) (inr (omega arith)) }
clear d x (inr h) = record { one = other d x (inl h); two = other d (suc x) (inl (omega arith)); three = other d (suc (suc x)) (inl (omega arith)) }

-- what is read from elsewhere, or is constant, is read in time
pub in_time : (d x : ℕ) → AreApart x d → IsReadInTime (slots_from d) (in_slots (slots_from x))
in_time d x apart = let c = clear d x apart in record { two_one = c.two.one; three_one = c.three.one; three_two = c.three.two }

pub constant_in_time : (d : ℕ) (parts : List Part) → IsReadInTime (slots_from d) (constant parts)
constant_in_time d parts = record { two_one = tt; three_one = tt; three_two = tt }

-- a later copy leaves alone what it neither reads nor writes
pub leaves_alone : (d x y id : ℕ) → AreApart x d → AreApart y d → LeavesAlone (slots_from d) (record { source = in_slots (slots_from x); goal = slots_from y; id = id })
leaves_alone d x y id apart apart' =
    let c = clear d x apart in
    record {
      one = record { one = c.one.one; two = c.one.two; three = c.one.three };
      two = record { one = c.two.one; two = c.two.two; three = c.two.three };
      three = record { one = c.three.one; two = c.three.two; three = c.three.three };
      written = clear d y apart';
    }

pub constant_alone : (d y id : ℕ) (parts : List Part) → AreApart y d → LeavesAlone (slots_from d) (record { source = constant parts; goal = slots_from y; id = id })
constant_alone d y id parts apart =
    record {
      one = record { one = tt; two = tt; three = tt };
      two = record { one = tt; two = tt; three = tt };
      three = record { one = tt; two = tt; three = tt };
      written = clear d y apart;
    }
