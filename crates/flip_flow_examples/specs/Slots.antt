-- Slots one after another.
use Rattle.std.specs.Prelude.{ℕ, suc}
use Rattle.flip_frames.specs.Fetching.{Triple}

-- three slots from n on
abbrev pub slots_from : ℕ → Triple
slots_from n = record { one = n; two = suc n; three = suc (suc n) }
