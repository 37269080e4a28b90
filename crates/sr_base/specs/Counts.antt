use Rattle.std.specs.Prelude.{ℕ, ◌+◌, ◌-◌, ◌^◌, ◌≤◌, min}

-- the sum of two counts, or 2^64 - 1 where it would pass that
abbrev pub capped_sum : ℕ → ℕ → ℕ
capped_sum a b = min (a + b) (2 ^ 64 - 1)

-- a counter after one more call or fault: it stays at 2^64 - 1 once it is there
abbrev pub raised : ℕ → ℕ
raised count = capped_sum count 1

-- a counter rose in a call: it is greater than before, or stands at 2^64 - 1
abbrev pub Rose : ℕ → ℕ → Type 0
Rose before now = raised before ≤ now
