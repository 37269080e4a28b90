-- What each instruction adds to the counts of a function.
use Rattle.std.specs.Prelude.{◌≡◌, ℕ, ◌+◌, ◌*◌, if◌then◌else◌, List}
use Rattle.ir_tree.specs.Shape.{InstShape, NamedTyShape}
use Rattle.ir_rules.specs.Values.{gives_value}
use Rattle.ir_proper.specs.Limits.{more_operands, phi_count, TakesRoom}

-- the weight of an instruction
abbrev pub inst_weight : InstShape → ℕ
inst_weight x = 256 + 128 * more_operands x.body

-- whether an instruction gives a value, as a count
abbrev pub value_count : InstShape → ℕ
value_count x = if gives_value x then 1 else 0

-- the bytes that an instruction takes in a frame apart from what it makes room for: five words for a value that it gives, three for a phi
abbrev pub own_bytes : InstShape → ℕ
own_bytes x = 40 * value_count x + 24 * phi_count x.body

-- the bytes that an instruction takes in a frame
abbrev pub TakesBytes : List NamedTyShape → InstShape → ℕ → Type 0
TakesBytes ts x n = (room : ℕ) × TakesRoom ts x.body room × (n ≡ room + own_bytes x)
