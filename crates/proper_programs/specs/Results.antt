-- Which values the phis and the instructions of a function give, by number.
use Rattle.std.specs.Prelude.{◌≡◌, ◌-◌, ◌≤◌, ◌<◌, ℕ, List, ◌++◌, map, Some, slice_get, flat_map}
use Rattle.std.specs.List.{filter_map, range_with_len}
use Rattle.ir_model.specs.Programs.{Block, Function}

-- the numbers of the values that a block gives: those of its phis, then those of its other instructions
abbrev pub block_results : Block → List ℕ
block_results b = map (λ x. x.result) b.phis ++ filter_map (λ x. x.result) b.body

-- those that a function gives, block after block
abbrev pub function_results : Function → List ℕ
function_results f = flat_map block_results f.blocks

-- a function gives the values above its parameters one after the other
pub record GivesInOrder (f : Function) : Type 0 where
  pub fits : f.params ≤ f.values
  pub order : function_results f ≡ range_with_len f.params (f.values - f.params)

-- it gives each value above its parameters at one place, and no other
pub record GivesOnce (f : Function) : Type 0 where
  pub above : (place n : ℕ) → slice_get (function_results f) place ≡ Some n → (f.params ≤ n) × (n < f.values)
  pub each : (n : ℕ) → f.params ≤ n → n < f.values → (place : ℕ) × (slice_get (function_results f) place ≡ Some n)
  pub once : (place other n : ℕ) → slice_get (function_results f) place ≡ Some n → slice_get (function_results f) other ≡ Some n → place ≡ other
