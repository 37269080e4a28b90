-- Numbers of a width.
use Rattle.std.specs.Prelude.{◌≤◌, ◌<◌, ℕ, ◌^◌}

-- integers have 1 to 64 bits
pub record IsWidth (width : ℕ) : Type 0 where
  pub some : 1 ≤ width
  pub most : width ≤ 64

-- a number is its bits, of which there are so many
pub record IsNumber (width n : ℕ) : Type 0 where
  pub bits : IsWidth width
  pub below : n < 2 ^ width

-- two numbers of one width
pub record AreNumbers (width a b : ℕ) : Type 0 where
  pub bits : IsWidth width
  pub left : a < 2 ^ width
  pub right : b < 2 ^ width
