use Rattle.std.specs.Prelude.{ℕ, List, Option}

-- what a command gives where nothing fails: an executable, what is put on `out`, and the line on `note`
pub record Yield : Type 0 where
  pub image : Option (List ℕ)
  pub text : List ℕ
  pub line : List ℕ
