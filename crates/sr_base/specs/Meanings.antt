use Rattle.std.specs.Prelude.{ℕ, List, Option}
use Rattle.sr_base.specs.Files.{Files}

-- what contracts know of a store: its files by name, where it tells them, and three counts that never fall
pub record StoreMeaning : Type 0 where
  pub files : Option Files
  pub read_faults : ℕ
  pub write_faults : ℕ
  pub write_wants : ℕ

-- what contracts know of a sink: the bytes taken, where it tells them, and two counts that never fall
pub record SinkMeaning : Type 0 where
  pub taken : Option (List ℕ)
  pub faults : ℕ
  pub wants : ℕ
