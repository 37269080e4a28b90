-- Flags that are read one after another.
use Rattle.std.specs.Prelude.{Bool, not, ◌||◌}
use Rattle.ir_tree.specs.declared.module.Flags.{Flags}

-- these flags with `nuw`, or else with `nsw`
abbrev pub with_flag : Flags → Bool → Flags
with_flag flags nuw = record { nuw = flags.nuw || nuw; nsw = flags.nsw || not nuw; exact = flags.exact }
