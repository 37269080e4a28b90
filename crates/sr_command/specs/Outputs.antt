-- What is to be written.
use Rattle.std.specs.Prelude.{ℕ, List, Option}
use Rattle.std.specs.Option.{option_map}
use Rattle.sr_command.specs.declared.job.Output.{Output}

-- the name of what is to be written
abbrev pub output_name : Option Output → Option (List ℕ)
output_name output = option_map (λ o. o.name.now) output

-- its bytes
abbrev pub output_bytes : Option Output → Option (List ℕ)
output_bytes output = option_map (λ o. o.bytes.items) output
