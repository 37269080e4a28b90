-- What a command means.
use Rattle.std.specs.Prelude.{List, ℕ, Option}
use Rattle.std.specs.Borrow.{Bor}
use Rattle.std.specs.Option.{option_map, ForSome}
use Rattle.rv_model.specs.Run.{FlipFits}
use Rattle.sr_command.specs.Words.{Form, compile, execute, evaluate, disasm, print}
use Rattle.sr_command.specs.declared.words.Command.{Command}
use Rattle.sr_command.specs.declared.words.Command.TheVariants.{Compile, Execute, Evaluate, Disasm, Print}

-- the bytes of a word that may be there
abbrev pub word_bytes : Option (Bor (List ℕ)) → Option (List ℕ)
word_bytes word = option_map (λ w. w.now) word

-- the form that a command stands for
abbrev pub meant : Command → Form
meant (Compile input output) = compile input.now output.now
meant (Execute program input steps flip) = execute program.now (word_bytes input) steps flip
meant (Evaluate text input steps) = evaluate text.now (word_bytes input) steps
meant (Disasm program) = disasm program.now
meant (Print input) = print input.now

-- the flip of the command, if it has one, is of a register and a bit that are there
abbrev pub HasGoodFlip : Command → Type 0
HasGoodFlip (Compile input output) = Unit {0}
HasGoodFlip (Execute program input steps flip) = ForSome flip FlipFits
HasGoodFlip (Evaluate text input steps) = Unit {0}
HasGoodFlip (Disasm program) = Unit {0}
HasGoodFlip (Print input) = Unit {0}
