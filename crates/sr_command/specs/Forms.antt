-- The promise of each form of words.
pub mod Compile
pub mod Disasm
pub mod Evaluate
pub mod Execute
pub mod Print
use Rattle.sr_command.specs.Promise.{Promise}
use Rattle.sr_command.specs.Words.{Form, compile, execute, evaluate, disasm, print}
use Rattle.sr_command.specs.Forms.Compile.{compiling}
use Rattle.sr_command.specs.Forms.Disasm.{listing}
use Rattle.sr_command.specs.Forms.Evaluate.{evaluating}
use Rattle.sr_command.specs.Forms.Execute.{executing}
use Rattle.sr_command.specs.Forms.Print.{printing}

-- what a form promises
abbrev pub promise_of : Form → Promise
promise_of (compile input output) = compiling input output
promise_of (execute program input steps flip) = executing program input steps flip
promise_of (evaluate text input steps) = evaluating text input steps
promise_of (disasm program) = listing program
promise_of (print input) = printing input
