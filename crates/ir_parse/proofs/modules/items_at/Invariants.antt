-- the items so far and those still to come are the module
use Rattle.std.proofs.Common.{◌-◌, length}
use Rattle.ir_parse.proofs.ItemsSoFar.{ItemsRead}
use Rattle.ir_parse.proofs.modules.items_at.Given as goal

abbrev pub invariant-loop : goal.invariant-loop
invariant-loop l = ItemsRead (length l.toks - l.counter) l.text l.toks l.names l.draft l.next
