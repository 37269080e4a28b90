-- the blocks so far and those still to come are the list; the names only grow
use Rattle.std.proofs.Common.{◌-◌}
use Rattle.ir_parse.proofs.Bodies.{BlocksRead}
use Rattle.ir_parse.proofs.functions.more_blocks_at.Given as goal

abbrev pub invariant-loop : goal.invariant-loop
invariant-loop l = BlocksRead (l.budget - l.counter) l.budget l.text l.toks l.initial.names l.names l.blocks.items l.spots.items l.at l.next
