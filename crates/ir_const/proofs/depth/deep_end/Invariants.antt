-- the brackets that are open, and the count from here on
use Rattle.std.proofs.Common.{◌≡◌, ◌≤◌}
use Rattle.ir_grammar_consts.specs.Counting.{deep_len}
use Rattle.ir_const.specs.Answers.{symbols_from}
use Rattle.ir_const.specs.Places.{cut_of}
use Rattle.ir_const.proofs.depth.deep_end.Given as goal

abbrev pub invariant-loop-at : goal.invariant-loop-at
invariant-loop-at l =
    (cut_of l.from (deep_len 0 (symbols_from l.text l.toks l.from)) ≡ cut_of l.at (deep_len l.depth (symbols_from l.text l.toks l.at))) × (l.depth ≤ 64)
