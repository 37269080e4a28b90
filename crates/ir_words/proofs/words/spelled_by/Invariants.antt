use Rattle.std.proofs.Common.{◌≡◌, drop}
use Rattle.ir_words.specs.Words.{spelled_by}
use Rattle.ir_words.proofs.words.spelled_by.Given as goal

abbrev pub invariant-loop-keyword : goal.invariant-loop-keyword
invariant-loop-keyword l = spelled_by l.keywords l.word ≡ spelled_by (drop l.keyword-index l.keywords) l.word
