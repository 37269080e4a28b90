use Rattle.std.proofs.Common.{◌≡◌, drop, map}
use Rattle.ir_words.specs.Words.{listed}
use Rattle.ir_words.proofs.words.listed.Given as goal

abbrev pub invariant-loop-spelling : goal.invariant-loop-spelling
invariant-loop-spelling l = listed (map (λ row. (row.0.now, row.1)) l.table) l.word ≡ listed (map (λ row. (row.0.now, row.1)) (drop l.spelling-index l.table)) l.word
