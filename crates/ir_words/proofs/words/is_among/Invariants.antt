use Rattle.std.proofs.Common.{◌≡◌, drop, map}
use Rattle.ir_words.specs.Words.{is_among}
use Rattle.ir_words.proofs.words.is_among.Given as goal

abbrev pub invariant-loop-spelling : goal.invariant-loop-spelling
invariant-loop-spelling l = is_among (map (λ w. w.now) l.words) l.word ≡ is_among (map (λ w. w.now) (drop l.spelling-index l.words)) l.word
