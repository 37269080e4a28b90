use Rattle.std.proofs.Common.{ap, ◌∙◌}
use Rattle.ir_words.specs.Words.{listed, dropped_word}
use Rattle.ir_words.proofs.words.dropped_word.Goals as goal

pub returns : goal.returns
unfolding dropped_word
returns c = c.listed.ensures ∙ ap (λ rows. listed rows c.args.word.now) c.dropped_words_are_listed.ensures
