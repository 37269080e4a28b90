use Rattle.std.proofs.Common.{ap, ◌∙◌}
use Rattle.ir_words.specs.Words.{spelled_by, language_word}
use Rattle.ir_words.proofs.words.language_word.Goals as goal

pub returns : goal.returns
unfolding language_word
returns c = c.spelled_by.ensures ∙ ap (λ keywords. spelled_by keywords c.args.word.now) c.language_keywords_are_listed.ensures
