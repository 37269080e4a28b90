use Rattle.std.proofs.Common.{sym, ◌∙◌}
use Rattle.point_list.specs.Marks.{is_marked}
use Rattle.point_list.proofs.WalkLemmas.{no_words, no_marks, reached_is, marks_reached, marks_unreached}
use Rattle.point_list.proofs.walk.+walk.Goals as goal

pub mark_way-returns-then-words-eq0-clause-reaches : goal.mark_way-returns-then-words-eq0-clause-reaches
mark_way-returns-then-words-eq0-clause-reaches t c = no_words c.args.words c.if-words-eq0.true c.args.text.now c.args.base c.args.value c.args.start

pub mark_way-returns-then-words-eq0-clause-marks : goal.mark_way-returns-then-words-eq0-clause-marks
mark_way-returns-then-words-eq0-clause-marks t c k r =
    no_marks (is_marked c.args.marks.now k r) _ c.args.words c.if-words-eq0.true c.args.text.now c.args.base c.args.value c.args.start k

pub mark_way-returns-then-reached-clause-reaches : goal.mark_way-returns-then-reached-clause-reaches
mark_way-returns-then-reached-clause-reaches t c =
    reached_is c.args.text.now c.args.base c.args.value c.args.words c.args.start c.index-text-start.result c.uses-used.result c.mark_later-later.result
    c.if-words-eq0.false c.requires.within c.index-text-start.is c.uses-used.ensures c.mark_later-later.ensures.reaches

pub mark_way-returns-else-reached-clause-reaches : goal.mark_way-returns-else-reached-clause-reaches
mark_way-returns-else-reached-clause-reaches t c =
    reached_is c.args.text.now c.args.base c.args.value c.args.words c.args.start c.index-text-start.result c.uses-used.result c.mark_later-later.result
    c.if-words-eq0.false c.requires.within c.index-text-start.is c.uses-used.ensures c.mark_later-later.ensures.reaches

pub mark_way-returns-then-reached-clause-marks : goal.mark_way-returns-then-reached-clause-marks
mark_way-returns-then-reached-clause-marks t c k r =
    let reached = reached_is c.args.text.now c.args.base c.args.value c.args.words c.args.start c.index-text-start.result c.uses-used.result c.mark_later-later.result
    c.if-words-eq0.false c.requires.within c.index-text-start.is c.uses-used.ensures c.mark_later-later.ensures.reaches in
    marks_reached c.args.text.now c.args.base c.args.value c.args.words c.args.start k r (is_marked c.args.marks.now k r) (is_marked c.mark_later-later.new.marks k r) (is_marked c.set_mark.new.marks k r)
    c.if-words-eq0.false (sym reached ∙ c.if-reached.true) (c.mark_later-later.ensures.marks k r) (c.set_mark.ensures k r)

pub mark_way-returns-else-reached-clause-marks : goal.mark_way-returns-else-reached-clause-marks
mark_way-returns-else-reached-clause-marks t c k r =
    let reached = reached_is c.args.text.now c.args.base c.args.value c.args.words c.args.start c.index-text-start.result c.uses-used.result c.mark_later-later.result
    c.if-words-eq0.false c.requires.within c.index-text-start.is c.uses-used.ensures c.mark_later-later.ensures.reaches in
    marks_unreached c.args.text.now c.args.base c.args.value c.args.words c.args.start k r (is_marked c.args.marks.now k r) (is_marked c.mark_later-later.new.marks k r)
    c.if-words-eq0.false (sym reached ∙ c.if-reached.false) (c.mark_later-later.ensures.marks k r)
