use Rattle.std.proofs.Common.{◌≡◌, ◌-◌, ◌≤◌, ◌||◌, Bool, true, false, not, length, take, drop, refl, sym, ap, ◌∙◌, arith}
use Rattle.std.proofs.lemmas.List.{take_rest, length-drop}
use Rattle.ir_lex.specs.Meaning.{escape}
use Rattle.ir_lex.proofs.Escapes.{begins-on, begins-short, begins-end, empty-rest, differs, agrees}
use Rattle.ir_lex.proofs.meaning.begins_as.Goals as goal

if_whole : (whole rest : Bool) → whole ≡ true → (not whole || rest) ≡ rest
if_whole whole rest h = rw h refl

if_not_whole : (whole rest : Bool) → whole ≡ false → (not whole || rest) ≡ true
if_not_whole whole rest h = rw h refl

pub returns-then-at-body : goal.returns-then-at-body
returns-then-at-body c =
    sym (c.loop-b.invariant.same ∙ begins-short c.args.whole c.args.body.now c.args.start.now c.loop-b.at c.loop-b.b-index c.if-at-body.true c.loop-b-test.true)

pub returns-then-byte-b : goal.returns-then-byte-b
returns-then-byte-b c =
    let body = c.args.body.now in
    let at = c.loop-b.at in
    let spelled : c.escape-byte.result ≡ escape (drop at body) = c.escape-byte.ensures.value ∙ ap escape (take_rest body at) in
    sym (c.loop-b.invariant.same
    ∙ begins-on c.args.whole body c.args.start.now at c.loop-b.b-index c.escape-byte.result c.if-at-body.false c.loop-b-test.true spelled c.escape-byte.ensures.some
    ∙ differs _ _ _ c.if-byte-b.true)

pub loop-b-preserved : goal.loop-b-preserved
loop-b-preserved c =
    let body = c.args.body.now in
    let at = c.loop-b.at in
    let rest : take (length body - at) (drop at body) ≡ drop at body = take_rest body at in
    let spelled : c.escape-byte.result ≡ escape (drop at body) = c.escape-byte.ensures.value ∙ ap escape rest in
    let within : c.escape-byte.result.1 ≤ length (drop at body) = rw rest at c.escape-byte.ensures.within in
    let short : length (drop at body) ≡ length body - at = simp length-drop in
    record {
      within = omega arith;
      same =
          c.loop-b.invariant.same
          ∙ begins-on c.args.whole body c.args.start.now at c.loop-b.b-index c.escape-byte.result c.if-at-body.false c.loop-b-test.true spelled c.escape-byte.ensures.some
          ∙ agrees _ _ _ c.if-byte-b.false;
    }

pub returns-then-whole : goal.returns-then-whole
returns-then-whole c =
    sym (c.loop-b.invariant.same
    ∙ begins-end c.args.whole c.args.body.now c.args.start.now c.loop-b.at c.loop-b.b-index c.loop-b-test.false
    ∙ if_whole c.args.whole _ c.if-whole.true
    ∙ empty-rest c.args.body.now c.loop-b.at c.loop-b.invariant.within)

pub returns-else-whole : goal.returns-else-whole
returns-else-whole c =
    sym (c.loop-b.invariant.same
    ∙ begins-end c.args.whole c.args.body.now c.args.start.now c.loop-b.at c.loop-b.b-index c.loop-b-test.false
    ∙ if_not_whole c.args.whole _ c.if-whole.false)
