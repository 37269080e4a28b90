use Rattle.std.proofs.Common.{◌≡◌, ◌-◌, ◌≤◌, length, take, drop, sym, ap, ◌∙◌, arith}
use Rattle.std.proofs.lemmas.List.{take_rest, length-drop}
use Rattle.ir_lex.specs.Meaning.{escape}
use Rattle.ir_lex.proofs.Escapes.{spelled-on, spelled-end, byte-pushed}
use Rattle.ir_lex.proofs.meaning.unescaped.Goals as goal

pub loop-at-preserved : goal.loop-at-preserved
loop-at-preserved c =
    let body = c.args.body.now in
    let at = c.loop-at.at in
    let rest : take (length body - at) (drop at body) ≡ drop at body = take_rest body at in
    let spelled : c.escape-byte.result ≡ escape (drop at body) = c.escape-byte.ensures.value ∙ ap escape rest in
    let within : c.escape-byte.result.1 ≤ length (drop at body) = rw rest at c.escape-byte.ensures.within in
    let short : length (drop at body) ≡ length body - at = simp length-drop in
    record {
      within = omega (arith, c.loop-at-test.true);
      same = c.loop-at.invariant.same ∙ byte-pushed _ _ _ _ _ c.in_ok-push.ensures.items (spelled-on body at c.escape-byte.result c.loop-at-test.true spelled c.escape-byte.ensures.some);
    }

pub returns : goal.returns
returns c = sym (c.loop-at.invariant.same ∙ spelled-end c.args.body.now c.loop-at.bytes.items c.loop-at.at c.loop-at-test.false)
