use Rattle.std.proofs.Common.{arith}
use Rattle.ir_tree.proofs.Grows.{and_left, and_right}
use Rattle.ir_parse.proofs.Bodies.{function_read, function_known_of, function_spotted, grown_after}
use Rattle.ir_parse.proofs.functions.function_line_at.Goals as goal

pub returns-clause-known : goal.returns-clause-known
returns-clause-known c =
    let signature = c.in_ok-signature.signature in
    let known = c.in_ok-signature.ensures.known in
    function_known_of c.in_ok-body.ensures.grows signature.ret signature.name signature.params c.in_ok-body.body.blocks (and_left _ _ (and_left _ _ known)) (and_right _ _ (and_left _ _ known)) (and_right _ _ known) c.in_ok-body.ensures.known

pub returns-clause-reads : goal.returns-clause-reads
returns-clause-reads c =
    let signature = c.in_ok-signature.signature in
    let known = c.in_ok-signature.ensures.known in (
      function_read c.in_ok-body.ensures.grows c.args.budget _ _ _ _ _ signature.ret signature.name signature.params c.in_ok-body.body.blocks (and_left _ _ (and_left _ _ known)) (and_right _ _ (and_left _ _ known)) (and_right _ _ known)
          c.in_ok-after_word.ensures.steps.0 c.in_ok-signature.ensures.reads.0 c.in_ok-after_brace.ensures.steps.0 (rw c.deref.ensures.value at c.in_ok-body.ensures.reads.0),
      c.in_ok-body.ensures.reads.1,
    )

pub returns-clause-spots : goal.returns-clause-spots
returns-clause-spots c =
    let signed = grown_after c.in_ok-signature.ensures.grows c.in_ok-after_word.after_word c.in_ok-signature.after_signature c.in_ok-signature.ensures.count in
    let body = grown_after c.in_ok-body.ensures.grows c.in_ok-after_brace.after_brace c.in_ok-body.end c.in_ok-body.ensures.count in
    function_spotted c.args.text.now c.args.toks.now c.args.budget c.args.at c.in_ok-after_word.after_word c.in_ok-signature.after_signature c.in_ok-after_brace.after_brace c.in_ok-body.end _ _ _ c.requires.within c.in_ok-after_brace.ensures.steps.1 (omega (arith, signed, c.in_ok-after_word.ensures.next, c.in_ok-after_brace.ensures.next)) body
    c.in_ok-after_word.ensures.steps.0 c.in_ok-signature.ensures.reads.0 c.in_ok-after_brace.ensures.steps.0 c.in_ok-body.ensures.spots
