use Rattle.std.proofs.Common.{◌≡◌, ◌+◌, ◌∷◌, drop, Some, sym, ◌∙◌, ap, slice_get}
use Rattle.ir_lex.specs.Symbols.{symbols_of}
use Rattle.ir_cursor.proofs.Cursor.{got_there, drop_symbols, within_symbols}
use Rattle.ir_cursor.proofs.meaning_at.Goals as goal

pub returns-in-Some : goal.returns-in-Some
returns-in-Some c =
    let there : slice_get c.args.toks.now c.args.at ≡ Some c.in-Some.token.now =
    got_there c.args.toks.now c.args.at c.in-Some.token.now c.in-Some.ensures.lookup.3.0 (c.in-Some.ensures.lookup.3.1 c.in-Some.token.now) in (
      drop_symbols c.args.text.now c.args.toks.now c.args.at c.in-Some.token.now there
          ∙ ap (λ z. z ∷ drop (c.args.at + 1) (symbols_of c.args.text.now c.args.toks.now)) (sym c.meaning_of.ensures),
      within_symbols c.args.text.now c.args.toks.now c.args.at c.in-Some.token.now there,
    )
