-- The tokens of a text lie in it, one after another.
use Rattle.std.proofs.Common.{◌≡◌, ℕ, ◌+◌, ◌≤◌, Bool, List, [], ◌∷◌, length, ap, arith}
use Rattle.std.proofs.lemmas.List.{length-append}
use Rattle.ir_lex.specs.Tokens.{Path, here, blank, comment, next, AreTokens, LieFrom}
use Rattle.ir_lex.specs.declared.token.Token.{Token}
use Rattle.ir_lex.proofs.Unique.{fits-long}

lie-before : (a at size : ℕ) (toks : List Token) → a ≤ at → LieFrom at size toks → LieFrom a size toks
lie-before a at size [] h l = omega arith
lie-before a at size (t ∷ toks) h l = (omega (arith, l.0), l.1, l.2)

path-lies : {at to : ℕ} {fresh left : Bool} {text rest : List ℕ} {toks : List Token} (size : ℕ) → Path at fresh text toks to left rest → at + length text ≡ size → LieFrom at size toks
path-lies size here e = omega arith
path-lies size (blank {at = at} {toks = toks} b p) e = lie-before at (at + 1) size toks (omega arith) (path-lies size p (omega (arith, e)))
path-lies size (comment {at = at} {toks = toks} body after cut passes stops p) e =
    lie-before at (at + (1 + length body)) size toks (omega arith) (path-lies size p (omega (arith, e, ap length cut, length-append body after)))
path-lies size (next {at = at} k w after gap token p) e =
    (omega arith, omega (arith, fits-long k _ w after token.fits), path-lies size p (omega (arith, e, ap length token.fits.cut, length-append w after)))

pub tokens_lie : (text : List ℕ) (toks : List Token) → AreTokens text toks → LieFrom 0 (length text) toks
tokens_lie text toks t = path-lies (length text) t.1 (omega arith)
