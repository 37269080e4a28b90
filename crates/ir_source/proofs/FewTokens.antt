-- A text has at most as many tokens as bytes, and no more of them are kept.
use Rattle.std.proofs.Common.{ℕ, zero, suc, ◌+◌, ◌-◌, ◌≤◌, Bool, true, false, if◌then◌else◌, List, [], ◌∷◌, length, Option, arith}
use Rattle.std.specs.Prelude.{is_some, unwrap_or}
use Rattle.ir_lex.specs.Tokens.{AreTokens, LieFrom}
use Rattle.ir_lex.specs.Quiet.{left_after, phrase_len, without, kept_of}
use Rattle.ir_lex.specs.declared.token.Token.{Token}
use Rattle.ir_lex.specs.declared.phrases.Rule.{Rule}
use Rattle.ir_lex.specs.declared.phrases.Rule.TheVariants.{HeaderLines, NoteLines, MetaPairs, Alignments, Hashes, Groups, QuietWords}
use Rattle.ir_lex.proofs.InOrder.{tokens_lie}

few_either : (b : Bool) (xs ys : List Token) (n : ℕ) → length xs ≤ n → length ys ≤ n → length (if b then xs else ys) ≤ n
few_either true xs ys n h k = h
few_either false xs ys n h k = k

left_few : (phrase : List Token → Option ℕ) (skip : ℕ) (toks : List Token) → length (left_after phrase skip toks) ≤ length toks
unfolding left_after
left_few phrase skip [] = omega arith
left_few phrase zero (t ∷ toks) =
    let skipped = left_few phrase (unwrap_or (phrase (t ∷ toks)) 1 - 1) toks in
    let kept = left_few phrase 0 toks in
    few_either (is_some (phrase (t ∷ toks))) (left_after phrase (unwrap_or (phrase (t ∷ toks)) 1 - 1) toks) (t ∷ left_after phrase 0 toks) (length (t ∷ toks)) (omega (arith, skipped)) (omega (arith, kept))
left_few phrase (suc skip) (t ∷ toks) = let less = left_few phrase skip toks in omega (arith, less)

without_few : (text : List ℕ) (rule : Rule) (toks : List Token) (n : ℕ) → length toks ≤ n → length (without text rule toks) ≤ n
without_few text rule toks n h = omega (arith, h, left_few (phrase_len text rule) 0 toks)

kept_few : (text : List ℕ) (toks : List Token) (n : ℕ) → length toks ≤ n → length (kept_of text toks) ≤ n
kept_few text toks n h =
    without_few text QuietWords _ n (without_few text Groups _ n (without_few text Hashes _ n (without_few text Alignments _ n
    (without_few text MetaPairs _ n (without_few text NoteLines _ n (without_few text HeaderLines toks n h))))))

lie_few : (at size : ℕ) (toks : List Token) → LieFrom at size toks → at + length toks ≤ size
lie_few at size [] l = omega (arith, l)
lie_few at size (t ∷ toks) l = omega (arith, l.0, l.1, lie_few t.end size toks l.2)

pub tokens_few : (text : List ℕ) (toks : List Token) → AreTokens text toks → length (kept_of text toks) ≤ length text
tokens_few text toks h = kept_few text toks (length text) (omega (arith, lie_few 0 (length text) toks (tokens_lie text toks h)))
