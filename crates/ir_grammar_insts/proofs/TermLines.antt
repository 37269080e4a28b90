-- The rule of terminators, told by the first word, spells what its six lines spell.
use Rattle.std.proofs.Common.{◌≡◌, List, ◌∷◌, Some, inl, inr, refl}
use Rattle.grammar.specs.Language.{Mark, mark}
use Rattle.ir_tree.specs.Shape.{BodyShape}
use Rattle.ir_words.specs.declared.words.Keyword.TheVariants.{Br, Switch, Ret, Unreachable}
use Rattle.ir_lex.specs.Symbols.{Symbol, KeywordSymbol}
use Rattle.ir_grammar_insts.specs.Terminators.{term_head, term_rest, term, br_word, switch_word, ret_word, unreachable_word, term_lines}
use Rattle.ir_grammar_insts.specs.declared.heads.TermHead.{TermHead}
use Rattle.ir_grammar_insts.specs.declared.heads.TermHead.TheVariants.{BrWord, SwitchWord, RetWord, UnreachableWord}

br_known : (t : Symbol) → term_head t ≡ Some BrWord → br_word t ≡ Some mark
br_known (KeywordSymbol Br) e = refl
br_known (KeywordSymbol Switch) e = cc
br_known (KeywordSymbol Ret) e = cc
br_known (KeywordSymbol Unreachable) e = cc
br_known _ e = cc

switch_known : (t : Symbol) → term_head t ≡ Some SwitchWord → switch_word t ≡ Some mark
switch_known (KeywordSymbol Br) e = cc
switch_known (KeywordSymbol Switch) e = refl
switch_known (KeywordSymbol Ret) e = cc
switch_known (KeywordSymbol Unreachable) e = cc
switch_known _ e = cc

ret_known : (t : Symbol) → term_head t ≡ Some RetWord → ret_word t ≡ Some mark
ret_known (KeywordSymbol Br) e = cc
ret_known (KeywordSymbol Switch) e = cc
ret_known (KeywordSymbol Ret) e = refl
ret_known (KeywordSymbol Unreachable) e = cc
ret_known _ e = cc

unreachable_known : (t : Symbol) → term_head t ≡ Some UnreachableWord → unreachable_word t ≡ Some mark
unreachable_known (KeywordSymbol Br) e = cc
unreachable_known (KeywordSymbol Switch) e = cc
unreachable_known (KeywordSymbol Ret) e = cc
unreachable_known (KeywordSymbol Unreachable) e = refl
unreachable_known _ e = cc

lines_at : (ts : List Symbol) (w : BodyShape) (t : Symbol) (q : List Symbol) (head : TermHead) → ts ≡ t ∷ q → term_head t ≡ Some head
    → term_rest head q w → term_lines ts w
lines_at ts w t q BrWord cut e (inl u) = inl (t, q, mark, cut, br_known t e, u)
lines_at ts w t q BrWord cut e (inr u) = inr (inl (t, q, mark, cut, br_known t e, u))
lines_at ts w t q SwitchWord cut e u = inr (inr (inl (t, q, mark, cut, switch_known t e, u)))
lines_at ts w t q RetWord cut e (inl u) = inr (inr (inr (inl (t, q, mark, cut, ret_known t e, u))))
lines_at ts w t q RetWord cut e (inr u) = inr (inr (inr (inr (inl (t, q, mark, cut, ret_known t e, u)))))
lines_at ts w t q UnreachableWord cut e u = inr (inr (inr (inr (inr (t, q, mark, cut, unreachable_known t e, u)))))

pub term_as_lines : (ts : List Symbol) (w : BodyShape) → term ts w → term_lines ts w
term_as_lines ts w word = lines_at ts w word.0 word.1 word.2 word.3 word.4 word.5

br_head : (t : Symbol) (k : Mark) → br_word t ≡ Some k → term_head t ≡ Some BrWord
br_head (KeywordSymbol Br) k e = refl
br_head _ k e = cc

switch_head : (t : Symbol) (k : Mark) → switch_word t ≡ Some k → term_head t ≡ Some SwitchWord
switch_head (KeywordSymbol Switch) k e = refl
switch_head _ k e = cc

ret_head : (t : Symbol) (k : Mark) → ret_word t ≡ Some k → term_head t ≡ Some RetWord
ret_head (KeywordSymbol Ret) k e = refl
ret_head _ k e = cc

unreachable_head : (t : Symbol) (k : Mark) → unreachable_word t ≡ Some k → term_head t ≡ Some UnreachableWord
unreachable_head (KeywordSymbol Unreachable) k e = refl
unreachable_head _ k e = cc

pub lines_as_term : (ts : List Symbol) (w : BodyShape) → term_lines ts w → term ts w
lines_as_term ts w (inl u) = (u.0, u.1, BrWord, u.3, br_head u.0 u.2 u.4, inl u.5)
lines_as_term ts w (inr (inl u)) = (u.0, u.1, BrWord, u.3, br_head u.0 u.2 u.4, inr u.5)
lines_as_term ts w (inr (inr (inl u))) = (u.0, u.1, SwitchWord, u.3, switch_head u.0 u.2 u.4, u.5)
lines_as_term ts w (inr (inr (inr (inl u)))) = (u.0, u.1, RetWord, u.3, ret_head u.0 u.2 u.4, inl u.5)
lines_as_term ts w (inr (inr (inr (inr (inl u))))) = (u.0, u.1, RetWord, u.3, ret_head u.0 u.2 u.4, inr u.5)
lines_as_term ts w (inr (inr (inr (inr (inr u))))) = (u.0, u.1, UnreachableWord, u.3, unreachable_head u.0 u.2 u.4, u.5)
