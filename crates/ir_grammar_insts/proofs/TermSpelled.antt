-- The spelling of a terminator is a word of the grammar.
use Rattle.std.proofs.Common.{ℕ, List, [], ◌∷◌, ◌++◌, inl, inr, refl}
use Rattle.grammar.specs.Language.{mark}
use Rattle.ir_tree.specs.Shape.{CaseShape, BodyShape, jump, branch, switch, return_void, return_value, unreachable}
use Rattle.ir_words.specs.declared.words.Keyword.TheVariants.{Void, Br, Switch, Ret, Unreachable}
use Rattle.ir_lex.specs.Symbols.{Symbol, KeywordSymbol, NumberSymbol, MarkSymbol}
use Rattle.ir_grammar_consts.specs.Spelling.{ty_spelling}
use Rattle.ir_grammar_consts.proofs.TypeSpelled.{spelled_ty}
use Rattle.ir_grammar_insts.specs.Operands.{target}
use Rattle.ir_grammar_insts.specs.Terminators.{more_target, switch_case, term}
use Rattle.ir_grammar_insts.specs.declared.heads.TermHead.TheVariants.{BrWord, SwitchWord, RetWord, UnreachableWord}
use Rattle.ir_grammar_insts.specs.Spelling.{ty_val_spelling, more, in_a_row, target_spelling, case_spelling, body_spelling, FitsCase, FitsTerm}
use Rattle.ir_grammar_insts.proofs.OperandSpelled.{spelled_ty_val, spelled_more, spelled_target, spelled_until}

spelled_more_target : (name : List ℕ) → more_target (more target_spelling name) name
spelled_more_target name = spelled_more target target_spelling name (spelled_target name)

pub spelled_case : (v : CaseShape) → FitsCase v → switch_case (case_spelling v) v
spelled_case v h = (
  (v.ty, (v.value, v.to)),
  (
    ty_spelling v.ty,
    NumberSymbol v.value ∷ more target_spelling v.to,
    refl,
    spelled_ty v.ty h,
    (NumberSymbol v.value ∷ [], more target_spelling v.to, refl, (NumberSymbol v.value, [], v.value, refl, refl, (refl, refl)), spelled_more_target v.to),
  ),
  refl,
)

pub spelled_term : (v : BodyShape) → FitsTerm v → term (body_spelling v) v
spelled_term (jump to) h = (KeywordSymbol Br, target_spelling to, BrWord, refl, refl, inl (to, spelled_target to, refl))
spelled_term (branch c x y) h = (
  KeywordSymbol Br,
  ty_val_spelling c ++ (more target_spelling x ++ more target_spelling y),
  BrWord,
  refl,
  refl,
  inr (
    (c, (x, y)),
    (
      ty_val_spelling c,
      more target_spelling x ++ more target_spelling y,
      refl,
      spelled_ty_val c h,
      (more target_spelling x, more target_spelling y, refl, spelled_more_target x, spelled_more_target y),
    ),
    refl,
  ),
)
spelled_term (switch x to cases) h =
    let last : List Symbol = in_a_row case_spelling cases ++ MarkSymbol 93 ∷ [] in (
      KeywordSymbol Switch,
      ty_val_spelling x ++ (more target_spelling to ++ MarkSymbol 91 ∷ last),
      SwitchWord,
      refl,
      refl,
      (
        (x, (to, cases)),
        (
          ty_val_spelling x,
          more target_spelling to ++ MarkSymbol 91 ∷ last,
          refl,
          spelled_ty_val x h.0,
          (
            more target_spelling to,
            MarkSymbol 91 ∷ last,
            refl,
            spelled_more_target to,
            (MarkSymbol 91, last, mark, refl, refl, spelled_until switch_case case_spelling FitsCase spelled_case 93 refl cases h.1),
          ),
        ),
        refl,
      ),
    )
spelled_term return_void h = (KeywordSymbol Ret, KeywordSymbol Void ∷ [], RetWord, refl, refl, inl (KeywordSymbol Void, [], mark, refl, refl, (refl, refl)))
spelled_term (return_value x) h = (KeywordSymbol Ret, ty_val_spelling x, RetWord, refl, refl, inr (x, spelled_ty_val x h, refl))
spelled_term unreachable h = (KeywordSymbol Unreachable, [], UnreachableWord, refl, refl, (refl, refl))
spelled_term _ h = absurd h
