-- No type and no constant ends in a bracket that opens.
use Rattle.std.proofs.Common.{◌≡◌, ℕ, Bool, true, false, List, [], ◌∷◌, ◌++◌, Some, None, refl, sym, ◌∙◌, ap, subst, if◌then◌else◌, is_some}
use Rattle.grammar.specs.Language.{Lang, Mark, one, skip, seq}
use Rattle.grammar.proofs.Recursion.{recursive_out}
use Rattle.ir_tree.specs.Shape.{TyShape, ConstShape}
use Rattle.ir_lex.specs.Symbols.{Symbol, MarkSymbol}
use Rattle.ir_cursor.specs.Marks.{punct}
use Rattle.ir_grammar_consts.specs.Types.{count, times, TyHead, WholeType, ArrayOpen, FieldsOpen, PackedOpen, ty_head, ty_rest, ty_rule, ty}
use Rattle.ir_grammar_consts.specs.Constants.{address_flags, ConstHead, WholeConst, ElementsOpen, ValuesOpen, PackedValuesOpen, AddressOpen, const_head, typed_const, const_rest, const_rule, const}
use Rattle.ir_grammar_consts.proofs.Sides.{punct_is}
use Rattle.ir_grammar_consts.proofs.Ends.{Ends, ends_skip, ends_seq, ends_map, ends_up_to, ends_listed, ends_until}
use Rattle.ir_grammar_consts.proofs.DeepLaw.{closed_end}
use Rattle.ir_grammar_consts.proofs.TypeLaw.{regular_ty}
use Rattle.ir_grammar_consts.proofs.ConstLaw.{regular_const}

closing_end : (b : ℕ) → closed_end (MarkSymbol b) ≡ true → (t : Symbol) (k : Mark) → punct b t ≡ Some k → closed_end t ≡ true
closing_end b e t k h = subst (λ z. closed_end z ≡ true) (sym (punct_is b t (ap is_some h))) e

bracket_not_whole : (b c d : Bool) (t : TyShape) → (if b then Some ArrayOpen else (if c then Some FieldsOpen else (if d then Some PackedOpen else None))) ≡ Some (WholeType t) → ⊥
bracket_not_whole true c d t h = cc
bracket_not_whole false true d t h = cc
bracket_not_whole false false true t h = cc
bracket_not_whole false false false t h = cc

whole_type_end : (s : Symbol) (t : TyShape) → ty_head s ≡ Some (WholeType t) → closed_end s ≡ true
whole_type_end (MarkSymbol b) t h = absurd (bracket_not_whole _ _ _ t h)
whole_type_end _ t h = refl

const_bracket_not_whole : (b c d : Bool) (v : ConstShape) → (if b then Some ElementsOpen else (if c then Some ValuesOpen else (if d then Some PackedValuesOpen else None))) ≡ Some (WholeConst v) → ⊥
const_bracket_not_whole true c d t h = cc
const_bracket_not_whole false true d t h = cc
const_bracket_not_whole false false true t h = cc
const_bracket_not_whole false false false t h = cc

whole_const_end : (s : Symbol) (c : ConstShape) → const_head s ≡ Some (WholeConst c) → closed_end s ≡ true
whole_const_end (MarkSymbol b) c h = absurd (const_bracket_not_whole _ _ _ c h)
whole_const_end _ c h = refl

-- the last symbol of a list after a first one
abbrev Last : List Symbol → Type 0
Last ts = (front : List Symbol) × (t : Symbol) × (ts ≡ front ++ t ∷ []) × (closed_end t ≡ true)

behind : (s : Symbol) (q ts : List Symbol) → ts ≡ s ∷ q → Last q → Last ts
behind s q ts cut last = (s ∷ last.0, last.1, cut ∙ ap (λ z. s ∷ z) last.2, last.3)

ty_last : (L : Lang Symbol TyShape) (s : Symbol) (head : TyHead) → ty_head s ≡ Some head → (ts q : List Symbol) (t : TyShape) → ts ≡ s ∷ q → ty_rest L head q t → Last ts
ty_last L s (WholeType u) e ts q t cut word = ([], s, cut ∙ ap (λ z. s ∷ z) word.0, whole_type_end s u e)
ty_last L s ArrayOpen e ts q t cut word =
    behind s q ts cut ((ends_map _ (ends_up_to (punct 93) (seq (one count) (skip times L)) (closing_end 93 refl))).at q t word)
ty_last L s FieldsOpen e ts q t cut word =
    behind s q ts cut ((ends_map _ (ends_listed (punct 44) (punct 125) L (closing_end 125 refl))).at q t word)
ty_last L s PackedOpen e ts q t cut word =
    behind s q ts cut ((ends_skip (punct 123) (ends_map _ (ends_up_to (punct 62) _ (closing_end 62 refl)))).at q t word)

pub ends_ty : Ends closed_end ty
ends_ty = record {
  at = λ ts t word.
      let u = (recursive_out ty_rule regular_ty).at ts t word in
      ty_last ty u.0 u.2 u.4 ts u.1 t u.3 u.5;
}

const_last : (L : Lang Symbol ConstShape) (s : Symbol) (head : ConstHead) → const_head s ≡ Some head → (ts q : List Symbol) (c : ConstShape) → ts ≡ s ∷ q → const_rest L head q c → Last ts
const_last L s (WholeConst u) e ts q c cut word = ([], s, cut ∙ ap (λ z. s ∷ z) word.0, whole_const_end s u e)
const_last L s ElementsOpen e ts q c cut word =
    behind s q ts cut ((ends_map _ (ends_listed (punct 44) (punct 93) (typed_const L) (closing_end 93 refl))).at q c word)
const_last L s ValuesOpen e ts q c cut word =
    behind s q ts cut ((ends_map _ (ends_listed (punct 44) (punct 125) (typed_const L) (closing_end 125 refl))).at q c word)
const_last L s PackedValuesOpen e ts q c cut word =
    behind s q ts cut ((ends_skip (punct 123) (ends_map _ (ends_up_to (punct 62) _ (closing_end 62 refl)))).at q c word)
const_last L s AddressOpen e ts q c cut word =
    behind s q ts cut
    ((ends_map _ (ends_seq address_flags (ends_skip (punct 40) (ends_seq ty (ends_skip (punct 44) (ends_seq (typed_const L)
    (ends_until (punct 41) (skip (punct 44) (typed_const L)) (closing_end 41 refl)))))))).at q c word)

pub ends_const : Ends closed_end const
ends_const = record {
  at = λ ts c word.
      let u = (recursive_out const_rule regular_const).at ts c word in
      const_last const u.0 u.2 u.4 ts u.1 c u.3 u.5;
}
