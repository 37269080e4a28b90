-- The law of the reader of types.
use Rattle.std.proofs.Common.{◌≡◌, ℕ, suc, [], ◌∷◌, refl, pos, Some}
use Rattle.grammar.specs.Language.{Lang, mark, empty, one, up_to, listed}
use Rattle.grammar.specs.Reader.{Reader, heads, run_up_to, run_listed}
use Rattle.grammar.proofs.Good.{never, Good, Starts}
use Rattle.grammar.proofs.Sides.{starts_pick, starts_recursive, joins_never}
use Rattle.grammar.proofs.Laws.{good_one, good_pick, good_map, good_seq, good_empty, good_next}
use Rattle.grammar.proofs.Lists.{good_listed}
use Rattle.grammar.proofs.Recursion.{Regular, regular_self, regular_fixed, regular_pick, regular_map, regular_seq, regular_skip, regular_up_to, regular_listed, good_recursive}
use Rattle.ir_tree.specs.Shape.{TyShape, pointer}
use Rattle.ir_words.specs.declared.words.Keyword.TheVariants.{Ptr, X}
use Rattle.ir_lex.specs.Symbols.{Symbol, KeywordSymbol, NumberSymbol, MarkSymbol}
use Rattle.ir_cursor.specs.Marks.{punct}
use Rattle.ir_grammar_consts.specs.Types.{times, count, TyHead, WholeType, ArrayOpen, FieldsOpen, PackedOpen, ty_head, ty_rest, ty_rule, ty, run_ty_rest, run_ty_rule, run_ty}
use Rattle.ir_grammar_consts.proofs.Sides.{punct_apart}

starts_ty_rule : (L : Lang Symbol TyShape) → Starts (heads ty_head) (ty_rule L)
starts_ty_rule L = starts_pick ty_head (ty_rest L)

pub starts_ty : Starts (heads ty_head) ty
starts_ty = starts_recursive ty_rule starts_ty_rule

regular_rest : (head : TyHead) → Regular (λ L. ty_rest L head)
regular_rest (WholeType t) = regular_fixed (empty t)
regular_rest ArrayOpen = regular_map _ (regular_up_to (punct 93) (regular_seq (regular_fixed (one count)) (regular_skip times regular_self)))
regular_rest FieldsOpen = regular_map _ (regular_listed (punct 44) (punct 125) regular_self)
regular_rest PackedOpen = regular_skip (punct 123) (regular_map _ (regular_up_to (punct 62) (regular_listed (punct 44) (punct 125) regular_self)))

pub regular_ty : Regular ty_rule
regular_ty = regular_pick ty_head regular_rest

-- a closed part up to a closing mark
pub good_closed_by : {V : Type 0} {n : ℕ} {a : Lang Symbol V} {r : Reader Symbol V} (b : ℕ) → punct b (MarkSymbol b) ≡ Some mark → Good n a r never
    → Good n (up_to (punct b) a) (run_up_to (punct b) r) never
good_closed_by {n = n} b e g = good_map _ (good_seq (joins_never _ never) g (good_one n (punct b) (MarkSymbol b) mark never e))

good_fields : (n : ℕ) (r : Reader Symbol TyShape) → Good n ty r never → Good n (listed (punct 44) (punct 125) ty) (run_listed n (punct 44) (punct 125) r) never
good_fields n r g =
    good_listed n (punct 44) (punct 125) (MarkSymbol 44) mark (MarkSymbol 125) mark never refl refl starts_ty (punct_apart ty_head 125 refl)
    (punct_apart (punct 44) 125 refl) (λ t h. refl) (λ t h. refl) g

rest_good : (n : ℕ) (r : Reader Symbol TyShape) → Good n ty r never → (head : TyHead) → Good n (ty_rest ty head) (run_ty_rest n r head) never
rest_good n r g (WholeType t) = good_empty n t never
rest_good n r g ArrayOpen =
    good_map _ (good_closed_by 93 refl
    (good_seq (joins_never _ never) (good_one n count (NumberSymbol (pos 0)) 0 never refl) (good_next times (KeywordSymbol X) mark refl (λ _. g))))
rest_good n r g FieldsOpen = good_map _ (good_fields n r g)
rest_good n r g PackedOpen =
    good_next (punct 123) (MarkSymbol 123) mark refl (λ _. good_map _ (good_closed_by 62 refl (good_fields n r g)))

ty_step : (n : ℕ) (r : Reader Symbol TyShape) → Good n ty r never → Good (suc n) (ty_rule ty) (run_ty_rule n r) never
ty_step n r g = good_pick ty_head (KeywordSymbol Ptr) (WholeType pointer) refl (rest_good n r g)

-- the reader of types is good at every depth
pub good_ty : (n : ℕ) → Good n ty (run_ty n) never
good_ty = good_recursive ty_rule run_ty_rule (KeywordSymbol Ptr ∷ []) pointer
    (KeywordSymbol Ptr, [], WholeType pointer, refl, refl, (refl, refl)) starts_ty_rule regular_ty ty_step
