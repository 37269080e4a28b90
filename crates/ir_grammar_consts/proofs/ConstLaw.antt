-- The law of the reader of constants.
use Rattle.std.proofs.Common.{◌≡◌, ℕ, suc, true, false, [], ◌∷◌, refl, Some, subst, sym}
use Rattle.grammar.specs.Language.{Lang, mark, empty}
use Rattle.grammar.specs.Reader.{Reader, heads}
use Rattle.grammar.proofs.Good.{never, Good, Starts}
use Rattle.grammar.proofs.Sides.{starts_pick, starts_recursive, starts_map, starts_seq, joins_never, joins_starts}
use Rattle.grammar.proofs.Laws.{good_one, good_pick, good_map, good_seq, good_empty, good_next}
use Rattle.grammar.proofs.Lists.{good_listed, good_until, good_many}
use Rattle.grammar.proofs.Recursion.{Regular, regular_self, regular_fixed, regular_pick, regular_map, regular_seq, regular_skip, regular_up_to, regular_until, regular_listed, good_recursive}
use Rattle.ir_tree.specs.Shape.{ConstShape, null}
use Rattle.ir_words.specs.declared.words.Keyword.TheVariants.{Null, Nuw}
use Rattle.ir_lex.specs.Symbols.{Symbol, KeywordSymbol, MarkSymbol}
use Rattle.ir_cursor.specs.Marks.{punct}
use Rattle.ir_grammar_consts.specs.Types.{ty_head, ty}
use Rattle.ir_grammar_consts.specs.Constants.{address_flag, address_flags, run_address_flags, ConstHead, WholeConst, ElementsOpen, ValuesOpen, PackedValuesOpen, AddressOpen, const_head, typed_const, typed_list, operands, const_rest, const_rule, const, run_typed_const, run_typed_list, run_operands, run_const_rest, run_const_rule, run_const}
use Rattle.ir_grammar_consts.proofs.Sides.{punct_is, punct_apart}
use Rattle.ir_grammar_consts.proofs.TypeLaw.{starts_ty, good_ty, good_closed_by}

starts_const_rule : (L : Lang Symbol ConstShape) → Starts (heads const_head) (const_rule L)
starts_const_rule L = starts_pick const_head (const_rest L)

pub starts_const : Starts (heads const_head) const
starts_const = starts_recursive const_rule starts_const_rule

pub starts_typed_const : Starts (heads ty_head) (typed_const const)
starts_typed_const = starts_map _ (starts_seq const starts_ty)

regular_typed : Regular (λ L. typed_const L)
regular_typed = regular_map _ (regular_seq (regular_fixed ty) regular_self)

regular_list : (close : ℕ) → Regular (λ L. typed_list close L)
regular_list close = regular_listed (punct 44) (punct close) regular_typed

regular_operands : Regular (λ L. operands L)
regular_operands =
    regular_seq (regular_fixed ty) (regular_skip (punct 44) (regular_seq regular_typed (regular_until (punct 41) (regular_skip (punct 44) regular_typed))))

regular_rest : (head : ConstHead) → Regular (λ L. const_rest L head)
regular_rest (WholeConst c) = regular_fixed (empty c)
regular_rest ElementsOpen = regular_map _ (regular_list 93)
regular_rest ValuesOpen = regular_map _ (regular_list 125)
regular_rest PackedValuesOpen = regular_skip (punct 123) (regular_map _ (regular_up_to (punct 62) (regular_list 125)))
regular_rest AddressOpen = regular_map _ (regular_seq (regular_fixed address_flags) (regular_skip (punct 40) regular_operands))

pub regular_const : Regular const_rule
regular_const = regular_pick const_head regular_rest

pub good_typed : (n : ℕ) (r : Reader Symbol ConstShape) → Good n const r never → Good n (typed_const const) (run_typed_const n r) never
good_typed n r g = good_map _ (good_seq (joins_never _ never) (good_ty n) g)

good_list : (n : ℕ) (r : Reader Symbol ConstShape) (close : ℕ) → punct close (MarkSymbol close) ≡ Some mark → heads ty_head (MarkSymbol close) ≡ false
    → heads (punct 44) (MarkSymbol close) ≡ false → Good n const r never → Good n (typed_list close const) (run_typed_list n close r) never
good_list n r close e apart comma g =
    good_listed n (punct 44) (punct close) (MarkSymbol 44) mark (MarkSymbol close) mark never refl e starts_typed_const (punct_apart ty_head close apart)
    (punct_apart (punct 44) close comma) (λ t h. refl) (λ t h. refl) (good_typed n r g)

good_flags : (n : ℕ) → Good n address_flags (run_address_flags n) (heads address_flag)
good_flags n =
    good_map _ (good_many n (starts_pick address_flag _) (λ t h. refl) (λ t h. refl) (λ t h. h)
    (good_one n address_flag (KeywordSymbol Nuw) false never refl))

good_operands : (n : ℕ) (r : Reader Symbol ConstShape) → Good n const r never → Good n (operands const) (run_operands n r) never
good_operands n r g =
    good_seq (joins_never _ never) (good_ty n)
    (good_next (punct 44) (MarkSymbol 44) mark refl
    (λ _. good_seq (joins_never _ never) (good_typed n r g)
    (good_until n (punct 41) (MarkSymbol 41) mark never refl (starts_pick (punct 44) _) (punct_apart (punct 44) 41 refl) (λ t h. refl) (λ t h. refl)
    (good_next (punct 44) (MarkSymbol 44) mark refl (λ _. good_typed n r g)))))

open_flagless : (t : Symbol) → heads (punct 40) t ≡ true → heads address_flag t ≡ false
open_flagless t h = subst (λ z. heads address_flag z ≡ false) (sym (punct_is 40 t h)) refl

rest_good : (n : ℕ) (r : Reader Symbol ConstShape) → Good n const r never → (head : ConstHead) → Good n (const_rest const head) (run_const_rest n r head) never
rest_good n r g (WholeConst c) = good_empty n c never
rest_good n r g ElementsOpen = good_map _ (good_list n r 93 refl refl refl g)
rest_good n r g ValuesOpen = good_map _ (good_list n r 125 refl refl refl g)
rest_good n r g PackedValuesOpen =
    good_next (punct 123) (MarkSymbol 123) mark refl (λ _. good_map _ (good_closed_by 62 refl (good_list n r 125 refl refl refl g)))
rest_good n r g AddressOpen =
    good_map _ (good_seq (joins_starts (starts_pick (punct 40) _) open_flagless) (good_flags n)
    (good_next (punct 40) (MarkSymbol 40) mark refl (λ _. good_operands n r g)))

const_step : (n : ℕ) (r : Reader Symbol ConstShape) → Good n const r never → Good (suc n) (const_rule const) (run_const_rule n r) never
const_step n r g = good_pick const_head (KeywordSymbol Null) (WholeConst null) refl (rest_good n r g)

-- the reader of constants is good at every depth
pub good_const : (n : ℕ) → Good n const (run_const n) never
good_const = good_recursive const_rule run_const_rule (KeywordSymbol Null ∷ []) null
    (KeywordSymbol Null, [], WholeConst null, refl, refl, (refl, refl)) starts_const_rule regular_const const_step
