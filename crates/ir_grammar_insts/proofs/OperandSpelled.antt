-- The spelling of each part of an instruction is a word of the grammar.
use Rattle.std.proofs.Common.{◌≡◌, ℕ, Bool, true, false, List, [], ◌∷◌, ◌++◌, inl, inr, refl, Some}
use Rattle.std.specs.List.{All}
use Rattle.std.proofs.lemmas.List.Elements.{All-head, All-tail}
use Rattle.grammar.specs.Language.{Lang, mark, skip, many, items, listed, until}
use Rattle.ir_tree.specs.Shape.{TyShape, ValShape, local, fixed, TyValShape}
use Rattle.ir_words.specs.declared.words.Keyword.TheVariants.{InBounds, Label}
use Rattle.ir_lex.specs.Symbols.{Symbol, KeywordSymbol, LocalSymbol, MarkSymbol}
use Rattle.ir_cursor.specs.Marks.{punct}
use Rattle.ir_grammar_consts.specs.Constants.{address_flags}
use Rattle.ir_grammar_consts.specs.Spelling.{ty_spelling, flag_spelling}
use Rattle.ir_grammar_consts.proofs.TypeSpelled.{closed, spelled_ty}
use Rattle.ir_grammar_consts.proofs.ConstSpelled.{spelled_const}
use Rattle.ir_grammar_insts.specs.Operands.{val, ty_val, more_ty_val, two_vals, target}
use Rattle.ir_grammar_insts.specs.Spelling.{val_spelling, ty_val_spelling, more, in_a_row, with_commas, two_spelling, target_spelling, FitsVal, FitsTyVal, FitsTwo}

pub spelled_val : (v : ValShape) → FitsVal v → val (val_spelling v) v
spelled_val (local name) h = inl (name, (LocalSymbol name, [], name, refl, refl, (refl, refl)), refl)
spelled_val (fixed c) h = inr (c, spelled_const c h, refl)

pub spelled_ty_val : (v : TyValShape) → FitsTyVal v → ty_val (ty_val_spelling v) v
spelled_ty_val v h = ((v.ty, v.val), (ty_spelling v.ty, val_spelling v.val, refl, spelled_ty v.ty h.0, spelled_val v.val h.1), refl)

-- after a comma
pub spelled_more : {V : Type 0} (a : Lang Symbol V) (spelling : V → List Symbol) (v : V) → a (spelling v) v → skip (punct 44) a (more spelling v) v
spelled_more a spelling v word = (MarkSymbol 44, spelling v, mark, refl, refl, word)

pub spelled_more_ty_val : (v : TyValShape) → FitsTyVal v → more_ty_val (more ty_val_spelling v) v
spelled_more_ty_val v h = spelled_more ty_val ty_val_spelling v (spelled_ty_val v h)

pub spelled_two : (t : TyShape) (x y : ValShape) → FitsTwo t x y → two_vals (two_spelling t x y) (t, (x, y))
spelled_two t x y h = (
  ty_spelling t,
  val_spelling x ++ more val_spelling y,
  refl,
  spelled_ty t h.0,
  (val_spelling x, more val_spelling y, refl, spelled_val x h.1, spelled_more val val_spelling y (spelled_val y h.2)),
)

pub spelled_target : (name : List ℕ) → target (target_spelling name) name
spelled_target name = (KeywordSymbol Label, LocalSymbol name ∷ [], mark, refl, refl, (LocalSymbol name, [], name, refl, refl, (refl, refl)))

-- one after another
pub spelled_row : {V : Type 0} (a : Lang Symbol V) (spelling : V → List Symbol) (P : V → Type 0) → ((v : V) → P v → a (spelling v) v)
    → (vs : List V) → All P vs → many a (in_a_row spelling vs) vs
spelled_row a spelling P each [] h = refl
spelled_row a spelling P each (v ∷ vs) h =
    (spelling v, in_a_row spelling vs, refl, each v (All-head P v vs h), spelled_row a spelling P each vs (All-tail P v vs h))

-- with a comma before each
pub spelled_commas : {V : Type 0} (a : Lang Symbol V) (spelling : V → List Symbol) (P : V → Type 0) → ((v : V) → P v → a (spelling v) v)
    → (vs : List V) → All P vs → many (skip (punct 44) a) (in_a_row (more spelling) vs) vs
spelled_commas a spelling P each vs h = spelled_row (skip (punct 44) a) (more spelling) P (λ v fits. spelled_more a spelling v (each v fits)) vs h

-- one or more with commas between them
pub spelled_items : {V : Type 0} (a : Lang Symbol V) (spelling : V → List Symbol) (P : V → Type 0) → ((v : V) → P v → a (spelling v) v)
    → (v : V) (vs : List V) → P v → All P vs → items (punct 44) a (with_commas spelling (v ∷ vs)) (v ∷ vs)
spelled_items a spelling P each v vs first h = ((v, vs), (spelling v, in_a_row (more spelling) vs, refl, each v first, spelled_commas a spelling P each vs h), refl)

-- any number with commas between them, up to a mark
pub spelled_listed : {V : Type 0} (a : Lang Symbol V) (spelling : V → List Symbol) (P : V → Type 0) → ((v : V) → P v → a (spelling v) v)
    → (close : ℕ) → punct close (MarkSymbol close) ≡ Some mark → (vs : List V) → All P vs
    → listed (punct 44) (punct close) a (with_commas spelling vs ++ MarkSymbol close ∷ []) vs
spelled_listed a spelling P each close e [] h = inl (MarkSymbol close, [], mark, refl, e, (refl, refl))
spelled_listed a spelling P each close e (v ∷ vs) h =
    inr ((v ∷ vs, mark), (with_commas spelling (v ∷ vs), MarkSymbol close ∷ [], refl, spelled_items a spelling P each v vs (All-head P v vs h) (All-tail P v vs h), closed close e), refl)

-- any number up to a mark
pub spelled_until : {V : Type 0} (a : Lang Symbol V) (spelling : V → List Symbol) (P : V → Type 0) → ((v : V) → P v → a (spelling v) v)
    → (close : ℕ) → punct close (MarkSymbol close) ≡ Some mark → (vs : List V) → All P vs
    → until (punct close) a (in_a_row spelling vs ++ MarkSymbol close ∷ []) vs
spelled_until a spelling P each close e vs h = ((vs, mark), (in_a_row spelling vs, MarkSymbol close ∷ [], refl, spelled_row a spelling P each vs h, closed close e), refl)

pub spelled_flag : (inbounds : Bool) → address_flags (flag_spelling inbounds) inbounds
spelled_flag true = (true ∷ [], (KeywordSymbol InBounds ∷ [], [], refl, (KeywordSymbol InBounds, [], true, refl, refl, (refl, refl)), refl), refl)
spelled_flag false = ([], refl, refl)
