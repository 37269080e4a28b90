-- The spelling of a type is a word of the grammar, so it reads back.
use Rattle.std.proofs.Common.{◌≡◌, ℕ, ◌<◌, ◌^◌, Bool, true, false, List, [], ◌∷◌, ◌++◌, refl, ap, pos, Some, None, inl, inr, if◌then◌else◌}
use Rattle.std.proofs.lemmas.Bool.{lt-ltb}
use Rattle.grammar.specs.Language.{mark, one, many, skip, listed}
use Rattle.grammar.proofs.Recursion.{recursive_in}
use Rattle.ir_tree.specs.Shape.{TyShape, integer, pointer, void, array, structure, named, TyShapes, no_types, types, ty_row}
use Rattle.ir_words.specs.declared.words.Keyword.TheVariants.{Integer, Ptr, Void, X}
use Rattle.ir_lex.specs.Symbols.{Symbol, KeywordSymbol, LocalSymbol, NumberSymbol, MarkSymbol}
use Rattle.ir_cursor.specs.Marks.{punct}
use Rattle.ir_grammar_consts.specs.Types.{count, WholeType, ArrayOpen, FieldsOpen, PackedOpen, ty_head, ty_rule, ty}
use Rattle.ir_grammar_consts.specs.Spelling.{in_braces, ty_spelling, ty_list_spelling, ty_more_spelling, FitsTy, FitTys}
use Rattle.ir_tree.proofs.Grows.{and_both}
use Rattle.ir_grammar_consts.proofs.TypeLaw.{regular_ty}

-- the types of a row
abbrev pub row_types : TyShapes → List TyShape
row_types no_types = []
row_types (types t row) = t ∷ row_types row

pub row_same : (row : TyShapes) → row ≡ ty_row (row_types row)
row_same no_types = refl
row_same (types t row) = ap (types t) (row_same row)

-- a mark is the word of the mark
pub closed : (b : ℕ) → punct b (MarkSymbol b) ≡ Some mark → one (punct b) (MarkSymbol b ∷ []) mark
closed b e = (MarkSymbol b, [], mark, refl, e, (refl, refl))

count_known : (n : ℕ) → n < 2 ^ 64 → count (NumberSymbol (pos n)) ≡ Some n
count_known n h = ap (λ b. if b then Some n else None) (lt-ltb n (2 ^ 64) h)

width_known : (bits : ℕ) → 0 < bits → bits < 65 → ty_head (KeywordSymbol (Integer bits)) ≡ Some (WholeType (integer bits))
width_known bits h k = ap (λ b. if b then Some (WholeType (integer bits)) else None) (and_both (lt-ltb 0 bits h) (lt-ltb bits 65 k))

word_of_rule : (ts : List Symbol) (t : TyShape) → ty_rule ty ts t → ty ts t
word_of_rule ts t word = (recursive_in ty_rule regular_ty).at ts t word

spelled_list : (close : ℕ) → punct close (MarkSymbol close) ≡ Some mark → (t : TyShape) (row : TyShapes) → ty (ty_spelling t) t
    → many (skip (punct 44) ty) (ty_more_spelling row) (row_types row)
    → listed (punct 44) (punct close) ty ((ty_spelling t ++ ty_more_spelling row) ++ MarkSymbol close ∷ []) (t ∷ row_types row)
spelled_list close e t row first rest =
    inr ((t ∷ row_types row, mark), (ty_spelling t ++ ty_more_spelling row, MarkSymbol close ∷ [], refl, ((t, row_types row), (ty_spelling t, ty_more_spelling row, refl, first, rest), refl), closed close e), refl)

spelled_structure : (row : TyShapes) (packed : Bool) → listed (punct 44) (punct 125) ty (ty_list_spelling row ++ MarkSymbol 125 ∷ []) (row_types row)
    → ty (in_braces packed (ty_list_spelling row)) (structure row packed)
spelled_structure row false word =
    word_of_rule _ _ (MarkSymbol 123, ty_list_spelling row ++ MarkSymbol 125 ∷ [], FieldsOpen, refl, refl, (row_types row, word, ap (λ z. structure z false) (row_same row)))
spelled_structure row true word =
    word_of_rule _ _ (
      MarkSymbol 60,
      MarkSymbol 123 ∷ ((ty_list_spelling row ++ MarkSymbol 125 ∷ []) ++ MarkSymbol 62 ∷ []),
      PackedOpen,
      refl,
      refl,
      (
        MarkSymbol 123,
        (ty_list_spelling row ++ MarkSymbol 125 ∷ []) ++ MarkSymbol 62 ∷ [],
        mark,
        refl,
        refl,
        (row_types row, ((row_types row, mark), (ty_list_spelling row ++ MarkSymbol 125 ∷ [], MarkSymbol 62 ∷ [], refl, word, closed 62 refl), refl), ap (λ z. structure z true) (row_same row)),
      ),
    )

mutual
  unfolding ty_spelling ty_list_spelling ty_more_spelling FitsTy FitTys

  -- the spelling of a type spells the type
  pub spelled_ty : (t : TyShape) → FitsTy t → ty (ty_spelling t) t
  spelled_ty (integer bits) h = word_of_rule _ _ (KeywordSymbol (Integer bits), [], WholeType (integer bits), refl, width_known bits h.0 h.1, (refl, refl))
  spelled_ty pointer h = word_of_rule _ _ (KeywordSymbol Ptr, [], WholeType pointer, refl, refl, (refl, refl))
  spelled_ty void h = word_of_rule _ _ (KeywordSymbol Void, [], WholeType void, refl, refl, (refl, refl))
  spelled_ty (array n t) h =
      word_of_rule _ _ (
        MarkSymbol 91,
        (NumberSymbol (pos n) ∷ KeywordSymbol X ∷ ty_spelling t) ++ MarkSymbol 93 ∷ [],
        ArrayOpen,
        refl,
        refl,
        (
          (n, t),
          (
            ((n, t), mark),
            (
              NumberSymbol (pos n) ∷ KeywordSymbol X ∷ ty_spelling t,
              MarkSymbol 93 ∷ [],
              refl,
              (
                NumberSymbol (pos n) ∷ [],
                KeywordSymbol X ∷ ty_spelling t,
                refl,
                (NumberSymbol (pos n), [], n, refl, count_known n h.0, (refl, refl)),
                (KeywordSymbol X, ty_spelling t, mark, refl, refl, spelled_ty t h.1),
              ),
              closed 93 refl,
            ),
            refl,
          ),
          refl,
        ),
      )
  spelled_ty (structure row packed) h = spelled_structure row packed (spelled_row row h)
  spelled_ty (named name) h = word_of_rule _ _ (LocalSymbol name, [], WholeType (named name), refl, refl, (refl, refl))

  spelled_row : (row : TyShapes) → FitTys row → listed (punct 44) (punct 125) ty (ty_list_spelling row ++ MarkSymbol 125 ∷ []) (row_types row)
  spelled_row no_types h = inl (MarkSymbol 125, [], mark, refl, refl, (refl, refl))
  spelled_row (types t row) h = spelled_list 125 refl t row (spelled_ty t h.0) (spelled_more row h.1)

  spelled_more : (row : TyShapes) → FitTys row → many (skip (punct 44) ty) (ty_more_spelling row) (row_types row)
  spelled_more no_types h = refl
  spelled_more (types t row) h =
      (MarkSymbol 44 ∷ ty_spelling t, ty_more_spelling row, refl, (MarkSymbol 44, ty_spelling t, mark, refl, refl, spelled_ty t h.0), spelled_more row h.1)
