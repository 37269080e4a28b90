-- The spelling of a constant is a word of the grammar, so it reads back.
use Rattle.std.proofs.Common.{◌≡◌, ℕ, Bool, true, false, List, [], ◌∷◌, ◌++◌, refl, ap, Some, inl, inr}
use Rattle.grammar.specs.Language.{mark, many, skip}
use Rattle.grammar.proofs.Recursion.{recursive_in}
use Rattle.ir_tree.specs.Shape.{TyShape, ConstShape, number, boolean, null, undef, poison, zero_value, text, elements, fields, global, address, TypedShape, typed, TypedShapes, no_values, values, typed_row}
use Rattle.ir_words.specs.declared.words.Keyword.TheVariants.{True, False, Null, Undef, Poison, ZeroInitializer, GetElementPtr, InBounds}
use Rattle.ir_lex.specs.Symbols.{Symbol, KeywordSymbol, GlobalSymbol, NumberSymbol, TextSymbol, MarkSymbol}
use Rattle.ir_cursor.specs.Marks.{punct}
use Rattle.ir_grammar_consts.specs.Types.{ty}
use Rattle.ir_grammar_consts.specs.Constants.{address_flags, WholeConst, ElementsOpen, ValuesOpen, PackedValuesOpen, AddressOpen, typed_const, typed_list, const_rule, const}
use Rattle.ir_grammar_consts.specs.Spelling.{in_braces, ty_spelling, flag_spelling, const_spelling, typed_spelling, typed_list_spelling, typed_more_spelling, FitsConst, FitsTyped, FitTyped}
use Rattle.ir_grammar_consts.proofs.ConstLaw.{regular_const}
use Rattle.ir_grammar_consts.proofs.TypeSpelled.{closed, spelled_ty}

-- the constants of a row
abbrev pub row_values : TypedShapes → List TypedShape
row_values no_values = []
row_values (values v row) = v ∷ row_values row

pub row_same : (row : TypedShapes) → row ≡ typed_row (row_values row)
row_same no_values = refl
row_same (values v row) = ap (values v) (row_same row)

word_of_rule : (ts : List Symbol) (c : ConstShape) → const_rule const ts c → const ts c
word_of_rule ts c word = (recursive_in const_rule regular_const).at ts c word

spelled_list : (close : ℕ) → punct close (MarkSymbol close) ≡ Some mark → (v : TypedShape) (row : TypedShapes) → typed_const const (typed_spelling v) v
    → many (skip (punct 44) (typed_const const)) (typed_more_spelling row) (row_values row)
    → typed_list close const ((typed_spelling v ++ typed_more_spelling row) ++ MarkSymbol close ∷ []) (v ∷ row_values row)
spelled_list close e v row first rest =
    inr ((v ∷ row_values row, mark), (typed_spelling v ++ typed_more_spelling row, MarkSymbol close ∷ [], refl, ((v, row_values row), (typed_spelling v, typed_more_spelling row, refl, first, rest), refl), closed close e), refl)

spelled_fields : (row : TypedShapes) (packed : Bool) → typed_list 125 const (typed_list_spelling row ++ MarkSymbol 125 ∷ []) (row_values row)
    → const (in_braces packed (typed_list_spelling row)) (fields row packed)
spelled_fields row false word =
    word_of_rule _ _ (MarkSymbol 123, typed_list_spelling row ++ MarkSymbol 125 ∷ [], ValuesOpen, refl, refl, (row_values row, word, ap (λ z. fields z false) (row_same row)))
spelled_fields row true word =
    word_of_rule _ _ (
      MarkSymbol 60,
      MarkSymbol 123 ∷ ((typed_list_spelling row ++ MarkSymbol 125 ∷ []) ++ MarkSymbol 62 ∷ []),
      PackedValuesOpen,
      refl,
      refl,
      (
        MarkSymbol 123,
        (typed_list_spelling row ++ MarkSymbol 125 ∷ []) ++ MarkSymbol 62 ∷ [],
        mark,
        refl,
        refl,
        (row_values row, ((row_values row, mark), (typed_list_spelling row ++ MarkSymbol 125 ∷ [], MarkSymbol 62 ∷ [], refl, word, closed 62 refl), refl), ap (λ z. fields z true) (row_same row)),
      ),
    )

-- the flags that are written for an address
abbrev flags_of : Bool → List Bool
flags_of true = true ∷ []
flags_of false = []

flags_spelled : (inbounds : Bool) → address_flags (flag_spelling inbounds) inbounds
flags_spelled true = (flags_of true, (KeywordSymbol InBounds ∷ [], [], refl, (KeywordSymbol InBounds, [], true, refl, refl, (refl, refl)), refl), refl)
flags_spelled false = (flags_of false, refl, refl)

whole : (t : Symbol) (c : ConstShape) → const_rule const (t ∷ []) c → const (t ∷ []) c
whole t c word = word_of_rule (t ∷ []) c word

spelled_address : (inbounds : Bool) (t : TyShape) (base : TypedShape) (row : TypedShapes) → ty (ty_spelling t) t → typed_const const (typed_spelling base) base
    → many (skip (punct 44) (typed_const const)) (typed_more_spelling row) (row_values row)
    → const (KeywordSymbol GetElementPtr ∷ (flag_spelling inbounds ++ MarkSymbol 40 ∷ (ty_spelling t ++ MarkSymbol 44 ∷ (typed_spelling base ++ (typed_more_spelling row ++ MarkSymbol 41 ∷ [])))))
    (address inbounds t base row)
spelled_address inbounds t base row ty_word base_word row_word =
    let last : List Symbol = typed_more_spelling row ++ MarkSymbol 41 ∷ [] in
    let both : List Symbol = typed_spelling base ++ last in
    let all : List Symbol = ty_spelling t ++ MarkSymbol 44 ∷ both in
    word_of_rule _ _ (
      KeywordSymbol GetElementPtr,
      flag_spelling inbounds ++ MarkSymbol 40 ∷ all,
      AddressOpen,
      refl,
      refl,
      (
        (inbounds, (t, (base, row_values row))),
        (
          flag_spelling inbounds,
          MarkSymbol 40 ∷ all,
          refl,
          flags_spelled inbounds,
          (
            MarkSymbol 40,
            all,
            mark,
            refl,
            refl,
            (
              ty_spelling t,
              MarkSymbol 44 ∷ both,
              refl,
              ty_word,
              (
                MarkSymbol 44,
                both,
                mark,
                refl,
                refl,
                (
                  typed_spelling base,
                  last,
                  refl,
                  base_word,
                  ((row_values row, mark), (typed_more_spelling row, MarkSymbol 41 ∷ [], refl, row_word, closed 41 refl), refl),
                ),
              ),
            ),
          ),
        ),
        ap (address inbounds t base) (row_same row),
      ),
    )

mutual
  unfolding const_spelling typed_spelling typed_list_spelling typed_more_spelling FitsConst FitsTyped FitTyped

  -- the spelling of a constant spells the constant
  pub spelled_const : (c : ConstShape) → FitsConst c → const (const_spelling c) c
  spelled_const (number z) h = whole _ _ (NumberSymbol z, [], WholeConst (number z), refl, refl, (refl, refl))
  spelled_const (boolean true) h = whole _ _ (KeywordSymbol True, [], WholeConst (boolean true), refl, refl, (refl, refl))
  spelled_const (boolean false) h = whole _ _ (KeywordSymbol False, [], WholeConst (boolean false), refl, refl, (refl, refl))
  spelled_const null h = whole _ _ (KeywordSymbol Null, [], WholeConst null, refl, refl, (refl, refl))
  spelled_const undef h = whole _ _ (KeywordSymbol Undef, [], WholeConst undef, refl, refl, (refl, refl))
  spelled_const poison h = whole _ _ (KeywordSymbol Poison, [], WholeConst poison, refl, refl, (refl, refl))
  spelled_const zero_value h = whole _ _ (KeywordSymbol ZeroInitializer, [], WholeConst zero_value, refl, refl, (refl, refl))
  spelled_const (text bytes) h = whole _ _ (TextSymbol bytes, [], WholeConst (text bytes), refl, refl, (refl, refl))
  spelled_const (elements row) h =
      word_of_rule _ _ (MarkSymbol 91, typed_list_spelling row ++ MarkSymbol 93 ∷ [], ElementsOpen, refl, refl, (row_values row, spelled_row 93 refl row h, ap elements (row_same row)))
  spelled_const (fields row packed) h = spelled_fields row packed (spelled_row 125 refl row h)
  spelled_const (global name) h = whole _ _ (GlobalSymbol name, [], WholeConst (global name), refl, refl, (refl, refl))
  spelled_const (address inbounds t base row) h = spelled_address inbounds t base row (spelled_ty t h.0) (spelled_typed base h.1) (spelled_more row h.2)

  pub spelled_typed : (v : TypedShape) → FitsTyped v → typed_const const (typed_spelling v) v
  spelled_typed (typed t c) h = ((t, c), (ty_spelling t, const_spelling c, refl, spelled_ty t h.0, spelled_const c h.1), refl)

  spelled_row : (close : ℕ) → punct close (MarkSymbol close) ≡ Some mark → (row : TypedShapes) → FitTyped row
      → typed_list close const (typed_list_spelling row ++ MarkSymbol close ∷ []) (row_values row)
  spelled_row close e no_values h = inl (MarkSymbol close, [], mark, refl, e, (refl, refl))
  spelled_row close e (values v row) h = spelled_list close e v row (spelled_typed v h.0) (spelled_more row h.1)

  spelled_more : (row : TypedShapes) → FitTyped row → many (skip (punct 44) (typed_const const)) (typed_more_spelling row) (row_values row)
  spelled_more no_values h = refl
  spelled_more (values v row) h =
      (MarkSymbol 44 ∷ typed_spelling v, typed_more_spelling row, refl, (MarkSymbol 44, typed_spelling v, mark, refl, refl, spelled_typed v h.0), spelled_more row h.1)
