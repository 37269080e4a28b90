-- The grammar of types, and its reader:
--     ty = ID | "ptr" | "void" | Local | "[" Int "x" ty "]"
--        | "{" [ ty { "," ty } ] "}" | "<" "{" [ ty { "," ty } ] "}" ">"
use Rattle.std.specs.Prelude.{ℕ, ◌^◌, ◌==◌, Bool, nat_lt, ◌&&◌, true, false, Option, None, Some, pos, if◌then◌else◌}
use Rattle.grammar.specs.Language.{Lang, Mark, mark, empty, pick, one, skip, seq, map_to, up_to, listed, recursive}
use Rattle.grammar.specs.Reader.{Reader, run_empty, run_pick, run_one, run_skip, run_seq, run_map, run_up_to, run_listed, run_recursive}
use Rattle.ir_cursor.specs.Marks.{punct}
use Rattle.ir_tree.specs.Shape.{TyShape, integer, pointer, void, array, structure, named, ty_row}
use Rattle.ir_words.specs.declared.words.Keyword.TheVariants.{Integer, Ptr, Void, X}
use Rattle.ir_lex.specs.Symbols.{Symbol, KeywordSymbol, LocalSymbol, NumberSymbol, MarkSymbol}

-- `x`
abbrev pub times : Symbol → Option Mark
times (KeywordSymbol X) = Some mark
times _ = None

-- how many elements an array has: a number of 64 bits without a sign
abbrev pub count : Symbol → Option ℕ
count (NumberSymbol (pos n)) = if nat_lt n (2 ^ 64) then Some n else None
count _ = None

-- what the first symbol of a type says of it
pub data TyHead : Type 0 where
  WholeType : (ty : TyShape) → TyHead
  ArrayOpen : TyHead
  FieldsOpen : TyHead
  PackedOpen : TyHead

-- the brackets that a type begins with: `[`, `{` and `<`
abbrev pub ty_bracket : ℕ → Option TyHead
ty_bracket b = if b == 91 then Some ArrayOpen else (if b == 123 then Some FieldsOpen else (if b == 60 then Some PackedOpen else None))

-- the widths of integer types
abbrev pub is_width : ℕ → Bool
is_width bits = nat_lt 0 bits && nat_lt bits 65

abbrev pub ty_head : Symbol → Option TyHead
ty_head (KeywordSymbol (Integer bits)) = if is_width bits then Some (WholeType (integer bits)) else None
ty_head (KeywordSymbol Ptr) = Some (WholeType pointer)
ty_head (KeywordSymbol Void) = Some (WholeType void)
ty_head (LocalSymbol name) = Some (WholeType (named name))
ty_head (MarkSymbol b) = ty_bracket b
ty_head _ = None

-- what follows the first symbol, by the lines of the rule
abbrev pub ty_rest : Lang Symbol TyShape → TyHead → Lang Symbol TyShape
ty_rest ty (WholeType t) = empty t
ty_rest ty ArrayOpen = map_to (λ v. array v.0 v.1) (up_to (punct 93) (seq (one count) (skip times ty)))
ty_rest ty FieldsOpen = map_to (λ v. structure (ty_row v) false) (listed (punct 44) (punct 125) ty)
ty_rest ty PackedOpen = skip (punct 123) (map_to (λ v. structure (ty_row v) true) (up_to (punct 62) (listed (punct 44) (punct 125) ty)))

-- the rule, with a language in the place of each inner use
abbrev pub ty_rule : Lang Symbol TyShape → Lang Symbol TyShape
ty_rule ty = pick ty_head (ty_rest ty)

-- which symbols spell which types
abbrev pub ty : Lang Symbol TyShape
ty = recursive ty_rule

-- the readers of these, at most n fields of a structure
abbrev pub run_ty_rest : ℕ → Reader Symbol TyShape → TyHead → Reader Symbol TyShape
run_ty_rest n r (WholeType t) = run_empty t
run_ty_rest n r ArrayOpen = run_map (λ v. array v.0 v.1) (run_up_to (punct 93) (run_seq (run_one count) (run_skip times r)))
run_ty_rest n r FieldsOpen = run_map (λ v. structure (ty_row v) false) (run_listed n (punct 44) (punct 125) r)
run_ty_rest n r PackedOpen = run_skip (punct 123) (run_map (λ v. structure (ty_row v) true) (run_up_to (punct 62) (run_listed n (punct 44) (punct 125) r)))

abbrev pub run_ty_rule : ℕ → Reader Symbol TyShape → Reader Symbol TyShape
run_ty_rule n r = run_pick ty_head (run_ty_rest n r)

-- the reader of types, of at most n symbols
abbrev pub run_ty : ℕ → Reader Symbol TyShape
run_ty = run_recursive run_ty_rule
