-- The grammar of constants, and its reader:
--     const = Int | "true" | "false" | "null" | "undef" | "poison" | "zeroinitializer"
--           | CStr | Global | "[" [ tc { "," tc } ] "]" | "{" [ tc { "," tc } ] "}"
--           | "<" "{" [ tc { "," tc } ] "}" ">"
--           | "getelementptr" { "inbounds"|"nuw" } "(" ty "," tc { "," tc } ")"
--     tc    = ty const
use Rattle.std.specs.Prelude.{ℕ, ◌==◌, Bool, true, false, List, Option, None, Some, if◌then◌else◌}
use Rattle.std.specs.List.{list_any}
use Rattle.grammar.specs.Language.{Lang, empty, pick, one, skip, seq, map_to, many, up_to, until, listed, recursive}
use Rattle.grammar.specs.Reader.{Reader, heads, run_empty, run_pick, run_one, run_skip, run_seq, run_map, run_many, run_up_to, run_until, run_listed, run_recursive}
use Rattle.ir_tree.specs.Shape.{TyShape, ConstShape, number, boolean, null, undef, poison, zero_value, text, elements, fields, global, address, TypedShape, typed, typed_row}
use Rattle.ir_words.specs.declared.words.Keyword.TheVariants.{True, False, Null, Undef, Poison, ZeroInitializer, GetElementPtr, InBounds, Nuw}
use Rattle.ir_lex.specs.Symbols.{Symbol, KeywordSymbol, GlobalSymbol, NumberSymbol, TextSymbol, MarkSymbol}
use Rattle.ir_cursor.specs.Marks.{punct}
use Rattle.ir_grammar_consts.specs.Types.{ty, run_ty}

-- a flag of `getelementptr`: whether it is `inbounds`
abbrev pub address_flag : Symbol → Option Bool
address_flag (KeywordSymbol InBounds) = Some true
address_flag (KeywordSymbol Nuw) = Some false
address_flag _ = None

-- what the first symbol of a constant says of it
pub data ConstHead : Type 0 where
  WholeConst : (value : ConstShape) → ConstHead
  ElementsOpen : ConstHead
  ValuesOpen : ConstHead
  PackedValuesOpen : ConstHead
  AddressOpen : ConstHead

-- the brackets that a constant begins with: `[`, `{` and `<`
abbrev pub const_bracket : ℕ → Option ConstHead
const_bracket b = if b == 91 then Some ElementsOpen else (if b == 123 then Some ValuesOpen else (if b == 60 then Some PackedValuesOpen else None))

abbrev pub const_head : Symbol → Option ConstHead
const_head (NumberSymbol z) = Some (WholeConst (number z))
const_head (KeywordSymbol True) = Some (WholeConst (boolean true))
const_head (KeywordSymbol False) = Some (WholeConst (boolean false))
const_head (KeywordSymbol Null) = Some (WholeConst null)
const_head (KeywordSymbol Undef) = Some (WholeConst undef)
const_head (KeywordSymbol Poison) = Some (WholeConst poison)
const_head (KeywordSymbol ZeroInitializer) = Some (WholeConst zero_value)
const_head (TextSymbol bytes) = Some (WholeConst (text bytes))
const_head (GlobalSymbol name) = Some (WholeConst (global name))
const_head (KeywordSymbol GetElementPtr) = Some AddressOpen
const_head (MarkSymbol b) = const_bracket b
const_head _ = None

-- tc = ty const
abbrev pub typed_const : Lang Symbol ConstShape → Lang Symbol TypedShape
typed_const const = map_to (λ v. typed v.0 v.1) (seq ty const)

-- [ tc { "," tc } ] and the closing bracket
abbrev pub typed_list : ℕ → Lang Symbol ConstShape → Lang Symbol (List TypedShape)
typed_list close const = listed (punct 44) (punct close) (typed_const const)

-- the operands of `getelementptr`: ty "," tc { "," tc } ")"
abbrev pub Operands : Type 0
Operands = TyShape × (TypedShape × List TypedShape)

abbrev pub operands : Lang Symbol ConstShape → Lang Symbol Operands
operands const = seq ty (skip (punct 44) (seq (typed_const const) (until (punct 41) (skip (punct 44) (typed_const const)))))

-- { "inbounds"|"nuw" }: whether one of them is `inbounds`
abbrev pub address_flags : Lang Symbol Bool
address_flags = map_to (list_any (λ b. b)) (many (one address_flag))

-- the address with these flags and operands
abbrev pub address_of : Bool × Operands → ConstShape
address_of v = address v.0 v.1.0 v.1.1.0 (typed_row v.1.1.1)

-- what follows the first symbol, by the lines of the rule
abbrev pub const_rest : Lang Symbol ConstShape → ConstHead → Lang Symbol ConstShape
const_rest const (WholeConst c) = empty c
const_rest const ElementsOpen = map_to (λ v. elements (typed_row v)) (typed_list 93 const)
const_rest const ValuesOpen = map_to (λ v. fields (typed_row v) false) (typed_list 125 const)
const_rest const PackedValuesOpen = skip (punct 123) (map_to (λ v. fields (typed_row v) true) (up_to (punct 62) (typed_list 125 const)))
const_rest const AddressOpen = map_to address_of (seq address_flags (skip (punct 40) (operands const)))

-- the rule, with a language in the place of each inner use
abbrev pub const_rule : Lang Symbol ConstShape → Lang Symbol ConstShape
const_rule const = pick const_head (const_rest const)

-- which symbols spell which constants
abbrev pub const : Lang Symbol ConstShape
const = recursive const_rule

-- the readers of these, at most n items of each list
abbrev pub run_typed_const : ℕ → Reader Symbol ConstShape → Reader Symbol TypedShape
run_typed_const n r = run_map (λ v. typed v.0 v.1) (run_seq (run_ty n) r)

abbrev pub run_typed_list : ℕ → ℕ → Reader Symbol ConstShape → Reader Symbol (List TypedShape)
run_typed_list n close r = run_listed n (punct 44) (punct close) (run_typed_const n r)

abbrev pub run_operands : ℕ → Reader Symbol ConstShape → Reader Symbol Operands
run_operands n r = run_seq (run_ty n) (run_skip (punct 44) (run_seq (run_typed_const n r) (run_until n (punct 41) (run_skip (punct 44) (run_typed_const n r)))))

abbrev pub run_address_flags : ℕ → Reader Symbol Bool
run_address_flags n = run_map (list_any (λ b. b)) (run_many n (heads address_flag) (run_one address_flag))

abbrev pub run_const_rest : ℕ → Reader Symbol ConstShape → ConstHead → Reader Symbol ConstShape
run_const_rest n r (WholeConst c) = run_empty c
run_const_rest n r ElementsOpen = run_map (λ v. elements (typed_row v)) (run_typed_list n 93 r)
run_const_rest n r ValuesOpen = run_map (λ v. fields (typed_row v) false) (run_typed_list n 125 r)
run_const_rest n r PackedValuesOpen = run_skip (punct 123) (run_map (λ v. fields (typed_row v) true) (run_up_to (punct 62) (run_typed_list n 125 r)))
run_const_rest n r AddressOpen = run_map address_of (run_seq (run_address_flags n) (run_skip (punct 40) (run_operands n r)))

abbrev pub run_const_rule : ℕ → Reader Symbol ConstShape → Reader Symbol ConstShape
run_const_rule n r = run_pick const_head (run_const_rest n r)

-- the reader of constants, of at most n symbols
abbrev pub run_const : ℕ → Reader Symbol ConstShape
run_const = run_recursive run_const_rule
