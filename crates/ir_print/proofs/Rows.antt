-- The printed form of types in a row.
use Rattle.std.proofs.Common.{◌≡◌, ℕ, List, map, sym}
use Rattle.ir_print_symbols.specs.Printed.{joined}
use Rattle.ir_tree.specs.ShapeOf.{ty_shape}
use Rattle.ir_tree.specs.declared.types.Ty.{Ty}
use Rattle.ir_grammar_consts.specs.Spelling.{ty_spelling}
use Rattle.ir_print_consts.specs.Texts.{ty_text}
use Rattle.ir_print_consts.proofs.TypeTexts.{map_twice}
use Rattle.ir_print.specs.Texts.{type_text}

pub types_row : (names : List (List ℕ)) (ts : List Ty) → map (ty_text names) ts ≡ map type_text (map (ty_shape names) ts)
unfolding type_text
types_row names ts = sym (map_twice (ty_shape names) (λ t. joined (ty_spelling t)) ts)
