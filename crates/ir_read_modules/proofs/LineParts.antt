-- A result and what the line does, read one after the other: the names grow in between, and the result keeps its name.
use Rattle.std.proofs.Common.{◌≡◌, ℕ, true, List, length, Option, sym, ◌∙◌, ap}
use Rattle.std.specs.Prelude.{option_map}
use Rattle.grammar.specs.Reader.{Got, Reader, run_seq, run_map}
use Rattle.ir_lex.specs.Symbols.{Symbol}
use Rattle.ir_tree.specs.NameTable.{Grows}
use Rattle.ir_tree.specs.Shape.{BodyShape}
use Rattle.ir_tree.specs.ShapeOf.{name_shape, body_shape, inst_shape}
use Rattle.ir_tree.specs.Known.{result_known, body_known, inst_known}
use Rattle.ir_tree.specs.declared.names.NameId.{NameId}
use Rattle.ir_tree.specs.declared.module.Body.{Body}
use Rattle.ir_tree.proofs.Grows.{and_both}
use Rattle.ir_tree.proofs.GrowsModule.{result_shape-append, result_known-more}
use Rattle.ir_read_consts.proofs.NamedItems.{grows_length}
use Rattle.ir_grammar_modules.specs.Blocks.{line_of}
use Rattle.ir_read_modules.specs.Lines.{run_maybe_result}

pub result_kept : {old new : List (List ℕ)} → Grows old new → (o : Option NameId) → result_known (length old) o ≡ true
    → option_map (name_shape old) o ≡ option_map (name_shape new) o
result_kept {old = old} g o h = sym (ap (λ z. option_map (name_shape z) o) g.kept ∙ result_shape-append old g.more o h)

pub result_stays : {old new : List (List ℕ)} → Grows old new → (o : Option NameId) → result_known (length old) o ≡ true → result_known (length new) o ≡ true
result_stays {old = old} {new = new} g o h = result_known-more (length old) (length new) (grows_length g) o h

pub line_known : {old new : List (List ℕ)} → Grows old new → (o : Option NameId) (b : Body) → result_known (length old) o ≡ true → body_known (length new) b ≡ true
    → inst_known (length new) (record { result = o; body = b }) ≡ true
line_known g o b h k = and_both (result_stays g o h) k

pub line_read : {old new : List (List ℕ)} → Grows old new → (r : Reader Symbol BodyShape) (ts q rest : List Symbol) (o : Option NameId) (b : Body)
    → result_known (length old) o ≡ true → run_maybe_result ts ≡ Got (option_map (name_shape old) o) q → r q ≡ Got (body_shape new b) rest
    → run_map line_of (run_seq run_maybe_result r) ts ≡ Got (inst_shape new (record { result = o; body = b })) rest
line_read {new = new} g r ts q rest o b h e f = rw (e, f) (ap (λ z. Got (line_of (z, body_shape new b)) rest) (result_kept g o h))
