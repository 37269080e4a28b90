-- What it is for these words to compute their operations.
use Rattle.std.specs.Prelude.{◌≡◌, ◌≤◌, ◌<◌, ◌^◌, ℕ, List, [], IsTrue, Some, None}
use Rattle.std.specs.List.{list_all}
use Rattle.ir_tree.specs.declared.module.Bin.{Bin}
use Rattle.ir_tree.specs.declared.module.Flags.{Flags}
use Rattle.ir_tree.specs.declared.module.Pred.{Pred}
use Rattle.ir_tree.specs.declared.module.Conv.{Conv}
use Rattle.ir_model.specs.Values.{Integer, Gives}
use Rattle.ir_model.specs.Integers.{binary, holds, truth, converted}
use Rattle.ir_model.specs.Pointers.{extended}
use Rattle.rv_inst.specs.declared.instruction.Form.{Form}
use Rattle.flip_frames.specs.Computing.{is_pure}
use Rattle.flip_versions.specs.Operations.{Leaves}
use Rattle.ir_typed_runs.specs.Kinds.{Converts}
use Rattle.op_words.specs.Words.{binary_words, compare_words, convert_words}

-- the words of a binary operation leave the word of its result, where it has one that isn't poison
abbrev pub BinaryWordsCompute : Type 0
BinaryWordsCompute = (operation : Bin) (flags : Flags) (width a b v : ℕ) → 1 ≤ width → width ≤ 64 → a < 2 ^ width → b < 2 ^ width
    → binary operation flags width (Integer width a) (Integer width b) ≡ Gives (Integer width v)
    → Leaves (binary_words operation width) (Some (extended width a)) (Some (extended width b)) (Some (extended width v))

-- those of a comparison leave its `i1`
abbrev pub ComparisonWordsCompute : Type 0
ComparisonWordsCompute = (predicate : Pred) (width a b v : ℕ) → 1 ≤ width → width ≤ 64 → a < 2 ^ width → b < 2 ^ width
    → truth (holds predicate width a b) ≡ Integer 1 v
    → Leaves (compare_words predicate) (Some (extended width a)) (Some (extended width b)) (Some (extended 1 v))

-- and those of a conversion the same number at its other width
abbrev pub ConversionWordsCompute : Type 0
ConversionWordsCompute = (conversion : Conv) (from to n : ℕ) → 1 ≤ from → from ≤ 64 → 1 ≤ to → to ≤ 64 → Converts conversion from to → n < 2 ^ from
    → Leaves (convert_words conversion from to) (Some (extended from n)) None (Some (extended to (converted conversion from to n)))

-- all of them compute in scratch registers alone
pub record WordsArePure : Type 0 where
  pub binaries : (operation : Bin) (width : ℕ) → IsTrue (list_all is_pure (binary_words operation width))
  pub comparisons : (predicate : Pred) → IsTrue (list_all is_pure (compare_words predicate))
  pub conversions : (conversion : Conv) (from to : ℕ) → IsTrue (list_all is_pure (convert_words conversion from to))
