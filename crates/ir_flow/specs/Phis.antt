-- Parts of what the rules say of a phi's inputs.
use Rattle.std.specs.Prelude.{◌≡◌, ℕ, List, length, map, Some, slice_get, unwrap_or}
use Rattle.std.specs.Ordering.{nat_cmp}
use Rattle.std.specs.BTreeMap.{BTreeMap, get}
use Rattle.ir_tree.specs.Shape.{local, PhiInShape, FunctionShape}
use Rattle.ir_rules.specs.declared.Site.{Site}
use Rattle.ir_rules.specs.Values.{block_of}
use Rattle.ir_proper.specs.Availability.{site_of, IsThereAtEnd}

-- the blocks that inputs come from; the number of blocks, where a label stands for none
abbrev pub froms_of : FunctionShape → List PhiInShape → List ℕ
froms_of f inputs = map (λ x. unwrap_or (block_of f x.from) (length f.blocks)) inputs

-- inputs from one block are written the same
abbrev pub AreAlike : List PhiInShape → List ℕ → Type 0
AreAlike inputs froms = (j k from : ℕ) (x y : PhiInShape) → slice_get inputs j ≡ Some x → slice_get inputs k ≡ Some y → slice_get froms j ≡ Some from
    → slice_get froms k ≡ Some from → x.val ≡ y.val

-- the input of this number is written as the one at the place that a map has for its block
abbrev pub IsLike : List PhiInShape → List ℕ → BTreeMap ℕ ℕ → ℕ → Type 0
IsLike inputs froms places k = (from other : ℕ) (x y : PhiInShape) → slice_get froms k ≡ Some from → get nat_cmp places from ≡ Some other
    → slice_get inputs other ≡ Some x → slice_get inputs k ≡ Some y → x.val ≡ y.val

-- the value that an input has is there at the end of the block that it comes from
abbrev pub IsInputThere : FunctionShape → PhiInShape → Type 0
IsInputThere f x = (from : ℕ) (name : List ℕ) (site : Site) → x.val ≡ local name → site_of f name ≡ Some site → block_of f x.from ≡ Some from
    → IsThereAtEnd f site from
