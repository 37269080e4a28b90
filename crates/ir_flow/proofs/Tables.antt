-- How long the tables around an instruction are.
use Rattle.std.proofs.Common.{◌≡◌, ℕ, ◌+◌, ◌<◌, Bool, true, false, length, List, [], ◌∷◌, Option, Some, sym, ◌∙◌, arith}
use Rattle.std.specs.Prelude.{if◌then◌else◌}
use Rattle.std.specs.List.{position_from}
use Rattle.std.specs.Str.{bytes_eq}
use Rattle.std.proofs.lemmas.Option.{same_Some}
use Rattle.std.proofs.lemmas.List.{length-map}
use Rattle.ir_tree.specs.Shape.{BlockShape}
use Rattle.ir_rules.specs.Values.{block_of}
use Rattle.ir_tree.specs.ShapeOf.{function_shape}
use Rattle.ir_tree.specs.declared.module.Function.{Function}
use Rattle.ir_flow.specs.Around.{AreEdgesOf}
use Rattle.ir_flow.specs.declared.edges.Edges.{Edges}

-- as many rows of predecessors as blocks
pub as_many_predecessors : (names : List (List ℕ)) (f : Function) (e : Edges) → AreEdgesOf (function_shape names f) e
    → length e.predecessors.items ≡ length f.blocks.items
as_many_predecessors names f e are =
    sym (length-map e.predecessors.items _) ∙ are.back.long ∙ length-map (function_shape names f).blocks _ ∙ length-map f.blocks.items _

-- ---- a block that a label stands for is one of the function
within_by : (test : Bool) (at b n : ℕ) (rest : Option ℕ) → (rest ≡ Some b → b < at + 1 + n) → (if test then Some at else rest) ≡ Some b → b < at + (n + 1)
within_by true at b n rest less e = let same : at ≡ b = same_Some at b e in omega arith
within_by false at b n rest less e = let low : b < at + 1 + n = less e in omega arith

position_within : {Y : Type 0} (p : Y → Bool) (at : ℕ) (ys : List Y) (b : ℕ) → position_from p at ys ≡ Some b → b < at + length ys
position_within p at [] b e = cc
position_within p at (y ∷ ys) b e =
    let low : b < at + (length ys + 1) =
    within_by (p y) at b (length ys) (position_from p (at + 1) ys) (λ h. position_within p (at + 1) ys b h) e in
    omega arith

pub block_within : (names : List (List ℕ)) (f : Function) (name : List ℕ) (b : ℕ) → block_of (function_shape names f) name ≡ Some b
    → b < length f.blocks.items
block_within names f name b e =
    let low : b < 0 + length (function_shape names f).blocks =
    position_within (λ (x : BlockShape). bytes_eq x.name name) 0 (function_shape names f).blocks b e in
    let long : length (function_shape names f).blocks ≡ length f.blocks.items = length-map f.blocks.items _ in
    omega arith
