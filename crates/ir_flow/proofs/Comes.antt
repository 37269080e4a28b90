-- When a phi's inputs come from the predecessors of its block.
use Rattle.std.proofs.Common.{◌≡◌, ℕ, ◌<◌, List, [], length, Option, Some, None, Contains, refl, sym, ◌∙◌, ap, subst, arith, slice_get}
use Rattle.std.specs.Prelude.{◌↔◌, unwrap_or}
use Rattle.std.specs.BTreeMap.{BTreeMap}
use Rattle.std.proofs.lemmas.List.{length-map}
use Rattle.std.proofs.lemmas.Option.{slice_get_within, same_Some}
use Rattle.ir_tree.specs.Shape.{PhiInShape, FunctionShape}
use Rattle.ir_rules.specs.Values.{block_of}
use Rattle.ir_proper.specs.Edges.{successors, Precedes}
use Rattle.ir_proper.specs.FlowRules.{ComeFromPredecessors}
use Rattle.ir_edges.specs.Tables.{ArePredecessors}
use Rattle.ir_flow.specs.Places.{HasPlace, ArePlaces}
use Rattle.ir_flow.specs.Phis.{AreAlike, froms_of}
use Rattle.ir_flow.proofs.OneByOne.{mapped_of, mapped_to, contained_at, place_of}

-- ---- what leads to a block
pub precedes_within : (f : FunctionShape) (q b : ℕ) → Precedes f q b → q < length f.blocks
precedes_within f q b (row, has_row, contains) =
    let within : q < length (successors f) = slice_get_within (successors f) q row has_row in
    let long : length (successors f) ≡ length f.blocks = length-map f.blocks _ in
    omega arith

-- the row of a number, or none
abbrev pub row_of : List (List ℕ) → ℕ → List ℕ
row_of rows b = unwrap_or (slice_get rows b) []

contained_by : (row : Option (List ℕ)) (q : ℕ) → Contains (unwrap_or row []) q ↔ ((r : List ℕ) × (row ≡ Some r) × Contains r q)
contained_by None q = ((λ (k, within, is). absurd (omega arith)), (λ (r, e, h). cc))
contained_by (Some row) q = ((λ there. (row, refl, there)), (λ (r, e, h). subst (λ z. Contains z q) (sym (same_Some row r e)) h))

pub in_row : (f : FunctionShape) (rows : List (List ℕ)) (b q : ℕ) → ArePredecessors (successors f) rows → b < length f.blocks
    → Contains (row_of rows b) q ↔ Precedes f q b
in_row f rows b q are within =
    let long : length (successors f) ≡ length f.blocks = length-map f.blocks _ in
    let turned = are.each b q (omega arith) in
    let by = contained_by (slice_get rows b) q in
    ((λ there. turned.0 (by.0 there)), (λ leads. by.1 (turned.1 leads)))

-- ---- a map has as keys the numbers of a list
pub placed : (numbers : List ℕ) (places : BTreeMap ℕ ℕ) (q : ℕ) → ArePlaces numbers places → HasPlace places q ↔ Contains numbers q
placed numbers places q are = ((λ (k, e). contained_at numbers k q (are.found q k e)), (λ there. are.all q there))

-- ---- the blocks that inputs come from
abbrev pub from_of : FunctionShape → PhiInShape → ℕ
from_of f x = unwrap_or (block_of f x.from) (length f.blocks)

-- a block of the function has its label
stands : (o : Option ℕ) (n q : ℕ) → unwrap_or o n ≡ q → q < n → o ≡ Some q
stands None n q e less = absurd (omega arith)
stands (Some r) n q e less = ap (λ (z : ℕ). Some z) e

-- what the parts of the test say together
pub record Matches (f : FunctionShape) (b : ℕ) (inputs : List PhiInShape) : Type 0 where
  pub all : (q : ℕ) → Precedes f q b → Contains (froms_of f inputs) q
  pub each : (q : ℕ) → Contains (froms_of f inputs) q → Precedes f q b
  pub alike : AreAlike inputs (froms_of f inputs)

pub come_matched : (f : FunctionShape) (b : ℕ) (inputs : List PhiInShape) → Matches f b inputs → ComeFromPredecessors f b inputs
come_matched f b inputs m = record {
  each = λ k x e.
      let q = from_of f x in
      let leads = m.each q (contained_at (froms_of f inputs) k q (mapped_to (from_of f) inputs k x e)) in
      (q, stands (block_of f x.from) (length f.blocks) q refl (precedes_within f q b leads), leads);
  all = λ q leads.
      let at = place_of (froms_of f inputs) q (m.all q leads) in
      let x = mapped_of (from_of f) inputs at.0 q at.1 in
      (at.0, x.0, x.1, stands (block_of f x.0.from) (length f.blocks) q x.2 (precedes_within f q b leads));
  same = λ j k q x y at_j at_k from_x from_y.
      m.alike j k q x y at_j at_k
      (mapped_to (from_of f) inputs j x at_j ∙ ap (λ (o : Option ℕ). Some (unwrap_or o (length f.blocks))) from_x)
      (mapped_to (from_of f) inputs k y at_k ∙ ap (λ (o : Option ℕ). Some (unwrap_or o (length f.blocks))) from_y);
}

-- the block that an input comes from, where each comes from one
from_is : (f : FunctionShape) (b : ℕ) (inputs : List PhiInShape) → ComeFromPredecessors f b inputs → (k q : ℕ) (x : PhiInShape)
    → slice_get inputs k ≡ Some x → slice_get (froms_of f inputs) k ≡ Some q → (block_of f x.from ≡ Some q) × Precedes f q b
from_is f b inputs come k q x at_k is =
    let found = come.each k x at_k in
    let same : found.0 ≡ q =
    same_Some found.0 q
    (sym (mapped_to (from_of f) inputs k x at_k ∙ ap (λ (o : Option ℕ). Some (unwrap_or o (length f.blocks))) found.1) ∙ is) in
    (found.1 ∙ ap (λ (z : ℕ). Some z) same, subst (λ (z : ℕ). Precedes f z b) same found.2)

pub matched_come : (f : FunctionShape) (b : ℕ) (inputs : List PhiInShape) → ComeFromPredecessors f b inputs → Matches f b inputs
matched_come f b inputs come = record {
  all = λ q leads.
      let found = come.all q leads in
      contained_at (froms_of f inputs) found.0 q
      (mapped_to (from_of f) inputs found.0 found.1 found.2 ∙ ap (λ (o : Option ℕ). Some (unwrap_or o (length f.blocks))) found.3);
  each = λ q there.
      let at = place_of (froms_of f inputs) q there in
      let x = mapped_of (from_of f) inputs at.0 q at.1 in
      (from_is f b inputs come at.0 q x.0 x.1 at.1).1;
  alike = λ j k q x y at_j at_k from_j from_k.
      come.same j k q x y at_j at_k (from_is f b inputs come j q x at_j from_j).0 (from_is f b inputs come k q y at_k from_k).0;
}
