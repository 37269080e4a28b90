-- The tests of a phi's inputs, and what they say together.
use Rattle.std.proofs.Common.{◌≡◌, ℕ, ◌<◌, List, [], length, get_or, Option, Vec, Contains, refl, sym, ◌∙◌, ap, subst, option_map}
use Rattle.std.specs.Prelude.{unwrap_or}
use Rattle.std.specs.BTreeMap.{BTreeMap}
use Rattle.std.specs.declared.alloc.Global.{Global}
use Rattle.std.proofs.lemmas.Option.{slice_get-map, slice_get_read}
use Rattle.ir_tree.specs.Shape.{PhiInShape, FunctionShape}
use Rattle.graph_paths.specs.Marks.{graph_of}
use Rattle.ir_proper.specs.Edges.{successors}
use Rattle.ir_proper.specs.FlowRules.{ComeFromPredecessors}
use Rattle.ir_edges.specs.Tables.{ArePredecessors}
use Rattle.ir_flow.specs.Places.{HasPlace, ArePlaces}
use Rattle.ir_flow.specs.Phis.{AreAlike, froms_of}
use Rattle.ir_flow.proofs.Comes.{row_of, in_row, placed, come_matched, matched_come}

-- the tables that the tests read are those of the phi
pub record AreTables (f : FunctionShape) (b : ℕ) (inputs : List PhiInShape) (froms row : List ℕ) (places keys : BTreeMap ℕ ℕ) : Type 0 where
  pub within : b < length f.blocks
  pub rows : List (List ℕ)
  pub back : ArePredecessors (successors f) rows
  pub row_is : row_of rows b ≡ row
  pub froms_are : froms ≡ froms_of f inputs
  pub has_places : ArePlaces froms places
  pub has_keys : ArePlaces row keys

-- what the tests tell
pub record Pass (inputs : List PhiInShape) (froms row : List ℕ) (places keys : BTreeMap ℕ ℕ) : Type 0 where
  pub all : (q : ℕ) → Contains row q → HasPlace places q
  pub each : (q : ℕ) → Contains froms q → HasPlace keys q
  pub alike : AreAlike inputs froms

pub pass_comes : (f : FunctionShape) (b : ℕ) (inputs : List PhiInShape) (froms row : List ℕ) (places keys : BTreeMap ℕ ℕ)
    → AreTables f b inputs froms row places keys → Pass inputs froms row places keys → ComeFromPredecessors f b inputs
pass_comes f b inputs froms row places keys t pass = come_matched f b inputs (record {
  all = λ q leads.
      let there = subst (λ (z : List ℕ). Contains z q) t.row_is ((in_row f t.rows b q t.back t.within).1 leads) in
      subst (λ (z : List ℕ). Contains z q) t.froms_are ((placed froms places q t.has_places).0 (pass.all q there));
  each = λ q there.
      let has = (placed row keys q t.has_keys).0 (pass.each q (subst (λ (z : List ℕ). Contains z q) (sym t.froms_are) there)) in
      (in_row f t.rows b q t.back t.within).0 (subst (λ (z : List ℕ). Contains z q) (sym t.row_is) has);
  alike = subst (λ (z : List ℕ). AreAlike inputs z) t.froms_are pass.alike;
})

pub come_pass : (f : FunctionShape) (b : ℕ) (inputs : List PhiInShape) (froms row : List ℕ) (places keys : BTreeMap ℕ ℕ)
    → AreTables f b inputs froms row places keys → ComeFromPredecessors f b inputs → Pass inputs froms row places keys
come_pass f b inputs froms row places keys t come =
    let m = matched_come f b inputs come in
    record {
      all = λ q there.
          let leads = (in_row f t.rows b q t.back t.within).0 (subst (λ (z : List ℕ). Contains z q) (sym t.row_is) there) in
          (placed froms places q t.has_places).1 (subst (λ (z : List ℕ). Contains z q) (sym t.froms_are) (m.all q leads));
      each = λ q there.
          let leads = m.each q (subst (λ (z : List ℕ). Contains z q) t.froms_are there) in
          (placed row keys q t.has_keys).1 (subst (λ (z : List ℕ). Contains z q) t.row_is ((in_row f t.rows b q t.back t.within).1 leads));
      alike = subst (λ (z : List ℕ). AreAlike inputs z) (sym t.froms_are) m.alike;
    }

-- a row that code reads
pub row_read : (rows : List (Vec ℕ Global)) (b : ℕ) (row : Vec ℕ Global) → b < length rows → row ≡ get_or rows b row → row_of (graph_of rows) b ≡ row.items
row_read rows b row within is =
    ap (λ (o : Option (List ℕ)). unwrap_or o [])
    (slice_get-map (λ (r : Vec ℕ Global). r.items) rows b
    ∙ ap (option_map (λ (r : Vec ℕ Global). r.items)) (slice_get_read rows (length rows) b row refl within is))
