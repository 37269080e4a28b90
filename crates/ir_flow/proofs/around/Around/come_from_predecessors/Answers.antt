use Rattle.std.proofs.Common.{◌≡◌, ℕ, true, List, length, Contains, sym, ◌∙◌, subst, arith}
use Rattle.std.proofs.lemmas.List.{length-map}
use Rattle.graph_paths.specs.Marks.{graph_of}
use Rattle.ir_flow.specs.Around.{names_of, function_of, inputs_of}
use Rattle.ir_flow.specs.Places.{HasPlace, ArePlaces}
use Rattle.ir_flow.specs.Phis.{AreAlike}
use Rattle.ir_flow.proofs.Tables.{as_many_predecessors}
use Rattle.ir_flow.proofs.Comes.{row_of}
use Rattle.ir_flow.proofs.Tests.{AreTables, row_read, pass_comes, come_pass}
use Rattle.ir_flow.proofs.around.Around.come_from_predecessors.Goals as goal
use Rattle.ir_flow.proofs.around.Around.come_from_predecessors.Goals.{then-all, else-all, then-each, else-each}

pub returns : goal.returns
returns c =
    let a = c.args.self.now in
    let f = function_of a in
    let b = c.args.block in
    let inputs = inputs_of a c.args.inputs.now in
    let froms = c.in_ok-from.from.items in
    let row = c.deref-2.result.now in
    let places = c.in_ok-places.places in
    let keys = c.args.predecessors.now in
    let rows = a.edges.now.predecessors.items in
    let blocks : length f.blocks ≡ length a.function.now.blocks.items = length-map a.function.now.blocks.items _ in
    let many : length rows ≡ length a.function.now.blocks.items = as_many_predecessors (names_of a) a.function.now a.edges.now c.requires.around.edges in
    let row_is : row_of (graph_of rows) b ≡ row =
    row_read rows b c.index.result.now (omega (arith, c.requires.block, many)) c.index.ensures ∙ sym c.deref-2.ensures.value in
    let tables : AreTables f b inputs froms row places keys = record {
      within = omega (arith, c.requires.block, blocks);
      rows = graph_of rows;
      back = c.requires.around.edges.back;
      row_is = row_is;
      froms_are = c.in_ok-from.ensures;
      has_places = subst (λ (z : List ℕ). ArePlaces z places) c.deref.ensures.value c.in_ok-places.ensures;
      has_keys = subst (λ (z : List ℕ). ArePlaces z keys) row_is c.requires.keys;
    } in (
      λ yes. elim c.if-each.branch [
        | then-each w ↦ elim c.if-all.branch [
          | then-all v ↦
              let alike : w.are_alike.result ≡ true = cc in
              let each : c.have_places-each.result ≡ true = cc in
              pass_comes f b inputs froms row places keys tables (record {
                all = c.have_places-all.ensures.0 v.if-all.true;
                each = subst (λ (z : List ℕ). (q : ℕ) → Contains z q → HasPlace keys q) c.deref-3.ensures.value (c.have_places-each.ensures.0 each);
                alike = subst (λ (z : List ℕ). AreAlike inputs z) w.deref-then-each.ensures.value (w.are_alike.ensures.0 alike);
              })
          | else-all v ↦ cc
        ]
        | else-each w ↦ cc
      ],
      λ come.
          let pass = come_pass f b inputs froms row places keys tables come in
          let all : c.have_places-all.result ≡ true = c.have_places-all.ensures.1 pass.all in
          let each : c.have_places-each.result ≡ true =
          c.have_places-each.ensures.1
          (subst (λ (z : List ℕ). (q : ℕ) → Contains z q → HasPlace keys q) (sym c.deref-3.ensures.value) pass.each) in
          elim c.if-each.branch [
            | then-each w ↦
                let alike : w.are_alike.result ≡ true =
                w.are_alike.ensures.1 (subst (λ (z : List ℕ). AreAlike inputs z) (sym w.deref-then-each.ensures.value) pass.alike) in
                cc
            | else-each w ↦ elim c.if-all.branch [ then-all v ↦ cc | else-all v ↦ cc ]
          ],
    )
