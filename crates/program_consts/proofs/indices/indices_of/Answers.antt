use Rattle.std.proofs.Common.{◌≡◌, ◌+◌, ℕ, List, [], ◌∷◌, ◌++◌, map, take, sym, ap, ap₂, ◌∙◌}
use Rattle.std.proofs.lemmas.List.{map-append, take_more, take_all}
use Rattle.ir_tree.specs.Shape.{typed_row}
use Rattle.ir_tree.specs.ShapeOf.{typed_shape}
use Rattle.ir_tree.specs.declared.types.Typed.{Typed}
use Rattle.ir_program.specs.Strides.{Index as IndexShape}
use Rattle.ir_program.specs.Constants.{row_indices}
use Rattle.program_steps.specs.declared.index.Index.{Index}
use Rattle.program_steps.specs.Steps.{index_shape}
use Rattle.program_consts.proofs.Numbered.{indices_more}
use Rattle.program_consts.proofs.indices.indices_of.Goals as goal

pub loop-typed-preserved : goal.loop-typed-preserved
loop-typed-preserved c names =
    let row : List Typed = c.args.row.now in
    let k : ℕ = c.loop-typed.typed-index in
    let x : Typed = c.typed-item.result in
    let cut : take (k + 1) row ≡ take k row ++ x ∷ [] =
    take_more row k x c.loop-typed-test.true ∙ ap (λ (z : Typed). take k row ++ z ∷ []) (sym c.typed-item.is) in
    ap (λ (z : List Index). map index_shape z) c.in_ok-push.ensures.items
    ∙ map-append index_shape c.loop-typed.indices.items (c.index_of.result ∷ [])
    ∙ ap₂ (λ (z : List IndexShape) (i : IndexShape). z ++ i ∷ []) (c.loop-typed.invariant names) (c.index_of.ensures names)
    ∙ sym (indices_more names (take k row) x)
    ∙ ap (λ (z : List Typed). row_indices (typed_row (map (typed_shape names) z))) (sym cut)

pub returns : goal.returns
returns c names =
    c.loop-typed.invariant names
    ∙ ap (λ (z : List Typed). row_indices (typed_row (map (typed_shape names) z))) (take_all c.loop-typed.typed-index c.args.row.now c.loop-typed-test.false)
