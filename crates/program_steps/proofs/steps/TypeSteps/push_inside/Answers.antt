use Rattle.std.proofs.Common.{◌≡◌, ℕ, ◌+◌, List, [], ◌∷◌, ◌++◌, get_or, map, drop, None, sym, ◌∙◌, ap, subst}
use Rattle.std.proofs.lemmas.List.{drop_more, map-append}
use Rattle.ir_model.specs.Pointers as model
use Rattle.ir_program.specs.Strides.{strides_inside}
use Rattle.program_tables.specs.declared.operations.Stride.{Stride}
use Rattle.program_tables.specs.Shapes.{stride_shape}
use Rattle.program_steps.specs.declared.index.Index.{Index}
use Rattle.program_steps.specs.Steps.{types_of, index_shape}
use Rattle.program_steps.proofs.Walked.{Reached, one_more, nothing_left}
use Rattle.program_steps.proofs.steps.TypeSteps.push_inside.Goals as goal

pub returns-in_default : goal.returns-in_default
returns-in_default c t laid sized walks =
    let s = c.args.self.now in
    let xs : List Index = c.args.indices.now in
    let i : ℕ = c.loop-index.index-index in
    let x : Index = get_or xs i (record { width = 0; number = None }) in
    let taken : List model.Stride = map stride_shape c.loop-index.strides.items in
    let whole : List model.Stride = map stride_shape c.args.strides.now.items ++ strides_inside (types_of s) t (map index_shape xs) in
    let r : Reached s c.loop-index.at.now (x ∷ drop (i + 1) xs) taken whole =
    subst (λ (z : List Index). Reached s c.loop-index.at.now z taken whole) (drop_more xs i (record { width = 0; number = None }) c.loop-index-test.true)
    (c.loop-index.invariant t laid sized walks) in
    absurd (c.in_default.ensures r.ty r.walks.0 r.is_laid r.sized r.walks.1)

pub loop-index-preserved : goal.loop-index-preserved
loop-index-preserved c t laid sized walks =
    let s = c.args.self.now in
    let xs : List Index = c.args.indices.now in
    let i : ℕ = c.loop-index.index-index in
    let x : Index = get_or xs i (record { width = 0; number = None }) in
    let taken : List model.Stride = map stride_shape c.loop-index.strides.items in
    let whole : List model.Stride = map stride_shape c.args.strides.now.items ++ strides_inside (types_of s) t (map index_shape xs) in
    let r : Reached s c.loop-index.at.now (x ∷ drop (i + 1) xs) taken whole =
    subst (λ (z : List Index). Reached s c.loop-index.at.now z taken whole) (drop_more xs i (record { width = 0; number = None }) c.loop-index-test.true)
    (c.loop-index.invariant t laid sized walks) in
    let pushed : map stride_shape c.push.new.self.items ≡ taken ++ stride_shape c.in-Some.stride ∷ [] =
    ap (λ (z : List Stride). map stride_shape z) c.in_ok-push.ensures.items ∙ map-append stride_shape c.loop-index.strides.items (c.in-Some.stride ∷ []) in
    subst (λ (z : List model.Stride). Reached s c.in-Some.inside.now (drop (i + 1) xs) z whole) (sym pushed)
    (one_more s c.loop-index.at.now c.in-Some.inside.now x (drop (i + 1) xs) c.in-Some.stride taken whole r
    (c.in-Some.ensures r.ty r.walks.0 r.is_laid r.sized r.walks.1))

pub returns : goal.returns
returns c t laid sized walks =
    let s = c.args.self.now in
    nothing_left s c.loop-index.at.now c.args.indices.now c.loop-index.index-index (map stride_shape c.loop-index.strides.items)
    (map stride_shape c.args.strides.now.items ++ strides_inside (types_of s) t (map index_shape c.args.indices.now)) c.loop-index-test.false
    (c.loop-index.invariant t laid sized walks)
