use Rattle.std.proofs.Common.{◌++◌, ◌-◌, List, ℕ, zero, suc, map, ap, ap₂, arith, refl, ◌≡◌, ◌∷◌, ◌∙◌, vec_len}
use Rattle.std.proofs.Math.ListN.{replicate}
use Rattle.std.proofs.lemmas.List.{map-append, take_all}
use Rattle.ir_model.specs.Values as model
use Rattle.mem_cells.specs.declared.values.Value.{Value}
use Rattle.mem_cells.specs.declared.values.Value.TheVariants.{Poison}
use Rattle.mem_cells.specs.Shapes.{value_shape}
use Rattle.ir_eval.proofs.activation.fill.Goals as goal

poison_is : (n : ℕ) → map value_shape (replicate n Poison) ≡ replicate n model.Poison
poison_is zero = refl
poison_is (suc n) = ap (λ (vs : List model.Value). model.Poison ∷ vs) (poison_is n)

pub returns-in_ok-resize : goal.returns-in_ok-resize
returns-in_ok-resize c =
    let vs : List Value = c.args.values.now.items in
    let n : ℕ = c.args.count - vec_len c.args.values.now in
    ap (map value_shape)
    (c.in_ok-resize.ensures.items ∙ ap (λ (xs : List Value). xs ++ replicate n Poison)
    (take_all c.args.count vs (omega (arith, c.if-len-count.true, c.len.ensures, c.args.values.now.ok.0))))
    ∙ map-append value_shape vs (replicate n Poison)
    ∙ ap (λ (xs : List model.Value). map value_shape vs ++ xs) (poison_is n)
