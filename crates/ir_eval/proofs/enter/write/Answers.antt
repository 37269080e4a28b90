use Rattle.std.proofs.Common.{◌≡◌, ◌<◌, ◌++◌, ◌∷◌, [], ℕ, List, map, take, length, set, get_or, length-append, arith, ap, sym, subst, ◌∙◌}
use Rattle.ir_model.specs.States as model
use Rattle.mem_cells.specs.declared.values.Value.{Value}
use Rattle.mem_cells.specs.Shapes.{value_shape}
use Rattle.program_tables.specs.declared.program.Phi.{Phi}
use Rattle.ir_eval.specs.Shapes.{values_of, with_values}
use Rattle.ir_eval.specs.Written.{written}
use Rattle.ir_eval.proofs.Lists.{one_less}
use Rattle.ir_eval.proofs.enter.write.Goals as goal

pub loop-value-preserved : goal.loop-value-preserved
loop-value-preserved c =
    let phis : List Phi = c.args.phis.now in
    let a = c.loop-value.a in
    let b = c.set.new.self in
    let phi = c.index-phis-len.result in
    let vs : List Value = c.pop.new.self.items in
    let v : Value = c.in-Some.value in
    let whole : c.loop-value.scratch.items ≡ vs ++ v ∷ [] = c.in-Some.ensures.items in
    let ids : List ℕ = map (λ (x : Phi). x.result) phis in
    let k : c.len.result ≡ length vs = omega (arith, c.len.ensures, c.pop.new.self.ok.0) in
    let long = ap (λ (xs : List Value). length xs) whole in
    let more = length-append vs (v ∷ []) in
    let lt : length vs < length phis = omega (arith, long, more, c.loop-value.invariant.0) in
    let found : phi ≡ get_or phis (length vs) phi = c.index-phis-len.is ∙ ap (λ (n : ℕ). get_or phis n phi) k in (
      omega (arith, lt),
      one_less a b phis phi vs v lt found
          (c.set.ensures ∙ ap (λ (x : Phi). with_values a (set (values_of a) x.result (value_shape v))) (sym c.index-phis-len.is))
          ∙ ap (λ (xs : List Value). with_values a (written (values_of a) (take (length xs) ids) (map value_shape xs))) (sym whole)
          ∙ c.loop-value.invariant.1,
    )
