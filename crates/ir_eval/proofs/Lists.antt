-- Values that are set, and those that phis take.
use Rattle.std.proofs.Common.{◌≡◌, ◌<◌, ℕ, zero, suc, ◌+◌, List, [], ◌∷◌, ◌++◌, map, length, set, get_or, take, length-append, arith, refl, ap, ap₂, sym, ◌∙◌}
use Rattle.std.proofs.lemmas.List.{length-map, length-take, get_or-map, take_more, map-append}
use Rattle.ir_model.specs.Values.{Value}
use Rattle.ir_model.specs.Programs as programs
use Rattle.ir_model.specs.Programs.{Phi}
use Rattle.mem_cells.specs.declared.values.Value as code
use Rattle.mem_cells.specs.Shapes.{value_shape}
use Rattle.program_tables.specs.declared.program.Phi as tables
use Rattle.program_tables.specs.Shapes.{phi_shape}
use Rattle.ir_model.specs.States as States
use Rattle.ir_model.specs.States.{value_of}
use Rattle.ir_model.specs.Steps.{taken, input_from}
use Rattle.ir_eval.specs.declared.activation.Activation.{Activation}
use Rattle.ir_eval.specs.Shapes.{activation_shape, values_of, with_values}
use Rattle.ir_eval.specs.Written.{written}

-- the last of several values is set before the others
pub written_last : {A : Type 0} → (values : List A) (ids : List ℕ) (vs : List A) (id : ℕ) (v : A) → length ids ≡ length vs
    → written values (ids ++ id ∷ []) (vs ++ v ∷ []) ≡ written (set values id v) ids vs
written_last values [] [] id v long = refl
written_last values [] (w ∷ vs) id v long = absurd (omega arith)
written_last values (k ∷ ids) [] id v long = absurd (omega arith)
written_last {A} values (k ∷ ids) (w ∷ vs) id v long = ap (λ (xs : List A). set xs k w) (written_last values ids vs id v (omega arith))

-- what phis take is set at once
pub taken_written : (from : ℕ) (before : List Value) (phis : List Phi)
    → taken from before phis ≡ written before (map (λ x. x.result) phis) (map (λ x. value_of before (input_from from x.inputs)) phis)
taken_written from before [] = refl
taken_written from before (x ∷ xs) =
    ap (λ (vs : List Value). set vs x.result (value_of before (input_from from x.inputs))) (taken_written from before xs)

-- the numbers of the values of phis
pub results_are : (phis : List tables.Phi) → map (λ x. x.result) phis ≡ map (λ (x : Phi). x.result) (map phi_shape phis)
results_are [] = refl
results_are (x ∷ xs) = ap (λ (ids : List ℕ). x.result ∷ ids) (results_are xs)

-- the last value is set, and those before it are left
pub one_less : (a b : Activation) (phis : List tables.Phi) (phi : tables.Phi) (vs : List code.Value) (v : code.Value)
    → length vs < length phis → phi ≡ get_or phis (length vs) phi
    → activation_shape b ≡ with_values a (set (values_of a) phi.result (value_shape v))
    → with_values b (written (values_of b) (take (length vs) (map (λ x. x.result) phis)) (map value_shape vs))
    ≡ with_values a (written (values_of a) (take (length (vs ++ v ∷ [])) (map (λ x. x.result) phis)) (map value_shape (vs ++ v ∷ [])))
one_less a b phis phi vs v lt is done =
    let k : ℕ = length vs in
    let ids : List ℕ = map (λ (x : tables.Phi). x.result) phis in
    let many : length ids ≡ length phis = length-map phis (λ (x : tables.Phi). x.result) in
    let found : get_or ids k 0 ≡ phi.result =
    get_or-map (λ (x : tables.Phi). x.result) phis k phi 0 lt ∙ ap (λ (x : tables.Phi). x.result) (sym is) in
    let front : length (take k ids) ≡ k = length-take k ids ∙ omega arith in
    let next : length (vs ++ v ∷ []) ≡ k + 1 = length-append vs (v ∷ []) in
    let cut : take (length (vs ++ v ∷ [])) ids ≡ take k ids ++ phi.result ∷ [] =
    ap (λ (n : ℕ). take n ids) next ∙ take_more ids k 0 (omega (arith, many, lt)) ∙ ap (λ (id : ℕ). take k ids ++ id ∷ []) found in
    ap (λ (s : States.Activation). record s { values = written s.values (take k ids) (map value_shape vs) }) done
    ∙ ap (with_values a)
    (sym (written_last (values_of a) (take k ids) (map value_shape vs) phi.result (value_shape v)
    (front ∙ sym (length-map vs value_shape)))
    ∙ ap₂ (λ (is : List ℕ) (xs : List Value). written (values_of a) is xs) (sym cut) (sym (map-append value_shape vs (v ∷ []))))
