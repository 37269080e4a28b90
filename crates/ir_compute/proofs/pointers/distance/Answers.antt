use Rattle.std.proofs.Common.{◌+◌, ◌*◌, ◌%◌, ◌^◌, ℕ, ap, sym, subst, ◌∙◌}
use Rattle.ir_compute.specs.Operands.{operand_values}
use Rattle.ir_compute.proofs.Distances.{HasCome, at_start, past_field, past_index, no_distance, at_end}
use Rattle.ir_compute.proofs.OperandsFound.{number_of}
use Rattle.ir_compute.proofs.pointers.distance.Goals as goal
use Rattle.ir_compute.proofs.pointers.distance.Goals.{in-Field, in-Scaled+in-Integer}

pub loop-stride-init : goal.loop-stride-init
loop-stride-init c = at_start c.args.strides.now (operand_values c.args.values.now c.args.operands.now) c.requires

pub loop-stride-preserved : goal.loop-stride-preserved
loop-stride-preserved c =
    let strides = c.args.strides.now in
    let vs = operand_values c.args.values.now c.args.operands.now in
    let i = c.loop-stride.stride-index in
    let far = c.loop-stride.far in
    let Come : ℕ → ℕ → Type 0 = λ next step. HasCome strides vs (i + 1) next ((far + step) % 2 ^ 64) in
    elim c.match-stride.branch [
      | in-Field w ↦ subst (λ next. Come next c.match-stride.step) (sym w.next-is)
          (subst (Come c.loop-stride.next) (sym w.step-is)
          (past_field strides vs i c.loop-stride.next far c.loop-stride.invariant c.loop-stride-test.true w.in-Field.offset w.in-Field.is))
      | in-Scaled+in-Integer w ↦ subst (λ next. Come next c.match-stride.step) (sym w.next-is)
          (subst (Come (c.loop-stride.next + 1)) (sym (w.step-is ∙ ap (λ (n : ℕ). n * w.in-Scaled.size % 2 ^ 64) w.extended.ensures))
          (past_index strides vs i c.loop-stride.next far c.loop-stride.invariant c.loop-stride-test.true
          w.in-Scaled.width w.in-Scaled.size w.in-Scaled.is w.in-Integer.field-0 w.in-Integer.n w.in-Integer.ensures))
    ]

pub returns-in_default : goal.returns-in_default
returns-in_default c =
    let vs = operand_values c.args.values.now c.args.operands.now in
    no_distance c.args.strides.now vs c.loop-stride.stride-index c.loop-stride.next c.loop-stride.far c.loop-stride.invariant c.loop-stride-test.true
    c.in-Scaled.width c.in-Scaled.size c.in-Scaled.is
    (λ w n is. c.in_default.not-Integer w n (number_of c.operand.result w n (is ∙ sym c.operand.ensures)))

pub returns : goal.returns
returns c =
    at_end c.args.strides.now (operand_values c.args.values.now c.args.operands.now) c.loop-stride.stride-index c.loop-stride.next c.loop-stride.far
    c.loop-stride.invariant c.loop-stride-test.false c.loop-stride.auto.far-fits.fits
