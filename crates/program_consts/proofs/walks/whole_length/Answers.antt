use Rattle.std.proofs.Common.{◌+◌, ◌%◌, ◌^◌, ℕ, None, sym, subst}
use Rattle.program_tables.specs.declared.operations.Stride.TheVariants.{Scaled}
use Rattle.program_consts.proofs.Lengths.{FarLeft, all_left, step_there, numbered_here, counted_here, one_less, none_left}
use Rattle.program_consts.proofs.walks.whole_length.Goals as goal

pub bounds-strides-k : goal.bounds-strides-k
bounds-strides-k c = step_there c.args.strides.now c.args.indices.now c.loop-k.k c.loop-k.far c.loop-k.invariant c.loop-k-test.true

pub step_length-far-requires-clause-numbered : goal.step_length-far-requires-clause-numbered
step_length-far-requires-clause-numbered c =
    numbered_here c.args.strides.now c.args.indices.now c.loop-k.k c.loop-k.far c.loop-k.invariant (Scaled 0 0) (record { width = 0; number = None })
    c.loop-k-test.true

pub step_length-far-requires-clause-counted : goal.step_length-far-requires-clause-counted
step_length-far-requires-clause-counted c =
    counted_here c.args.strides.now c.args.indices.now c.loop-k.k c.loop-k.far c.loop-k.invariant (Scaled 0 0) (record { width = 0; number = None })
    c.loop-k-test.true

pub loop-k-init : goal.loop-k-init
loop-k-init c = all_left c.args.strides.now c.args.indices.now c.requires

pub loop-k-preserved : goal.loop-k-preserved
loop-k-preserved c =
    subst (λ (n : ℕ). FarLeft c.args.strides.now c.args.indices.now (c.loop-k.k + 1) ((c.loop-k.far + n) % 2 ^ 64)) (sym c.step_length-far.ensures)
    (one_less c.args.strides.now c.args.indices.now c.loop-k.k c.loop-k.far c.loop-k.invariant (Scaled 0 0) (record { width = 0; number = None }) c.loop-k-test.true)

pub returns : goal.returns
returns c = none_left c.args.strides.now c.args.indices.now c.loop-k.k c.loop-k.far c.loop-k.invariant c.loop-k-test.false c.loop-k.auto.far-fits.fits
