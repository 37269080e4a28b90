-- What an operation on two numbers of a width comes to.
use Rattle.std.specs.Prelude.{ℕ}
use Rattle.ir_model.specs.declared.Why.TheVariants as why
use Rattle.ir_model.specs.Values.{Integer, Poison as poison, Answer, Gives, Fails}
use Rattle.ir_arith.specs.declared.computed.Computed.{Computed}
use Rattle.ir_arith.specs.declared.computed.Computed.TheVariants.{Number, Poison, Fault}

-- the answer
abbrev pub answer_shape : ℕ → Computed → Answer
answer_shape width (Number n) = Gives (Integer width n)
answer_shape width Poison = Gives poison
answer_shape width Fault = Fails why.Divide
