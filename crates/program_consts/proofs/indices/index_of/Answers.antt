use Rattle.std.proofs.Common.{ℕ, ℤ, Option, sym, ap, ap₂, ◌∙◌}
use Rattle.ir_check_consts.proofs.Shapes.{typed_is}
use Rattle.ir_program.specs.Strides.{Index}
use Rattle.ir_program.specs.Constants.{const_index}
use Rattle.program_consts.proofs.indices.index_of.Goals as goal

pub returns : goal.returns
returns c names =
    let make : ℕ → Option ℤ → Index = λ width number. record { width = width; number = number } in
    ap₂ make (c.width_of.ensures names) (c.number_of.ensures names) ∙ sym (ap const_index (typed_is names c.args.typed.now))
