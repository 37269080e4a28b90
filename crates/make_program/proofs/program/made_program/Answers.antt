use Rattle.std.proofs.Common.{◌≡◌, ℕ, List, map, Option, sym, ap, ap₂, subst, ◌∙◌}
use Rattle.std.specs.Prelude.{unwrap_or, codes}
use Rattle.std.specs.Str.{bytes_eq}
use Rattle.std.specs.List.{AllByRecursion}
use Rattle.ir_tree.specs.ShapeOf.{function_shape as source_shape}
use Rattle.ir_rules.specs.Things.{function_of}
use Rattle.ir_model.specs.Values.{Cell}
use Rattle.ir_model.specs.Programs.{Function, Program}
use Rattle.ir_program.specs.Bytes.{HasByte}
use Rattle.ir_program.specs.ProgramOf.{program_of, program_function}
use Rattle.program_steps.specs.Steps.{names_of}
use Rattle.program_consts.specs.Constants.{shape_of}
use Rattle.make_program.specs.Main.{main_among}
use Rattle.make_program.proofs.Steps.{mapped_first}
use Rattle.make_program.proofs.program.made_program.Goals as goal

pub returns-clause-same : goal.returns-clause-same
unfolding program_of
returns-clause-same c =
    let m = shape_of c.args.constants.now in
    let names = names_of c.args.constants.now.steps in
    let functions = c.args.constants.now.steps.«module».now.functions.items in
    let make : List (List Cell) → List Function → ℕ → Program = λ globals fs main. record { globals = globals; functions = fs; main = main } in
    let first : main_among names functions ≡ function_of m (codes "main") = sym (mapped_first (source_shape names) (λ f. bytes_eq f.name (codes "main")) 0 functions) in
    let main : c.unwrap_or.result ≡ unwrap_or (function_of m (codes "main")) 0 =
    c.unwrap_or.ensures ∙ ap (λ (o : Option ℕ). unwrap_or o 0) (c.main_among.ensures ∙ ap (main_among names) c.deref.ensures.value ∙ first) in
    ap₂ (λ gs fs. make gs fs c.unwrap_or.result) c.in_ok-globals.ensures.cells c.in_ok-functions.ensures
    ∙ ap (make _ (map (program_function m) m.functions)) main

pub returns-clause-bytes : goal.returns-clause-bytes
unfolding program_of
returns-clause-bytes c = subst (AllByRecursion (AllByRecursion HasByte)) c.in_ok-globals.ensures.cells c.in_ok-globals.ensures.bytes
