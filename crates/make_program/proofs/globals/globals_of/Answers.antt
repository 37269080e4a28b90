use Rattle.std.proofs.Common.{◌≡◌, ◌++◌, [], ◌∷◌, List, sym, ap, ap₂, subst, ◌∙◌}
use Rattle.std.specs.List.{AllByRecursion}
use Rattle.std.proofs.lemmas.List.{map-append}
use Rattle.ir_tree.specs.ShapeOf.{global_shape}
use Rattle.ir_rules.specs.Places.{global_at}
use Rattle.ir_model.specs.Values.{Cell}
use Rattle.ir_program.specs.Bytes.{HasByte}
use Rattle.ir_program.specs.Constants.{global_cells}
use Rattle.program_tables.specs.declared.program.GlobalBytes.{GlobalBytes}
use Rattle.program_tables.specs.Shapes.{pieces_cells}
use Rattle.program_steps.specs.Steps.{names_of}
use Rattle.program_consts.specs.Constants.{shape_of}
use Rattle.make_program.specs.Made.{all_cells}
use Rattle.make_program.proofs.Steps.{item_of, mapped_there, mapped_more, all_more}
use Rattle.make_program.proofs.globals.globals_of.Goals as goal

pub bytes_of-requires-clause-proper : goal.bytes_of-requires-clause-proper
bytes_of-requires-clause-proper c =
    let names = names_of c.args.constants.now.steps in
    let globals = c.args.constants.now.steps.«module».now.globals.items in
    let k = c.loop-global.global-index in
    let g = c.global-item.result in
    let at = item_of globals c.deref-global-items.result.now k g c.deref-global-items.ensures.value c.loop-global-test.true c.global-item.is in
    c.requires.proper (global_at k) (global_shape names g) (mapped_there (global_shape names) globals k g at.0 at.1)

pub loop-global-preserved : goal.loop-global-preserved
loop-global-preserved c =
    let m = shape_of c.args.constants.now in
    let names = names_of c.args.constants.now.steps in
    let globals = c.args.constants.now.steps.«module».now.globals.items in
    let k = c.loop-global.global-index in
    let g = c.global-item.result in
    let one = c.in_ok-bytes.bytes in
    let at = item_of globals c.deref-global-items.result.now k g c.deref-global-items.ensures.value c.loop-global-test.true c.global-item.is in
    let grown : all_cells c.push.new.self.items ≡ all_cells c.loop-global.globals.items ++ pieces_cells one.pieces.items ∷ [] =
    ap all_cells c.in_ok-push.ensures.items ∙ map-append (λ (b : GlobalBytes). pieces_cells b.pieces.items) c.loop-global.globals.items (one ∷ []) in
    record {
      cells = grown
          ∙ ap₂ (λ (xs : List (List Cell)) (x : List Cell). xs ++ x ∷ []) c.loop-global.invariant.cells c.in_ok-bytes.ensures.cells
          ∙ sym (mapped_more (global_shape names) (global_cells m) globals k g at.0 at.1);
      bytes = subst (AllByRecursion (AllByRecursion HasByte)) (sym grown)
          (all_more (AllByRecursion HasByte) (all_cells c.loop-global.globals.items) (pieces_cells one.pieces.items) c.loop-global.invariant.bytes c.in_ok-bytes.ensures.bytes);
    }
