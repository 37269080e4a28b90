use Rattle.std.proofs.Common.{◌≡◌, ◌+◌, ◌++◌, [], ◌∷◌, List, Bool, length, map, take, sym, ap, ◌∙◌, append-nil, append_assoc, Vec}
use Rattle.std.specs.Prelude.{if◌then◌else◌}
use Rattle.std.specs.declared.alloc.Global.{Global}
use Rattle.std.proofs.lemmas.List.{map-append}
use Rattle.ir_tree.specs.Known.{ty_val_known}
use Rattle.ir_tree.specs.ShapeOf.{ty_val_shape}
use Rattle.ir_model.specs.Programs.{Operand}
use Rattle.ir_program.specs.Strides.{scaled_only}
use Rattle.ir_program.specs.Operands.{typed_operand}
use Rattle.program_tables.specs.declared.program.Operand.{Operand as CodeOperand}
use Rattle.program_tables.specs.Shapes.{stride_shape, operand_shape}
use Rattle.program_actions.specs.Around.{around_of, names_around}
use Rattle.program_actions.proofs.Parts.{one_of}
use Rattle.program_actions.proofs.Scaling.{scaled_none, one_taken}
use Rattle.program_actions.proofs.around.Around.push_scaled.Goals.{then-is_scaled_at+in_ok-operand+in_ok-push, else-is_scaled_at}
use Rattle.program_actions.proofs.around.Around.push_scaled.Goals as goal

pub loop-k-init : goal.loop-k-init
loop-k-init c =
    let old = map operand_shape c.args.operands.now.items in
    sym (ap (λ (z : List Operand). old ++ z) (scaled_none c.args.strides.now) ∙ append-nil old)

pub typed_operand-requires-clause-names : goal.typed_operand-requires-clause-names
typed_operand-requires-clause-names c =
    one_of (ty_val_known (length (names_around c.args.self.now))) c.args.indices.now c.loop-k.k c.index-indices-k.result c.requires.names c.loop-k-test.true
    (sym c.index-indices-k.is)

pub loop-k-preserved : goal.loop-k-preserved
loop-k-preserved c =
    let a = c.args.self.now in
    let k = c.loop-k.k in
    let x = c.index-indices-k.result in
    let old = map operand_shape c.args.operands.now.items in
    let so_far = scaled_only (map stride_shape c.args.strides.now) (map (typed_operand (around_of a)) (map (ty_val_shape (names_around a)) (take k c.args.indices.now))) in
    let more = scaled_only (map stride_shape c.args.strides.now) (map (typed_operand (around_of a)) (map (ty_val_shape (names_around a)) (take (k + 1) c.args.indices.now))) in
    let one = typed_operand (around_of a) (ty_val_shape (names_around a) x) in
    let grown = λ (b : Bool). so_far ++ (if b then one ∷ [] else []) in
    let taken = one_taken (ty_val_shape (names_around a)) (typed_operand (around_of a)) c.args.strides.now c.args.indices.now k x c.loop-k-test.true (sym c.index-indices-k.is) in
    elim c.if-is_scaled_at.branch [
      | then-is_scaled_at+in_ok-operand+in_ok-push w ↦
          let is : more ≡ so_far ++ one ∷ [] = taken ∙ ap grown (sym c.is_scaled_at.ensures ∙ w.if-is_scaled_at.true) in
          ap (λ (v : Vec CodeOperand Global). map operand_shape v.items) w.operands-is
          ∙ ap (map operand_shape) w.in_ok-push.ensures.items
          ∙ map-append operand_shape c.loop-k.operands.items (w.in_ok-operand.operand ∷ [])
          ∙ ap (λ (z : List Operand). z ++ operand_shape w.in_ok-operand.operand ∷ []) c.loop-k.invariant
          ∙ append_assoc old so_far (operand_shape w.in_ok-operand.operand ∷ [])
          ∙ ap (λ (o : Operand). old ++ (so_far ++ o ∷ [])) w.in_ok-operand.ensures
          ∙ ap (λ (z : List Operand). old ++ z) (sym is)
      | else-is_scaled_at w ↦
          let is : more ≡ so_far = taken ∙ ap grown (sym c.is_scaled_at.ensures ∙ w.if-is_scaled_at.false) ∙ append-nil so_far in
          ap (λ (v : Vec CodeOperand Global). map operand_shape v.items) w.operands-is
          ∙ c.loop-k.invariant
          ∙ ap (λ (z : List Operand). old ++ z) (sym is)
    ]
