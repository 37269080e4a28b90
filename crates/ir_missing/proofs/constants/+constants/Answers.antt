use Rattle.std.proofs.Common.{ℕ, Bool, ◌++◌, ◌&&◌, Option, ap, ◌∙◌}
use Rattle.std.specs.Prelude.{is_some}
use Rattle.ir_tree.specs.ShapeOf.{ty_shape, typed_shape}
use Rattle.ir_tree.specs.Known.{ty_known, typed_known}
use Rattle.ir_tree.specs.declared.types.Ty.{Ty}
use Rattle.ir_tree.specs.declared.types.Typed.{Typed}
use Rattle.ir_names.specs.Tables.{ModuleTable}
use Rattle.ir_rules.specs.Uses.{ty_uses, typed_uses}
use Rattle.ir_missing.specs.Tells.{Outside, Tells}
use Rattle.ir_missing.proofs.Telling.{tells_then, tells_else, tells_value, rest_next, rest_stops, rest_ends}
use Rattle.ir_missing.proofs.ToldConstants.{int_told, bool_told, null_told, undef_told, poison_told, zero_told, text_told, elements_told, fields_told, global_told, address_told, typed_told}
use Rattle.ir_missing.proofs.constants.+constants.Goals as goal
use Rattle.ir_missing.proofs.constants.+constants.Goals.{const_there-then-ty_there, const_there-else-ty_there}

pub const_there-returns-in-Int : goal.const_there-returns-in-Int
const_there-returns-in-Int t c = rw c.in-Int.is (int_told _ _)

pub const_there-returns-in-Bool : goal.const_there-returns-in-Bool
const_there-returns-in-Bool t c = rw c.in-Bool.is (bool_told _ _)

pub const_there-returns-in-Null : goal.const_there-returns-in-Null
const_there-returns-in-Null t c = rw c.in-Null.is (null_told _)

pub const_there-returns-in-Undef : goal.const_there-returns-in-Undef
const_there-returns-in-Undef t c = rw c.in-Undef.is (undef_told _)

pub const_there-returns-in-Poison : goal.const_there-returns-in-Poison
const_there-returns-in-Poison t c = rw c.in-Poison.is (poison_told _)

pub const_there-returns-in-Zero : goal.const_there-returns-in-Zero
const_there-returns-in-Zero t c = rw c.in-Zero.is (zero_told _)

pub const_there-returns-in-Text : goal.const_there-returns-in-Text
const_there-returns-in-Text t c = rw c.in-Text.is (text_told _ _)

pub const_there-returns-in-Array : goal.const_there-returns-in-Array
const_there-returns-in-Array t c = rw c.in-Array.is (elements_told _ _ _ (rw c.deref.ensures.value at c.values_there.ensures))

pub const_there-returns-in-Struct : goal.const_there-returns-in-Struct
const_there-returns-in-Struct t c = rw c.in-Struct.is (fields_told _ _ _ _ (rw c.deref-in-Struct.ensures.value at c.values_there-in-Struct.ensures))

pub const_there-returns-in-Global : goal.const_there-returns-in-Global
const_there-returns-in-Global t c =
    rw c.in-Global.is (global_told _ _ _ (λ m are known. c.is_some.ensures ∙ ap (λ (o : Option ℕ). is_some o) (c.global_of.ensures m are known)))

-- the type that is stepped through, and the pointer
abbrev PointerTells : ModuleTable → Ty → Typed → Bool → Type 0
PointerTells t x base answer =
    Tells (Outside t) (λ n. ty_known n x && typed_known n base) (λ names. ty_uses (ty_shape names x) ++ typed_uses (typed_shape names base)) answer

pub const_there-returns-then-typed_there : goal.const_there-returns-then-typed_there
const_there-returns-then-typed_there t c =
    let pointer : PointerTells c.args.outside.now c.in-Gep.ty c.in-Gep.base.value c.if-ty_there.value =
    elim c.if-ty_there.branch [
      | const_there-then-ty_there w ↦
          tells_value w.value-is (tells_then c.ty_there.ensures w.if-ty_there.true (rw w.deref-then-ty_there.ensures at w.typed_there.ensures))
      | const_there-else-ty_there w ↦ tells_value w.value-is (tells_else _ _ c.ty_there.ensures w.if-ty_there.false)
    ] in
    rw c.in-Gep.is
    (address_told _ _ _ _ _ _
    (tells_then pointer c.if-typed_there.true (rw c.deref-then-typed_there.ensures.value at c.values_there-then-typed_there.ensures)))

pub const_there-returns-else-typed_there : goal.const_there-returns-else-typed_there
const_there-returns-else-typed_there t c =
    let pointer : PointerTells c.args.outside.now c.in-Gep.ty c.in-Gep.base.value c.if-ty_there.value =
    elim c.if-ty_there.branch [
      | const_there-then-ty_there w ↦
          tells_value w.value-is (tells_then c.ty_there.ensures w.if-ty_there.true (rw w.deref-then-ty_there.ensures at w.typed_there.ensures))
      | const_there-else-ty_there w ↦ tells_value w.value-is (tells_else _ _ c.ty_there.ensures w.if-ty_there.false)
    ] in
    rw c.in-Gep.is (address_told _ _ _ _ _ _ (tells_else _ _ pointer c.if-typed_there.false))

pub typed_there-returns-then-ty_there : goal.typed_there-returns-then-ty_there
typed_there-returns-then-ty_there t c = typed_told _ _ _ (tells_then c.ty_there.ensures c.if-ty_there.true c.const_there.ensures)

pub typed_there-returns-else-ty_there : goal.typed_there-returns-else-ty_there
typed_there-returns-else-ty_there t c = typed_told _ _ _ (tells_else _ _ c.ty_there.ensures c.if-ty_there.false)

pub values_there-loop-typed-preserved : goal.values_there-loop-typed-preserved
values_there-loop-typed-preserved t c =
    rest_next (Outside _) typed_known typed_shape typed_uses _ c.loop-typed.typed-index c.typed-item.result _ c.loop-typed-test.true c.typed-item.is
    c.typed_there.ensures c.if-not-typed_there.false c.loop-typed.invariant

pub values_there-returns-then-not-typed_there : goal.values_there-returns-then-not-typed_there
values_there-returns-then-not-typed_there t c =
    rest_stops (Outside _) typed_known typed_shape typed_uses _ c.loop-typed.typed-index c.typed-item.result _ c.loop-typed-test.true c.typed-item.is
    c.typed_there.ensures c.if-not-typed_there.true c.loop-typed.invariant

pub values_there-returns : goal.values_there-returns
values_there-returns t c =
    rest_ends (Outside _) typed_known typed_shape typed_uses _ c.loop-typed.typed-index c.loop-typed-test.false c.loop-typed.invariant
