use Rattle.std.proofs.Common.{◌≡◌, ◌∷◌, [], map, rules, to_z, of_z, true}
use Rattle.std.specs.Int.{w128}
use Rattle.ir_print_consts.specs.Texts.{in_row, ty_text, const_text, typed_text, address_start}
use Rattle.ir_print_consts.proofs.ConstTexts.{int_printed, bool_printed, null_printed, undef_printed, poison_printed, zero_printed, text_printed, global_printed, array_printed, struct_printed, address_printed, typed_printed, in_three, in_four}
use Rattle.ir_print_consts.proofs.constants.+constants.Goals as goal

pub push_const-returns-in-Int : goal.push_const-returns-in-Int
push_const-returns-in-Int t c =
    let e : to_z w128 (of_z w128 c.in-Int.number) ≡ c.in-Int.number = search rules in
    rw (c.in-Int.is, int_printed) (rw e at c.push_number.ensures)

pub push_const-returns-in-Bool : goal.push_const-returns-in-Bool
push_const-returns-in-Bool t c = rw (c.in-Bool.is, bool_printed) (rw c.word_of.ensures at c.push_keyword.ensures)

pub push_const-returns-in-Null : goal.push_const-returns-in-Null
push_const-returns-in-Null t c = rw (c.in-Null.is, null_printed) c.push_keyword-in-Null.ensures

pub push_const-returns-in-Undef : goal.push_const-returns-in-Undef
push_const-returns-in-Undef t c = rw (c.in-Undef.is, undef_printed) c.push_keyword-in-Undef.ensures

pub push_const-returns-in-Poison : goal.push_const-returns-in-Poison
push_const-returns-in-Poison t c = rw (c.in-Poison.is, poison_printed) c.push_keyword-in-Poison.ensures

pub push_const-returns-in-Zero : goal.push_const-returns-in-Zero
push_const-returns-in-Zero t c = rw (c.in-Zero.is, zero_printed) c.push_keyword-in-Zero.ensures

pub push_const-returns-in-Text : goal.push_const-returns-in-Text
push_const-returns-in-Text t c = rw (c.in-Text.is, text_printed) (rw c.deref.ensures.value at c.push_text.ensures)

pub push_const-returns-in-Array : goal.push_const-returns-in-Array
push_const-returns-in-Array t c = rw (c.in-Array.is, array_printed) (rw c.deref-in-Array.ensures.value at c.push_elements.ensures)

pub push_const-returns-in-Struct : goal.push_const-returns-in-Struct
push_const-returns-in-Struct t c = rw (c.in-Struct.is, struct_printed) (rw c.deref-in-Struct.ensures.value at c.push_fields.ensures)

pub push_const-returns-in-Global : goal.push_const-returns-in-Global
push_const-returns-in-Global t c = rw (c.in-Global.is, global_printed) (rw c.name_of.ensures at c.push_global.ensures)

pub push_const-returns-in_ok-push-in-Gep : goal.push_const-returns-in_ok-push-in-Gep
push_const-returns-in_ok-push-in-Gep t c =
    rw (c.in-Gep.is, address_printed)
    (in_four c.args.to.now.items (address_start c.args.names.now c.in-Gep.inbounds c.in-Gep.ty) (typed_text c.args.names.now c.in-Gep.base.value) (in_row true (map (typed_text c.args.names.now) c.in-Gep.indices.items)) (41 ∷ []) _ _ _ _ c.in_ok-push_address_start-in-Gep.ensures (rw c.deref-in-Gep.ensures at c.in_ok-push_typed-in-Gep.ensures) (rw c.deref-in-Gep-2.ensures.value at c.in_ok-push_row-in-Gep.ensures) c.in_ok-push-in-Gep.ensures.items)

pub push_typed-returns : goal.push_typed-returns
push_typed-returns t c =
    rw typed_printed
    (in_three c.args.to.now.items (ty_text c.args.names.now c.args.typed.now.ty) (32 ∷ []) (const_text c.args.names.now c.args.typed.now.value) _ _ _ c.in_ok-push_ty.ensures c.in_ok-push.ensures.items c.in_ok-push_const.ensures)
