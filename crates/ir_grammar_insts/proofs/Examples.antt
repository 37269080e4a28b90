-- Examples: what the readers answer at short lists, each with its text; `Wrong` has the list from the first wrong symbol on.
use Rattle.std.proofs.Common.{◌≡◌, true, false, [], ◌∷◌, refl, pos}
use Rattle.grammar.specs.Reader.{Got, Wrong, run_recursive, run_many, run_until, run_items}
use Rattle.ir_tree.specs.Shape.{integer, pointer, void, local, fixed, number, global, binary, icmp, select, convert, freeze, alloca, load, store, get_element, call, phi, jump, branch, switch, return_void, return_value, unreachable, fields, no_values}
use Rattle.ir_tree.specs.declared.module.Bin.TheVariants as bins
use Rattle.ir_tree.specs.declared.module.Pred.TheVariants as preds
use Rattle.ir_tree.specs.declared.module.Conv.TheVariants as convs
use Rattle.ir_words.specs.declared.words.Keyword.TheVariants.{Integer, Ptr, Void, Phi, Add, Shl, Udiv, Sdiv, Xor, Nuw, Nsw, Exact, InBounds, Icmp, Select, Zext, Trunc, To, Freeze, Alloca, Load, Store, GetElementPtr, Call, Br, Label, Switch, Ret, Unreachable, Slt}
use Rattle.ir_lex.specs.Symbols.{KeywordSymbol, LocalSymbol, GlobalSymbol, LabelSymbol, NumberSymbol, MarkSymbol}
use Rattle.ir_grammar_insts.specs.Instructions.{run_phi, run_inst}
use Rattle.ir_grammar_insts.specs.Terminators.{run_term}

-- add nuw nuw nsw i32 %a, 5
flag_twice : run_inst 30 (KeywordSymbol Add ∷ KeywordSymbol Nuw ∷ KeywordSymbol Nuw ∷ KeywordSymbol Nsw ∷ KeywordSymbol (Integer 32) ∷ LocalSymbol (97 ∷ []) ∷ MarkSymbol 44 ∷ NumberSymbol (pos 5) ∷ []) ≡ Got (binary bins.Add (record { nuw = true; nsw = true; exact = false }) (integer 32) (local (97 ∷ [])) (fixed (number (pos 5)))) []
unfolding run_recursive run_many run_until run_items
flag_twice = refl

-- add nsw i32 %a, 5 }
one_flag : run_inst 30 (KeywordSymbol Add ∷ KeywordSymbol Nsw ∷ KeywordSymbol (Integer 32) ∷ LocalSymbol (97 ∷ []) ∷ MarkSymbol 44 ∷ NumberSymbol (pos 5) ∷ MarkSymbol 125 ∷ []) ≡ Got (binary bins.Add (record { nuw = false; nsw = true; exact = false }) (integer 32) (local (97 ∷ [])) (fixed (number (pos 5)))) (MarkSymbol 125 ∷ [])
unfolding run_recursive run_many run_until run_items
one_flag = refl

-- shl nuw i32 %a, %b %c
shl_before_local : run_inst 30 (KeywordSymbol Shl ∷ KeywordSymbol Nuw ∷ KeywordSymbol (Integer 32) ∷ LocalSymbol (97 ∷ []) ∷ MarkSymbol 44 ∷ LocalSymbol (98 ∷ []) ∷ LocalSymbol (99 ∷ []) ∷ []) ≡ Got (binary bins.Shl (record { nuw = true; nsw = false; exact = false }) (integer 32) (local (97 ∷ [])) (local (98 ∷ []))) (LocalSymbol (99 ∷ []) ∷ [])
unfolding run_recursive run_many run_until run_items
shl_before_local = refl

-- sdiv exact i32 %a, 5
exact_once : run_inst 30 (KeywordSymbol Sdiv ∷ KeywordSymbol Exact ∷ KeywordSymbol (Integer 32) ∷ LocalSymbol (97 ∷ []) ∷ MarkSymbol 44 ∷ NumberSymbol (pos 5) ∷ []) ≡ Got (binary bins.Sdiv (record { nuw = false; nsw = false; exact = true }) (integer 32) (local (97 ∷ [])) (fixed (number (pos 5)))) []
unfolding run_recursive run_many run_until run_items
exact_once = refl

-- udiv i32 %a, 5
no_exact : run_inst 30 (KeywordSymbol Udiv ∷ KeywordSymbol (Integer 32) ∷ LocalSymbol (97 ∷ []) ∷ MarkSymbol 44 ∷ NumberSymbol (pos 5) ∷ []) ≡ Got (binary bins.Udiv (record { nuw = false; nsw = false; exact = false }) (integer 32) (local (97 ∷ [])) (fixed (number (pos 5)))) []
unfolding run_recursive run_many run_until run_items
no_exact = refl

-- sdiv exact exact i32 %a, 5
exact_twice : run_inst 30 (KeywordSymbol Sdiv ∷ KeywordSymbol Exact ∷ KeywordSymbol Exact ∷ KeywordSymbol (Integer 32) ∷ LocalSymbol (97 ∷ []) ∷ MarkSymbol 44 ∷ NumberSymbol (pos 5) ∷ []) ≡ Wrong (KeywordSymbol Exact ∷ KeywordSymbol (Integer 32) ∷ LocalSymbol (97 ∷ []) ∷ MarkSymbol 44 ∷ NumberSymbol (pos 5) ∷ [])
unfolding run_recursive run_many run_until run_items
exact_twice = refl

-- xor nuw i32 %a, 5
xor_with_flag : run_inst 30 (KeywordSymbol Xor ∷ KeywordSymbol Nuw ∷ KeywordSymbol (Integer 32) ∷ LocalSymbol (97 ∷ []) ∷ MarkSymbol 44 ∷ NumberSymbol (pos 5) ∷ []) ≡ Wrong (KeywordSymbol Nuw ∷ KeywordSymbol (Integer 32) ∷ LocalSymbol (97 ∷ []) ∷ MarkSymbol 44 ∷ NumberSymbol (pos 5) ∷ [])
unfolding run_recursive run_many run_until run_items
xor_with_flag = refl

-- xor i32 %a, 5
xor_plain : run_inst 30 (KeywordSymbol Xor ∷ KeywordSymbol (Integer 32) ∷ LocalSymbol (97 ∷ []) ∷ MarkSymbol 44 ∷ NumberSymbol (pos 5) ∷ []) ≡ Got (binary bins.Xor (record { nuw = false; nsw = false; exact = false }) (integer 32) (local (97 ∷ [])) (fixed (number (pos 5)))) []
unfolding run_recursive run_many run_until run_items
xor_plain = refl

-- icmp slt i32 %a, 5 a:
icmp_before_label : run_inst 30 (KeywordSymbol Icmp ∷ KeywordSymbol Slt ∷ KeywordSymbol (Integer 32) ∷ LocalSymbol (97 ∷ []) ∷ MarkSymbol 44 ∷ NumberSymbol (pos 5) ∷ LabelSymbol (97 ∷ []) ∷ []) ≡ Got (icmp preds.Slt (integer 32) (local (97 ∷ [])) (fixed (number (pos 5)))) (LabelSymbol (97 ∷ []) ∷ [])
unfolding run_recursive run_many run_until run_items
icmp_before_label = refl

-- icmp i32 %a, 5
icmp_without_pred : run_inst 30 (KeywordSymbol Icmp ∷ KeywordSymbol (Integer 32) ∷ LocalSymbol (97 ∷ []) ∷ MarkSymbol 44 ∷ NumberSymbol (pos 5) ∷ []) ≡ Wrong (KeywordSymbol (Integer 32) ∷ LocalSymbol (97 ∷ []) ∷ MarkSymbol 44 ∷ NumberSymbol (pos 5) ∷ [])
unfolding run_recursive run_many run_until run_items
icmp_without_pred = refl

-- select i1 %c, i32 %a, i32 5
select_three : run_inst 30 (KeywordSymbol Select ∷ KeywordSymbol (Integer 1) ∷ LocalSymbol (99 ∷ []) ∷ MarkSymbol 44 ∷ KeywordSymbol (Integer 32) ∷ LocalSymbol (97 ∷ []) ∷ MarkSymbol 44 ∷ KeywordSymbol (Integer 32) ∷ NumberSymbol (pos 5) ∷ []) ≡ Got (select (record { ty = (integer 1); val = (local (99 ∷ [])) }) (record { ty = (integer 32); val = (local (97 ∷ [])) }) (record { ty = (integer 32); val = (fixed (number (pos 5))) })) []
unfolding run_recursive run_many run_until run_items
select_three = refl

-- zext i32 %a to i64
zext_to : run_inst 30 (KeywordSymbol Zext ∷ KeywordSymbol (Integer 32) ∷ LocalSymbol (97 ∷ []) ∷ KeywordSymbol To ∷ KeywordSymbol (Integer 64) ∷ []) ≡ Got (convert convs.Zext (integer 32) (local (97 ∷ [])) (integer 64)) []
unfolding run_recursive run_many run_until run_items
zext_to = refl

-- trunc nuw nsw i64 %a to i32
trunc_flags_dropped : run_inst 30 (KeywordSymbol Trunc ∷ KeywordSymbol Nuw ∷ KeywordSymbol Nsw ∷ KeywordSymbol (Integer 64) ∷ LocalSymbol (97 ∷ []) ∷ KeywordSymbol To ∷ KeywordSymbol (Integer 32) ∷ []) ≡ Got (convert convs.Trunc (integer 64) (local (97 ∷ [])) (integer 32)) []
unfolding run_recursive run_many run_until run_items
trunc_flags_dropped = refl

-- zext nuw i64 %a to i32
zext_with_flag : run_inst 30 (KeywordSymbol Zext ∷ KeywordSymbol Nuw ∷ KeywordSymbol (Integer 64) ∷ LocalSymbol (97 ∷ []) ∷ KeywordSymbol To ∷ KeywordSymbol (Integer 32) ∷ []) ≡ Wrong (KeywordSymbol Nuw ∷ KeywordSymbol (Integer 64) ∷ LocalSymbol (97 ∷ []) ∷ KeywordSymbol To ∷ KeywordSymbol (Integer 32) ∷ [])
unfolding run_recursive run_many run_until run_items
zext_with_flag = refl

-- freeze i32 %a
freeze_one : run_inst 30 (KeywordSymbol Freeze ∷ KeywordSymbol (Integer 32) ∷ LocalSymbol (97 ∷ []) ∷ []) ≡ Got (freeze (integer 32) (local (97 ∷ []))) []
unfolding run_recursive run_many run_until run_items
freeze_one = refl

-- alloca i32
alloca_one : run_inst 30 (KeywordSymbol Alloca ∷ KeywordSymbol (Integer 32) ∷ []) ≡ Got (alloca (integer 32) (pos 1)) []
unfolding run_recursive run_many run_until run_items
alloca_one = refl

-- alloca i32, i64 10 ret
alloca_count : run_inst 30 (KeywordSymbol Alloca ∷ KeywordSymbol (Integer 32) ∷ MarkSymbol 44 ∷ KeywordSymbol (Integer 64) ∷ NumberSymbol (pos 10) ∷ KeywordSymbol Ret ∷ []) ≡ Got (alloca (integer 32) (pos 10)) (KeywordSymbol Ret ∷ [])
unfolding run_recursive run_many run_until run_items
alloca_count = refl

-- alloca i32 %a
alloca_before_local : run_inst 30 (KeywordSymbol Alloca ∷ KeywordSymbol (Integer 32) ∷ LocalSymbol (97 ∷ []) ∷ []) ≡ Got (alloca (integer 32) (pos 1)) (LocalSymbol (97 ∷ []) ∷ [])
unfolding run_recursive run_many run_until run_items
alloca_before_local = refl

-- alloca i32, i64 %a
alloca_count_wrong : run_inst 30 (KeywordSymbol Alloca ∷ KeywordSymbol (Integer 32) ∷ MarkSymbol 44 ∷ KeywordSymbol (Integer 64) ∷ LocalSymbol (97 ∷ []) ∷ []) ≡ Wrong (LocalSymbol (97 ∷ []) ∷ [])
unfolding run_recursive run_many run_until run_items
alloca_count_wrong = refl

-- load i32, ptr %p
load_one : run_inst 30 (KeywordSymbol Load ∷ KeywordSymbol (Integer 32) ∷ MarkSymbol 44 ∷ KeywordSymbol Ptr ∷ LocalSymbol (112 ∷ []) ∷ []) ≡ Got (load (integer 32) (record { ty = pointer; val = (local (112 ∷ [])) })) []
unfolding run_recursive run_many run_until run_items
load_one = refl

-- store i32 5, ptr %p
store_one : run_inst 30 (KeywordSymbol Store ∷ KeywordSymbol (Integer 32) ∷ NumberSymbol (pos 5) ∷ MarkSymbol 44 ∷ KeywordSymbol Ptr ∷ LocalSymbol (112 ∷ []) ∷ []) ≡ Got (store (record { ty = (integer 32); val = (fixed (number (pos 5))) }) (record { ty = pointer; val = (local (112 ∷ [])) })) []
unfolding run_recursive run_many run_until run_items
store_one = refl

-- getelementptr inbounds nuw i32, ptr %p, i64 1, i64 %a add
element_flags_and_indices : run_inst 30 (KeywordSymbol GetElementPtr ∷ KeywordSymbol InBounds ∷ KeywordSymbol Nuw ∷ KeywordSymbol (Integer 32) ∷ MarkSymbol 44 ∷ KeywordSymbol Ptr ∷ LocalSymbol (112 ∷ []) ∷ MarkSymbol 44 ∷ KeywordSymbol (Integer 64) ∷ NumberSymbol (pos 1) ∷ MarkSymbol 44 ∷ KeywordSymbol (Integer 64) ∷ LocalSymbol (97 ∷ []) ∷ KeywordSymbol Add ∷ []) ≡ Got (get_element true (integer 32) (record { ty = pointer; val = (local (112 ∷ [])) }) ((record { ty = (integer 64); val = (fixed (number (pos 1))) }) ∷ (record { ty = (integer 64); val = (local (97 ∷ [])) }) ∷ [])) (KeywordSymbol Add ∷ [])
unfolding run_recursive run_many run_until run_items
element_flags_and_indices = refl

-- getelementptr nuw i32, ptr %p
element_nuw_dropped : run_inst 30 (KeywordSymbol GetElementPtr ∷ KeywordSymbol Nuw ∷ KeywordSymbol (Integer 32) ∷ MarkSymbol 44 ∷ KeywordSymbol Ptr ∷ LocalSymbol (112 ∷ []) ∷ []) ≡ Got (get_element false (integer 32) (record { ty = pointer; val = (local (112 ∷ [])) }) []) []
unfolding run_recursive run_many run_until run_items
element_nuw_dropped = refl

-- call i32 @f(i32 5, ptr %p)
call_two : run_inst 30 (KeywordSymbol Call ∷ KeywordSymbol (Integer 32) ∷ GlobalSymbol (102 ∷ []) ∷ MarkSymbol 40 ∷ KeywordSymbol (Integer 32) ∷ NumberSymbol (pos 5) ∷ MarkSymbol 44 ∷ KeywordSymbol Ptr ∷ LocalSymbol (112 ∷ []) ∷ MarkSymbol 41 ∷ []) ≡ Got (call (integer 32) (fixed (global (102 ∷ []))) ((record { ty = (integer 32); val = (fixed (number (pos 5))) }) ∷ (record { ty = pointer; val = (local (112 ∷ [])) }) ∷ [])) []
unfolding run_recursive run_many run_until run_items
call_two = refl

-- call void @f()
call_none : run_inst 30 (KeywordSymbol Call ∷ KeywordSymbol Void ∷ GlobalSymbol (102 ∷ []) ∷ MarkSymbol 40 ∷ MarkSymbol 41 ∷ []) ≡ Got (call void (fixed (global (102 ∷ []))) []) []
unfolding run_recursive run_many run_until run_items
call_none = refl

-- call void %f()
call_of_local : run_inst 30 (KeywordSymbol Call ∷ KeywordSymbol Void ∷ LocalSymbol (102 ∷ []) ∷ MarkSymbol 40 ∷ MarkSymbol 41 ∷ []) ≡ Wrong (LocalSymbol (102 ∷ []) ∷ MarkSymbol 40 ∷ MarkSymbol 41 ∷ [])
unfolding run_recursive run_many run_until run_items
call_of_local = refl

-- call void @f(i32 5, )
call_comma_before_close : run_inst 30 (KeywordSymbol Call ∷ KeywordSymbol Void ∷ GlobalSymbol (102 ∷ []) ∷ MarkSymbol 40 ∷ KeywordSymbol (Integer 32) ∷ NumberSymbol (pos 5) ∷ MarkSymbol 44 ∷ MarkSymbol 41 ∷ []) ≡ Wrong (MarkSymbol 41 ∷ [])
unfolding run_recursive run_many run_until run_items
call_comma_before_close = refl

-- br label %a
br_is_no_instruction : run_inst 30 (KeywordSymbol Br ∷ KeywordSymbol Label ∷ LocalSymbol (97 ∷ []) ∷ []) ≡ Wrong (KeywordSymbol Br ∷ KeywordSymbol Label ∷ LocalSymbol (97 ∷ []) ∷ [])
unfolding run_recursive run_many run_until run_items
br_is_no_instruction = refl

-- phi i32 [1, %e], [%b, %l] %x
phi_two : run_phi 30 (KeywordSymbol Phi ∷ KeywordSymbol (Integer 32) ∷ MarkSymbol 91 ∷ NumberSymbol (pos 1) ∷ MarkSymbol 44 ∷ LocalSymbol (101 ∷ []) ∷ MarkSymbol 93 ∷ MarkSymbol 44 ∷ MarkSymbol 91 ∷ LocalSymbol (98 ∷ []) ∷ MarkSymbol 44 ∷ LocalSymbol (108 ∷ []) ∷ MarkSymbol 93 ∷ LocalSymbol (120 ∷ []) ∷ []) ≡ Got (phi (integer 32) ((record { val = (fixed (number (pos 1))); from = (101 ∷ []) }) ∷ (record { val = (local (98 ∷ [])); from = (108 ∷ []) }) ∷ [])) (LocalSymbol (120 ∷ []) ∷ [])
unfolding run_recursive run_many run_until run_items
phi_two = refl

-- phi i32, [1, %e]
phi_without_input : run_phi 30 (KeywordSymbol Phi ∷ KeywordSymbol (Integer 32) ∷ MarkSymbol 44 ∷ MarkSymbol 91 ∷ NumberSymbol (pos 1) ∷ MarkSymbol 44 ∷ LocalSymbol (101 ∷ []) ∷ MarkSymbol 93 ∷ []) ≡ Wrong (MarkSymbol 44 ∷ MarkSymbol 91 ∷ NumberSymbol (pos 1) ∷ MarkSymbol 44 ∷ LocalSymbol (101 ∷ []) ∷ MarkSymbol 93 ∷ [])
unfolding run_recursive run_many run_until run_items
phi_without_input = refl

-- br label %a
jump_one : run_term 30 (KeywordSymbol Br ∷ KeywordSymbol Label ∷ LocalSymbol (97 ∷ []) ∷ []) ≡ Got (jump (97 ∷ [])) []
unfolding run_recursive run_many run_until run_items
jump_one = refl

-- br i1 %c, label %a, label %b }
branch_two : run_term 30 (KeywordSymbol Br ∷ KeywordSymbol (Integer 1) ∷ LocalSymbol (99 ∷ []) ∷ MarkSymbol 44 ∷ KeywordSymbol Label ∷ LocalSymbol (97 ∷ []) ∷ MarkSymbol 44 ∷ KeywordSymbol Label ∷ LocalSymbol (98 ∷ []) ∷ MarkSymbol 125 ∷ []) ≡ Got (branch (record { ty = (integer 1); val = (local (99 ∷ [])) }) (97 ∷ []) (98 ∷ [])) (MarkSymbol 125 ∷ [])
unfolding run_recursive run_many run_until run_items
branch_two = refl

-- br i1 %c, label %a
branch_cut : run_term 30 (KeywordSymbol Br ∷ KeywordSymbol (Integer 1) ∷ LocalSymbol (99 ∷ []) ∷ MarkSymbol 44 ∷ KeywordSymbol Label ∷ LocalSymbol (97 ∷ []) ∷ []) ≡ Wrong []
unfolding run_recursive run_many run_until run_items
branch_cut = refl

-- switch i32 %x, label %d [i32 1, label %a i32 2, label %b]
switch_two : run_term 30 (KeywordSymbol Switch ∷ KeywordSymbol (Integer 32) ∷ LocalSymbol (120 ∷ []) ∷ MarkSymbol 44 ∷ KeywordSymbol Label ∷ LocalSymbol (100 ∷ []) ∷ MarkSymbol 91 ∷ KeywordSymbol (Integer 32) ∷ NumberSymbol (pos 1) ∷ MarkSymbol 44 ∷ KeywordSymbol Label ∷ LocalSymbol (97 ∷ []) ∷ KeywordSymbol (Integer 32) ∷ NumberSymbol (pos 2) ∷ MarkSymbol 44 ∷ KeywordSymbol Label ∷ LocalSymbol (98 ∷ []) ∷ MarkSymbol 93 ∷ []) ≡ Got (switch (record { ty = (integer 32); val = (local (120 ∷ [])) }) (100 ∷ []) ((record { ty = integer 32; value = pos 1; to = (97 ∷ []) }) ∷ (record { ty = integer 32; value = pos 2; to = (98 ∷ []) }) ∷ [])) []
unfolding run_recursive run_many run_until run_items
switch_two = refl

-- switch i32 %x, label %d [1, label %a]
case_without_type : run_term 30 (KeywordSymbol Switch ∷ KeywordSymbol (Integer 32) ∷ LocalSymbol (120 ∷ []) ∷ MarkSymbol 44 ∷ KeywordSymbol Label ∷ LocalSymbol (100 ∷ []) ∷ MarkSymbol 91 ∷ NumberSymbol (pos 1) ∷ MarkSymbol 44 ∷ KeywordSymbol Label ∷ LocalSymbol (97 ∷ []) ∷ MarkSymbol 93 ∷ []) ≡ Wrong (NumberSymbol (pos 1) ∷ MarkSymbol 44 ∷ KeywordSymbol Label ∷ LocalSymbol (97 ∷ []) ∷ MarkSymbol 93 ∷ [])
unfolding run_recursive run_many run_until run_items
case_without_type = refl

-- ret void }
return_before_brace : run_term 30 (KeywordSymbol Ret ∷ KeywordSymbol Void ∷ MarkSymbol 125 ∷ []) ≡ Got (return_void) (MarkSymbol 125 ∷ [])
unfolding run_recursive run_many run_until run_items
return_before_brace = refl

-- ret void a:
return_before_label : run_term 30 (KeywordSymbol Ret ∷ KeywordSymbol Void ∷ LabelSymbol (97 ∷ []) ∷ []) ≡ Got (return_void) (LabelSymbol (97 ∷ []) ∷ [])
unfolding run_recursive run_many run_until run_items
return_before_label = refl

-- ret void 5 }
return_void_value : run_term 30 (KeywordSymbol Ret ∷ KeywordSymbol Void ∷ NumberSymbol (pos 5) ∷ MarkSymbol 125 ∷ []) ≡ Got (return_value (record { ty = void; val = (fixed (number (pos 5))) })) (MarkSymbol 125 ∷ [])
unfolding run_recursive run_many run_until run_items
return_void_value = refl

-- ret void {} }
return_void_structure : run_term 30 (KeywordSymbol Ret ∷ KeywordSymbol Void ∷ MarkSymbol 123 ∷ MarkSymbol 125 ∷ MarkSymbol 125 ∷ []) ≡ Got (return_value (record { ty = void; val = (fixed (fields no_values false)) })) (MarkSymbol 125 ∷ [])
unfolding run_recursive run_many run_until run_items
return_void_structure = refl

-- ret i32 7 }
return_number : run_term 30 (KeywordSymbol Ret ∷ KeywordSymbol (Integer 32) ∷ NumberSymbol (pos 7) ∷ MarkSymbol 125 ∷ []) ≡ Got (return_value (record { ty = (integer 32); val = (fixed (number (pos 7))) })) (MarkSymbol 125 ∷ [])
unfolding run_recursive run_many run_until run_items
return_number = refl

-- ret i32 }
return_without_value : run_term 30 (KeywordSymbol Ret ∷ KeywordSymbol (Integer 32) ∷ MarkSymbol 125 ∷ []) ≡ Wrong (MarkSymbol 125 ∷ [])
unfolding run_recursive run_many run_until run_items
return_without_value = refl

-- ret
return_cut : run_term 30 (KeywordSymbol Ret ∷ []) ≡ Wrong []
unfolding run_recursive run_many run_until run_items
return_cut = refl

-- unreachable br
unreachable_one : run_term 30 (KeywordSymbol Unreachable ∷ KeywordSymbol Br ∷ []) ≡ Got (unreachable) (KeywordSymbol Br ∷ [])
unfolding run_recursive run_many run_until run_items
unreachable_one = refl
