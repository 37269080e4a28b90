-- Where the readers of types, constants, operands, instructions and lines give a value, a front of the list spells it.
use Rattle.std.proofs.Common.{ℕ}
use Rattle.grammar.specs.Reader.{Reader, heads}
use Rattle.ir_tree.specs.Shape.{TyShape, ConstShape}
use Rattle.ir_lex.specs.Symbols.{Symbol, number_in}
use Rattle.ir_cursor.specs.Marks.{punct}
use Rattle.ir_grammar_consts.specs.Types.{times, count, TyHead, WholeType, ArrayOpen, FieldsOpen, PackedOpen, ty_head, ty_rest, ty_rule, ty, run_ty_rest, run_ty_rule, run_ty}
use Rattle.ir_grammar_consts.specs.Constants.{address_flag, address_flags, run_address_flags, ConstHead, WholeConst, ElementsOpen, ValuesOpen, PackedValuesOpen, AddressOpen, const_head, typed_const, operands, const_rest, const_rule, const, run_typed_const, run_operands, run_const_rest, run_const_rule, run_const}
use Rattle.ir_grammar_consts.proofs.TypeLaw.{regular_ty}
use Rattle.ir_grammar_consts.proofs.ConstLaw.{regular_const}
use Rattle.ir_grammar_insts.specs.Operands.{local_name, global_name, label, into, asked, val, ty_val, more_ty_val, two_vals, target, begins_val, run_val, run_ty_val, run_more_ty_val, run_two_vals, run_target}
use Rattle.ir_grammar_insts.specs.Arithmetic.{wrap_flag, exact, wrapping, exactly, wrap_flags, converted, run_wrap_flags, run_converted}
use Rattle.ir_grammar_insts.specs.Instructions.{phi_word, phi_input, phi, inst_head, inst_rest, inst, run_phi_input, run_phi, run_inst_rest, run_inst}
use Rattle.ir_grammar_insts.specs.declared.heads.InstHead.{InstHead}
use Rattle.ir_grammar_insts.specs.declared.heads.InstHead.TheVariants.{WrappingWord, ExactWord, PlainWord, IcmpWord, SelectWord, ExtendWord, TruncWord, FreezeWord, AllocaWord, LoadWord, StoreWord, ElementWord, CallWord}
use Rattle.ir_grammar_insts.specs.Terminators.{void_word, more_target, switch_case, term_head, term_rest, term, run_more_target, run_switch_case, run_ret, run_term_rest, run_term}
use Rattle.ir_grammar_insts.specs.declared.heads.TermHead.{TermHead}
use Rattle.ir_grammar_insts.specs.declared.heads.TermHead.TheVariants.{BrWord, SwitchWord, RetWord, UnreachableWord}
use Rattle.ir_grammar_insts.proofs.TermLaw.{ret_into}
use Rattle.ir_grammar_modules.specs.Blocks.{result, line_of, phi_line, inst_line, run_result, run_inst_line}
use Rattle.ir_read_modules.specs.Lines.{run_phi_line}
use Rattle.ir_read_modules.proofs.Sound.{Sound, sound_within, sound_empty, sound_one, sound_pick, sound_skip, sound_map, sound_seq, sound_maybe, sound_or, sound_many, sound_up_to, sound_until, sound_listed, sound_recursive}

-- types

sound_ty_rest : (n : ℕ) (r : Reader Symbol TyShape) → Sound ty r → (head : TyHead) → Sound (ty_rest ty head) (run_ty_rest n r head)
sound_ty_rest n r g (WholeType t) = sound_empty t
sound_ty_rest n r g ArrayOpen = sound_map _ (sound_up_to (punct 93) (sound_seq (sound_one count) (sound_skip times g)))
sound_ty_rest n r g FieldsOpen = sound_map _ (sound_listed n (punct 44) (punct 125) g)
sound_ty_rest n r g PackedOpen = sound_skip (punct 123) (sound_map _ (sound_up_to (punct 62) (sound_listed n (punct 44) (punct 125) g)))

pub sound_ty : (n : ℕ) → Sound ty (run_ty n)
sound_ty = sound_recursive ty_rule run_ty_rule regular_ty (λ n r g. sound_pick ty_head (sound_ty_rest n r g))

-- constants

sound_typed : (n : ℕ) (r : Reader Symbol ConstShape) → Sound const r → Sound (typed_const const) (run_typed_const n r)
sound_typed n r g = sound_map _ (sound_seq (sound_ty n) g)

sound_flags : (n : ℕ) → Sound address_flags (run_address_flags n)
sound_flags n = sound_map _ (sound_many n (heads address_flag) (sound_one address_flag))

sound_operands : (n : ℕ) (r : Reader Symbol ConstShape) → Sound const r → Sound (operands const) (run_operands n r)
sound_operands n r g =
    sound_seq (sound_ty n) (sound_skip (punct 44) (sound_seq (sound_typed n r g) (sound_until n (punct 41) (sound_skip (punct 44) (sound_typed n r g)))))

sound_const_rest : (n : ℕ) (r : Reader Symbol ConstShape) → Sound const r → (head : ConstHead) → Sound (const_rest const head) (run_const_rest n r head)
sound_const_rest n r g (WholeConst c) = sound_empty c
sound_const_rest n r g ElementsOpen = sound_map _ (sound_listed n (punct 44) (punct 93) (sound_typed n r g))
sound_const_rest n r g ValuesOpen = sound_map _ (sound_listed n (punct 44) (punct 125) (sound_typed n r g))
sound_const_rest n r g PackedValuesOpen = sound_skip (punct 123) (sound_map _ (sound_up_to (punct 62) (sound_listed n (punct 44) (punct 125) (sound_typed n r g))))
sound_const_rest n r g AddressOpen = sound_map _ (sound_seq (sound_flags n) (sound_skip (punct 40) (sound_operands n r g)))

pub sound_const : (n : ℕ) → Sound const (run_const n)
sound_const = sound_recursive const_rule run_const_rule regular_const (λ n r g. sound_pick const_head (sound_const_rest n r g))

-- operands

pub sound_val : (n : ℕ) → Sound val (run_val n)
sound_val n = sound_or (heads local_name) (sound_map _ (sound_one local_name)) (sound_map _ (sound_const n))

pub sound_ty_val : (n : ℕ) → Sound ty_val (run_ty_val n)
sound_ty_val n = sound_map _ (sound_seq (sound_ty n) (sound_val n))

sound_more_ty_val : (n : ℕ) → Sound more_ty_val (run_more_ty_val n)
sound_more_ty_val n = sound_skip (punct 44) (sound_ty_val n)

sound_two_vals : (n : ℕ) → Sound two_vals (run_two_vals n)
sound_two_vals n = sound_seq (sound_ty n) (sound_seq (sound_val n) (sound_skip (punct 44) (sound_val n)))

sound_target : Sound target run_target
sound_target = sound_skip label (sound_one local_name)

-- phis and instructions

sound_phi_input : (n : ℕ) → Sound phi_input (run_phi_input n)
sound_phi_input n =
    sound_skip (punct 91) (sound_up_to (punct 93) (sound_map _ (sound_seq (sound_val n) (sound_skip (punct 44) (sound_one local_name)))))

pub sound_phi : (n : ℕ) → Sound phi (run_phi n)
sound_phi n =
    sound_skip phi_word (sound_map _ (sound_seq (sound_ty n)
    (sound_map _ (sound_seq (sound_phi_input n) (sound_many n (heads (punct 44)) (sound_skip (punct 44) (sound_phi_input n)))))))

sound_wrap_flags : (n : ℕ) → Sound wrap_flags (run_wrap_flags n)
sound_wrap_flags n = sound_map wrapping (sound_many n (heads wrap_flag) (sound_one wrap_flag))

sound_converted : (n : ℕ) → Sound converted (run_converted n)
sound_converted n = sound_seq (sound_ty n) (sound_seq (sound_val n) (sound_skip into (sound_ty n)))

sound_inst_rest : (n : ℕ) (head : InstHead) → Sound (inst_rest head) (run_inst_rest n head)
sound_inst_rest n (WrappingWord operation) = sound_map _ (sound_seq (sound_wrap_flags n) (sound_two_vals n))
sound_inst_rest n (ExactWord operation) = sound_map _ (sound_seq (sound_map exactly (sound_maybe (heads exact) (sound_one exact))) (sound_two_vals n))
sound_inst_rest n (PlainWord operation) = sound_map _ (sound_two_vals n)
sound_inst_rest n IcmpWord = sound_map _ (sound_seq (sound_one asked) (sound_two_vals n))
sound_inst_rest n SelectWord = sound_map _ (sound_seq (sound_ty_val n) (sound_seq (sound_more_ty_val n) (sound_more_ty_val n)))
sound_inst_rest n (ExtendWord conversion) = sound_map _ (sound_converted n)
sound_inst_rest n TruncWord = sound_map _ (sound_seq (sound_wrap_flags n) (sound_converted n))
sound_inst_rest n FreezeWord = sound_map _ (sound_seq (sound_ty n) (sound_val n))
sound_inst_rest n AllocaWord =
    sound_map _ (sound_seq (sound_ty n) (sound_maybe (heads (punct 44)) (sound_skip (punct 44) (sound_seq (sound_ty n) (sound_one number_in)))))
sound_inst_rest n LoadWord = sound_map _ (sound_seq (sound_ty n) (sound_more_ty_val n))
sound_inst_rest n StoreWord = sound_map _ (sound_seq (sound_ty_val n) (sound_more_ty_val n))
sound_inst_rest n ElementWord =
    sound_map _ (sound_seq (sound_flags n) (sound_seq (sound_ty n) (sound_seq (sound_more_ty_val n) (sound_many n (heads (punct 44)) (sound_more_ty_val n)))))
sound_inst_rest n CallWord =
    sound_map _ (sound_seq (sound_ty n) (sound_seq (sound_one global_name) (sound_skip (punct 40) (sound_listed n (punct 44) (punct 41) (sound_ty_val n)))))

pub sound_inst : (n : ℕ) → Sound inst (run_inst n)
sound_inst n = sound_pick inst_head (sound_inst_rest n)

-- terminators

sound_more_target : Sound more_target run_more_target
sound_more_target = sound_skip (punct 44) sound_target

sound_case : (n : ℕ) → Sound switch_case (run_switch_case n)
sound_case n = sound_map _ (sound_seq (sound_ty n) (sound_seq (sound_one number_in) sound_more_target))

sound_ret : (n : ℕ) → Sound (term_rest RetWord) (run_ret n)
sound_ret n =
    sound_within (record { at = ret_into })
    (sound_or (heads void_word) (sound_skip void_word (sound_map _ (sound_maybe begins_val (sound_val n)))) (sound_map _ (sound_ty_val n)))

sound_term_rest : (n : ℕ) (head : TermHead) → Sound (term_rest head) (run_term_rest n head)
sound_term_rest n BrWord =
    sound_or (heads label) (sound_map _ sound_target) (sound_map _ (sound_seq (sound_ty_val n) (sound_seq sound_more_target sound_more_target)))
sound_term_rest n SwitchWord =
    sound_map _ (sound_seq (sound_ty_val n) (sound_seq sound_more_target (sound_skip (punct 91) (sound_until n (punct 93) (sound_case n)))))
sound_term_rest n RetWord = sound_ret n
sound_term_rest n UnreachableWord = sound_empty _

pub sound_term : (n : ℕ) → Sound term (run_term n)
sound_term n = sound_pick term_head (sound_term_rest n)

-- lines

pub sound_result : Sound result run_result
sound_result = sound_up_to (punct 61) (sound_one local_name)

pub sound_phi_line : (n : ℕ) → Sound phi_line (run_phi_line n)
sound_phi_line n = sound_map line_of (sound_seq (sound_maybe (heads local_name) sound_result) (sound_phi n))

pub sound_inst_line : (n : ℕ) → Sound inst_line (run_inst_line n)
sound_inst_line n = sound_map line_of (sound_seq (sound_maybe (heads local_name) sound_result) (sound_inst n))
