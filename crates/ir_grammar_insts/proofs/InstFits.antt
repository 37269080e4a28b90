-- What the grammar spells fits: a phi, an instruction or a terminator that was read is spelled again.
use Rattle.std.proofs.Common.{◌≡◌, false, List, [], ◌∷◌, Some, inl, inr, refl, sym, ap, subst}
use Rattle.std.specs.List.{All}
use Rattle.std.proofs.lemmas.List.Elements.{All-nil, All-cons}
use Rattle.grammar.specs.Language.{skip, until}
use Rattle.ir_tree.specs.Shape.{ValShape, fixed, global, TyValShape, PhiInShape, CaseShape, BodyShape, phi, binary, icmp, select, convert, freeze, load, store, get_element, call, branch, switch, return_value}
use Rattle.ir_tree.specs.declared.module.Bin.{Bin}
use Rattle.ir_tree.specs.declared.module.Bin.TheVariants as bins
use Rattle.ir_tree.specs.declared.module.Flags.{Flags}
use Rattle.ir_tree.specs.declared.module.Conv.TheVariants as convs
use Rattle.ir_words.specs.declared.words.Keyword.TheVariants.{Add, Sub, Mul, Shl, Udiv, Sdiv, Lshr, Ashr, Urem, Srem, And, Or, Xor}
use Rattle.ir_lex.specs.Symbols.{Symbol, KeywordSymbol}
use Rattle.ir_cursor.specs.Marks.{punct}
use Rattle.ir_grammar_consts.specs.Spelling.{FitsTy}
use Rattle.ir_grammar_consts.proofs.Values.{Every, every_many, every_skip, every_listed}
use Rattle.ir_grammar_consts.proofs.TypeFits.{ty_fits}
use Rattle.ir_grammar_consts.proofs.ConstFits.{const_fits}
use Rattle.ir_grammar_insts.specs.Operands.{val, ty_val_of, ty_val, more_ty_val, TwoVals, two_vals}
use Rattle.ir_grammar_insts.specs.Arithmetic.{wrap_flags, exact_flag, no_flags, Converted, converted}
use Rattle.ir_grammar_insts.specs.Instructions.{phi_input_of, phi_input, inst_head, inst_rest, inst}
use Rattle.ir_grammar_insts.specs.declared.heads.InstHead.{InstHead}
use Rattle.ir_grammar_insts.specs.declared.heads.InstHead.TheVariants.{WrappingWord, ExactWord, PlainWord, IcmpWord, SelectWord, ExtendWord, TruncWord, FreezeWord, AllocaWord, LoadWord, StoreWord, ElementWord, CallWord}
use Rattle.ir_grammar_insts.specs.Instructions as grammar
use Rattle.ir_grammar_insts.specs.Terminators.{case_of, switch_case, term_rest, term}
use Rattle.ir_grammar_insts.specs.declared.heads.TermHead.{TermHead}
use Rattle.ir_grammar_insts.specs.declared.heads.TermHead.TheVariants.{BrWord, SwitchWord, RetWord, UnreachableWord}
use Rattle.ir_grammar_insts.specs.Spelling.{FitsVal, FitsTyVal, FitsTwo, FitsPhiInput, FitsCase, FitsFlags, FitsPhi, FitsInst, FitsTerm}

all_of : {V : Type 0} (P : V → Type 0) (vs : List V) → Every P vs → All P vs
all_of P [] h = All-nil P
all_of P (v ∷ vs) h = All-cons P v vs h.0 (all_of P vs h.1)

val_fits : (ts : List Symbol) (v : ValShape) → val ts v → FitsVal v
val_fits ts v (inl u) = subst FitsVal (sym u.2) tt
val_fits ts v (inr u) = let fits : FitsVal (fixed u.0) = const_fits ts u.0 u.1 in subst FitsVal (sym u.2) fits

ty_val_fits : (ts : List Symbol) (v : TyValShape) → ty_val ts v → FitsTyVal v
ty_val_fits ts v word =
    let fits : FitsTyVal (ty_val_of word.0) = (ty_fits word.1.0 word.0.0 word.1.3, val_fits word.1.1 word.0.1 word.1.4) in
    subst FitsTyVal (sym word.2) fits

more_fits : (ts : List Symbol) (v : TyValShape) → more_ty_val ts v → FitsTyVal v
more_fits ts v word = every_skip (punct 44) ty_val FitsTyVal ty_val_fits ts v word

two_fits : (ts : List Symbol) (v : TwoVals) → two_vals ts v → FitsTwo v.0 v.1.0 v.1.1
two_fits ts v word =
    let back = word.4 in
    (ty_fits word.0 v.0 word.3, val_fits back.0 v.1.0 back.3, every_skip (punct 44) val FitsVal val_fits back.1 v.1.1 back.4)

phi_input_fits : (ts : List Symbol) (v : PhiInShape) → phi_input ts v → FitsPhiInput v
phi_input_fits ts v word =
    let up = word.5 in
    let inner = up.1.3 in
    let fits : FitsPhiInput (phi_input_of inner.0) = val_fits inner.1.0 inner.0.0 inner.1.3 in
    subst FitsPhiInput (sym up.2) (subst FitsPhiInput (sym inner.2) fits)

pub phi_fits : (ts : List Symbol) (v : BodyShape) → grammar.phi ts v → FitsPhi v
phi_fits ts v word =
    let parts = word.5 in
    let row = parts.1.4 in
    let every = every_many (skip (punct 44) phi_input) FitsPhiInput (every_skip (punct 44) phi_input FitsPhiInput phi_input_fits) row.1.1 row.0.1 row.1.4 in
    let fits : FitsPhi (phi parts.0.0 (row.0.0 ∷ row.0.1)) =
    (ty_fits parts.1.0 parts.0.0 parts.1.3, phi_input_fits row.1.0 row.0.0 row.1.3, all_of FitsPhiInput row.0.1 every) in
    subst FitsPhi (sym parts.2) (subst (λ z. FitsPhi (phi parts.0.0 z)) (sym row.2) fits)

wrapping_fits : (t : Symbol) (operation : Bin) (f : Flags) → inst_head t ≡ Some (WrappingWord operation) → f.exact ≡ false → FitsFlags operation f
wrapping_fits (KeywordSymbol Add) operation f e h = let same : bins.Add ≡ operation = cc in subst (λ z. FitsFlags z f) same h
wrapping_fits (KeywordSymbol Sub) operation f e h = let same : bins.Sub ≡ operation = cc in subst (λ z. FitsFlags z f) same h
wrapping_fits (KeywordSymbol Mul) operation f e h = let same : bins.Mul ≡ operation = cc in subst (λ z. FitsFlags z f) same h
wrapping_fits (KeywordSymbol Shl) operation f e h = let same : bins.Shl ≡ operation = cc in subst (λ z. FitsFlags z f) same h
wrapping_fits _ operation f e h = cc

exact_fits : (t : Symbol) (operation : Bin) (f : Flags) → inst_head t ≡ Some (ExactWord operation) → (f.nuw ≡ false) × (f.nsw ≡ false) → FitsFlags operation f
exact_fits (KeywordSymbol Udiv) operation f e h = let same : bins.Udiv ≡ operation = cc in subst (λ z. FitsFlags z f) same h
exact_fits (KeywordSymbol Sdiv) operation f e h = let same : bins.Sdiv ≡ operation = cc in subst (λ z. FitsFlags z f) same h
exact_fits (KeywordSymbol Lshr) operation f e h = let same : bins.Lshr ≡ operation = cc in subst (λ z. FitsFlags z f) same h
exact_fits (KeywordSymbol Ashr) operation f e h = let same : bins.Ashr ≡ operation = cc in subst (λ z. FitsFlags z f) same h
exact_fits _ operation f e h = cc

plain_fits : (t : Symbol) (operation : Bin) → inst_head t ≡ Some (PlainWord operation) → FitsFlags operation no_flags
plain_fits (KeywordSymbol Urem) operation e = let same : bins.Urem ≡ operation = cc in subst (λ z. FitsFlags z no_flags) same (refl, refl, refl)
plain_fits (KeywordSymbol Srem) operation e = let same : bins.Srem ≡ operation = cc in subst (λ z. FitsFlags z no_flags) same (refl, refl, refl)
plain_fits (KeywordSymbol And) operation e = let same : bins.And ≡ operation = cc in subst (λ z. FitsFlags z no_flags) same (refl, refl, refl)
plain_fits (KeywordSymbol Or) operation e = let same : bins.Or ≡ operation = cc in subst (λ z. FitsFlags z no_flags) same (refl, refl, refl)
plain_fits (KeywordSymbol Xor) operation e = let same : bins.Xor ≡ operation = cc in subst (λ z. FitsFlags z no_flags) same (refl, refl, refl)
plain_fits _ operation e = cc

wrap_flags_fit : (ts : List Symbol) (f : Flags) → wrap_flags ts f → f.exact ≡ false
wrap_flags_fit ts f word = ap (λ z. z.exact) word.2

exact_flag_fits : (ts : List Symbol) (f : Flags) → exact_flag ts f → (f.nuw ≡ false) × (f.nsw ≡ false)
exact_flag_fits ts f word = (ap (λ z. z.nuw) word.2, ap (λ z. z.nsw) word.2)

converted_fits : (ts : List Symbol) (v : Converted) → converted ts v → FitsTy v.0 × FitsVal v.1.0 × FitsTy v.1.1
converted_fits ts v word =
    let back = word.4 in
    let last = back.4 in
    (ty_fits word.0 v.0 word.3, val_fits back.0 v.1.0 back.3, ty_fits last.1 v.1.1 last.5)

rest_fits : (t : Symbol) (head : InstHead) → inst_head t ≡ Some head → (ts : List Symbol) (v : BodyShape) → inst_rest head ts v → FitsInst v
rest_fits t (WrappingWord operation) e ts v word =
    let p = word.0 in
    let fits : FitsInst (binary operation p.0 p.1.0 p.1.1.0 p.1.1.1) =
    (wrapping_fits t operation p.0 e (wrap_flags_fit word.1.0 p.0 word.1.3), two_fits word.1.1 p.1 word.1.4) in
    subst FitsInst (sym word.2) fits
rest_fits t (ExactWord operation) e ts v word =
    let p = word.0 in
    let fits : FitsInst (binary operation p.0 p.1.0 p.1.1.0 p.1.1.1) =
    (exact_fits t operation p.0 e (exact_flag_fits word.1.0 p.0 word.1.3), two_fits word.1.1 p.1 word.1.4) in
    subst FitsInst (sym word.2) fits
rest_fits t (PlainWord operation) e ts v word =
    let p = word.0 in
    let fits : FitsInst (binary operation no_flags p.0 p.1.0 p.1.1) = (plain_fits t operation e, two_fits ts p word.1) in
    subst FitsInst (sym word.2) fits
rest_fits t IcmpWord e ts v word =
    let p = word.0 in
    let fits : FitsInst (icmp p.0 p.1.0 p.1.1.0 p.1.1.1) = two_fits word.1.1 p.1 word.1.4 in
    subst FitsInst (sym word.2) fits
rest_fits t SelectWord e ts v word =
    let p = word.0 in
    let back = word.1.4 in
    let fits : FitsInst (select p.0 p.1.0 p.1.1) = (ty_val_fits word.1.0 p.0 word.1.3, more_fits back.0 p.1.0 back.3, more_fits back.1 p.1.1 back.4) in
    subst FitsInst (sym word.2) fits
rest_fits t (ExtendWord conversion) e ts v word =
    let p = word.0 in
    let fits : FitsInst (convert conversion p.0 p.1.0 p.1.1) = converted_fits ts p word.1 in
    subst FitsInst (sym word.2) fits
rest_fits t TruncWord e ts v word =
    let p = word.0.1 in
    let fits : FitsInst (convert convs.Trunc p.0 p.1.0 p.1.1) = converted_fits word.1.1 p word.1.4 in
    subst FitsInst (sym word.2) fits
rest_fits t FreezeWord e ts v word =
    let p = word.0 in
    let fits : FitsInst (freeze p.0 p.1) = (ty_fits word.1.0 p.0 word.1.3, val_fits word.1.1 p.1 word.1.4) in
    subst FitsInst (sym word.2) fits
rest_fits t AllocaWord e ts v word = subst FitsInst (sym word.2) (ty_fits word.1.0 word.0.0 word.1.3)
rest_fits t LoadWord e ts v word =
    let p = word.0 in
    let fits : FitsInst (load p.0 p.1) = (ty_fits word.1.0 p.0 word.1.3, more_fits word.1.1 p.1 word.1.4) in
    subst FitsInst (sym word.2) fits
rest_fits t StoreWord e ts v word =
    let p = word.0 in
    let fits : FitsInst (store p.0 p.1) = (ty_val_fits word.1.0 p.0 word.1.3, more_fits word.1.1 p.1 word.1.4) in
    subst FitsInst (sym word.2) fits
rest_fits t ElementWord e ts v word =
    let p = word.0 in
    let back = word.1.4 in
    let last = back.4 in
    let fits : FitsInst (get_element p.0 p.1.0 p.1.1.0 p.1.1.1) =
    (ty_fits back.0 p.1.0 back.3, more_fits last.0 p.1.1.0 last.3, all_of FitsTyVal p.1.1.1 (every_many more_ty_val FitsTyVal more_fits last.1 p.1.1.1 last.4)) in
    subst FitsInst (sym word.2) fits
rest_fits t CallWord e ts v word =
    let p = word.0 in
    let last = word.1.4.4 in
    let fits : FitsInst (call p.0 (fixed (global p.1.0)) p.1.1) =
    (ty_fits word.1.0 p.0 word.1.3, (p.1.0, refl), all_of FitsTyVal p.1.1 (every_listed (punct 44) (punct 41) ty_val FitsTyVal ty_val_fits last.1 p.1.1 last.5)) in
    subst FitsInst (sym word.2) fits

pub inst_fits : (ts : List Symbol) (v : BodyShape) → inst ts v → FitsInst v
inst_fits ts v word = rest_fits word.0 word.2 word.4 word.1 v word.5

case_fits : (ts : List Symbol) (v : CaseShape) → switch_case ts v → FitsCase v
case_fits ts v word = let fits : FitsCase (case_of word.0) = ty_fits word.1.0 word.0.0 word.1.3 in subst FitsCase (sym word.2) fits

cases_fit : (ts : List Symbol) (vs : List CaseShape) → until (punct 93) switch_case ts vs → All FitsCase vs
cases_fit ts vs word =
    let every = every_many switch_case FitsCase case_fits word.1.0 word.0.0 word.1.3 in
    subst (All FitsCase) (sym word.2) (all_of FitsCase word.0.0 every)

term_rest_fits : (head : TermHead) (ts : List Symbol) (v : BodyShape) → term_rest head ts v → FitsTerm v
term_rest_fits BrWord ts v (inl u) = subst FitsTerm (sym u.2) tt
term_rest_fits BrWord ts v (inr u) =
    let fits : FitsTerm (branch u.0.0 u.0.1.0 u.0.1.1) = ty_val_fits u.1.0 u.0.0 u.1.3 in
    subst FitsTerm (sym u.2) fits
term_rest_fits SwitchWord ts v word =
    let p = word.0 in
    let last = word.1.4.4 in
    let fits : FitsTerm (switch p.0 p.1.0 p.1.1) = (ty_val_fits word.1.0 p.0 word.1.3, cases_fit last.1 p.1.1 last.5) in
    subst FitsTerm (sym word.2) fits
term_rest_fits RetWord ts v (inl u) = subst FitsTerm (sym u.5.1) tt
term_rest_fits RetWord ts v (inr u) = let fits : FitsTerm (return_value u.0) = ty_val_fits ts u.0 u.1 in subst FitsTerm (sym u.2) fits
term_rest_fits UnreachableWord ts v word = subst FitsTerm (sym word.1) tt

pub term_fits : (ts : List Symbol) (v : BodyShape) → term ts v → FitsTerm v
term_fits ts v word = term_rest_fits word.2 word.1 v word.5
