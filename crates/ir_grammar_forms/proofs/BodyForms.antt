-- The form of instructions is what a text can spell.
use Rattle.std.proofs.Common.{◌≡◌, true, false, [], ◌∷◌, refl, arith}
use Rattle.ir_tree.specs.Shape.{ValShape, local, fixed, TyValShape, PhiInShape, CaseShape, BodyShape, phi, binary, icmp, select, convert, freeze, alloca, load, store, get_element, call, jump, branch, switch, return_void, return_value, unreachable}
use Rattle.ir_tree.specs.declared.module.Bin.{Bin}
use Rattle.ir_tree.specs.declared.module.Bin.TheVariants as bins
use Rattle.ir_tree.specs.declared.module.Flags.{Flags}
use Rattle.ir_grammar_insts.specs.Spelling.{FitsVal, FitsTyVal, FitsPhiInput, FitsCase, FitsFlags, FitsPhi, FitsInst, FitsTerm}
use Rattle.ir_forms.specs.Types.{HasTyForm}
use Rattle.ir_forms.specs.Instructions.{is_phi, is_terminator, HasValForm, HasTyValForm, HasOwnFlags, HasBodyForm}
use Rattle.ir_grammar_forms.proofs.Rows.{each, each_back}
use Rattle.ir_grammar_forms.proofs.TypeForms.{ty_form, ty_fits, const_form, const_fits}

-- operands

val_form : (v : ValShape) → FitsVal v → HasValForm v
val_form (local name) h = tt
val_form (fixed c) h = const_form c h

val_fits : (v : ValShape) → HasValForm v → FitsVal v
val_fits (local name) h = tt
val_fits (fixed c) h = const_fits c h

ty_val_form : (v : TyValShape) → FitsTyVal v → HasTyValForm v
ty_val_form v h = (ty_form v.ty h.0, val_form v.val h.1)

ty_val_fits : (v : TyValShape) → HasTyValForm v → FitsTyVal v
ty_val_fits v h = (ty_fits v.ty h.0, val_fits v.val h.1)

abbrev HasInputForm : PhiInShape → Type 0
HasInputForm i = HasValForm i.val

input_form : (i : PhiInShape) → FitsPhiInput i → HasInputForm i
input_form i h = val_form i.val h

input_fits : (i : PhiInShape) → HasInputForm i → FitsPhiInput i
input_fits i h = val_fits i.val h

abbrev HasCaseForm : CaseShape → Type 0
HasCaseForm c = HasTyForm c.ty

case_form : (c : CaseShape) → FitsCase c → HasCaseForm c
case_form c h = ty_form c.ty h

case_fits : (c : CaseShape) → HasCaseForm c → FitsCase c
case_fits c h = ty_fits c.ty h

flags_form : (operation : Bin) (f : Flags) → FitsFlags operation f → HasOwnFlags operation f
flags_form bins.Add f h = h
flags_form _ f h = h

flags_fit : (operation : Bin) (f : Flags) → HasOwnFlags operation f → FitsFlags operation f
flags_fit bins.Add f h = h
flags_fit _ f h = h

-- what a text can spell has its form

pub phi_form : (b : BodyShape) → FitsPhi b → HasBodyForm b
phi_form (phi t []) h = absurd h
phi_form (phi t (v ∷ vs)) h = (ty_form t h.0, omega arith, (input_form v h.1, each FitsPhiInput HasInputForm input_form vs h.2))
phi_form _ h = absurd h

pub inst_form : (b : BodyShape) → FitsInst b → HasBodyForm b
inst_form (binary operation flags t x y) h = (flags_form operation flags h.0, ty_form t h.1.0, val_form x h.1.1, val_form y h.1.2)
inst_form (icmp predicate t x y) h = (ty_form t h.0, val_form x h.1, val_form y h.2)
inst_form (select c x y) h = (ty_val_form c h.0, ty_val_form x h.1, ty_val_form y h.2)
inst_form (convert conversion t x to) h = (ty_form t h.0, val_form x h.1, ty_form to h.2)
inst_form (freeze t x) h = (ty_form t h.0, val_form x h.1)
inst_form (alloca t n) h = ty_form t h
inst_form (load t x) h = (ty_form t h.0, ty_val_form x h.1)
inst_form (store x y) h = (ty_val_form x h.0, ty_val_form y h.1)
inst_form (get_element inbounds t base row) h = (ty_form t h.0, ty_val_form base h.1, each FitsTyVal HasTyValForm ty_val_form row h.2)
inst_form (call t callee row) h = (ty_form t h.0, h.1, each FitsTyVal HasTyValForm ty_val_form row h.2)
inst_form _ h = absurd h

pub term_form : (b : BodyShape) → FitsTerm b → HasBodyForm b
term_form (jump to) h = tt
term_form (branch c x y) h = ty_val_form c h
term_form (switch x to cases) h = (ty_val_form x h.0, each FitsCase HasCaseForm case_form cases h.1)
term_form return_void h = tt
term_form (return_value x) h = ty_val_form x h
term_form unreachable h = tt
term_form _ h = absurd h

-- and stands where it may

pub fits_phi : (b : BodyShape) → FitsPhi b → is_phi b ≡ true
fits_phi (phi t inputs) h = refl
fits_phi _ h = absurd h

pub fits_no_phi : (b : BodyShape) → FitsInst b → is_phi b ≡ false
fits_no_phi (phi t inputs) h = absurd h
fits_no_phi _ h = refl

pub fits_no_term : (b : BodyShape) → FitsInst b → is_terminator b ≡ false
fits_no_term (jump to) h = absurd h
fits_no_term (branch c x y) h = absurd h
fits_no_term (switch x to cases) h = absurd h
fits_no_term return_void h = absurd h
fits_no_term (return_value x) h = absurd h
fits_no_term unreachable h = absurd h
fits_no_term _ h = refl

pub fits_term : (b : BodyShape) → FitsTerm b → is_terminator b ≡ true
fits_term (jump to) h = refl
fits_term (branch c x y) h = refl
fits_term (switch x to cases) h = refl
fits_term return_void h = refl
fits_term (return_value x) h = refl
fits_term unreachable h = refl
fits_term _ h = absurd h

-- a text can spell what has its form and stands where it may

pub phi_fits : (b : BodyShape) → is_phi b ≡ true → HasBodyForm b → FitsPhi b
phi_fits (phi t []) e h = absurd (omega (arith, h.1))
phi_fits (phi t (v ∷ vs)) e h = (ty_fits t h.0, input_fits v h.2.0, each_back HasInputForm FitsPhiInput input_fits vs h.2.1)
phi_fits _ e h = cc

pub inst_fits : (b : BodyShape) → is_phi b ≡ false → is_terminator b ≡ false → HasBodyForm b → FitsInst b
inst_fits (binary operation flags t x y) e g h = (flags_fit operation flags h.0, (ty_fits t h.1, val_fits x h.2, val_fits y h.3))
inst_fits (icmp predicate t x y) e g h = (ty_fits t h.0, val_fits x h.1, val_fits y h.2)
inst_fits (select c x y) e g h = (ty_val_fits c h.0, ty_val_fits x h.1, ty_val_fits y h.2)
inst_fits (convert conversion t x to) e g h = (ty_fits t h.0, val_fits x h.1, ty_fits to h.2)
inst_fits (freeze t x) e g h = (ty_fits t h.0, val_fits x h.1)
inst_fits (alloca t n) e g h = ty_fits t h
inst_fits (load t x) e g h = (ty_fits t h.0, ty_val_fits x h.1)
inst_fits (store x y) e g h = (ty_val_fits x h.0, ty_val_fits y h.1)
inst_fits (get_element inbounds t base row) e g h = (ty_fits t h.0, ty_val_fits base h.1, each_back HasTyValForm FitsTyVal ty_val_fits row h.2)
inst_fits (call t callee row) e g h = (ty_fits t h.0, h.1, each_back HasTyValForm FitsTyVal ty_val_fits row h.2)
inst_fits _ e g h = cc

pub term_fits : (b : BodyShape) → is_terminator b ≡ true → HasBodyForm b → FitsTerm b
term_fits (jump to) e h = tt
term_fits (branch c x y) e h = ty_val_fits c h
term_fits (switch x to cases) e h = (ty_val_fits x h.0, each_back HasCaseForm FitsCase case_fits cases h.1)
term_fits return_void e h = tt
term_fits (return_value x) e h = ty_val_fits x h
term_fits unreachable e h = tt
term_fits _ e h = cc
