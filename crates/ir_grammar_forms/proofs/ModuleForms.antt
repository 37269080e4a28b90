-- The form of a module is what a text can spell.
use Rattle.std.proofs.Common.{◌≡◌, ◌≤◌, true, List, [], ◌∷◌, ◌++◌, length, None, refl, sym, ap, ◌∙◌, subst, arith}
use Rattle.std.specs.List.{AllByRecursion}
use Rattle.std.proofs.lemmas.List.Elements.{All-from_recursion}
use Rattle.ir_tree.specs.Shape.{InstShape, BlockShape, FunctionShape, GlobalShape, DeclareShape, ModuleShape}
use Rattle.ir_grammar_consts.specs.Spelling.{FitsTy}
use Rattle.ir_grammar_modules.specs.Blocks.{line_of, last_of}
use Rattle.ir_grammar_modules.specs.Spelling.{FitsPhiLine, FitsInstLine, FitsBlock, FitBlocks, FitsParam, FitsType, FitsGlobal, FitsDeclare, FitsFunction, FitsModule}
use Rattle.ir_forms.specs.Types.{HasTyForm}
use Rattle.ir_forms.specs.Instructions.{is_phi, HasBodyForm}
use Rattle.ir_forms.specs.Modules.{IsInner, HasBlockForm, HasParamForm, HasFunctionForm, HasDeclareForm, HasGlobalForm, HasNamedTyForm, HasForm}
use Rattle.ir_grammar_forms.proofs.Rows.{each, each_back, each_of_two, front_of, rest_of, joined_of}
use Rattle.ir_grammar_forms.proofs.TypeForms.{ty_form, ty_fits, const_form, const_fits}
use Rattle.ir_grammar_forms.proofs.BodyForms.{phi_form, inst_form, term_form, fits_phi, fits_no_phi, fits_no_term, fits_term, phi_fits, inst_fits, term_fits}

-- an instruction is a phi
abbrev IsPhi : InstShape → Type 0
IsPhi x = is_phi x.body ≡ true

-- what an instruction does has its form
abbrev HasLineForm : InstShape → Type 0
HasLineForm x = HasBodyForm x.body

-- what a text can spell has its form

inner_of : (x : InstShape) → FitsInstLine x → IsInner x
inner_of x h = record { no_phi = fits_no_phi x.body h; no_terminator = fits_no_term x.body h }

block_form : (b : BlockShape) → FitsBlock b → HasBlockForm b
block_form b h =
    let phis : AllByRecursion HasLineForm h.phis = each FitsPhiLine HasLineForm (λ x. phi_form x.body) h.phis h.fit_phis in
    let inner : AllByRecursion HasLineForm h.others = each FitsInstLine HasLineForm (λ x. inst_form x.body) h.others h.fit_others in
    let last : AllByRecursion HasLineForm (last_of h.last) = (term_form h.last h.fits_last, tt) in
    record {
      phis = h.phis;
      inner = h.others;
      last = line_of (None, h.last);
      cut = h.cut;
      are_phis = each FitsPhiLine IsPhi (λ x. fits_phi x.body) h.phis h.fit_phis;
      are_inner = each FitsInstLine IsInner inner_of h.others h.fit_others;
      is_last = fits_term h.last h.fits_last;
      no_name = refl;
      bodies = subst (AllByRecursion HasLineForm) (sym h.cut)
          (joined_of HasLineForm h.phis (h.others ++ last_of h.last) phis (joined_of HasLineForm h.others (last_of h.last) inner last));
    }

has_block : (bs : List BlockShape) → FitBlocks bs → 1 ≤ length bs
has_block [] h = absurd h
has_block (b ∷ bs) h = omega arith

blocks_form : (bs : List BlockShape) → FitBlocks bs → AllByRecursion HasBlockForm bs
blocks_form [] h = absurd h
blocks_form (b ∷ bs) h = (block_form b h.0, each FitsBlock HasBlockForm block_form bs h.1)

function_form : (f : FunctionShape) → FitsFunction f → HasFunctionForm f
function_form f h = record {
  ret = ty_form f.ret h.0;
  params = each FitsParam HasParamForm (λ p. ty_form p.ty) f.params h.1;
  has_block = has_block f.blocks h.2;
  blocks = blocks_form f.blocks h.2;
}

declare_form : (d : DeclareShape) → FitsDeclare d → HasDeclareForm d
declare_form d h = record { ret = ty_form d.ret h.0; params = each FitsTy HasTyForm ty_form d.params h.1 }

global_form : (g : GlobalShape) → FitsGlobal g → HasGlobalForm g
global_form g h = record { ty = ty_form g.ty h.0; init = const_form g.init h.1 }

pub module_form : (m : ModuleShape) → FitsModule m → HasForm m
module_form m h = record {
  types = each FitsType HasNamedTyForm (λ t. ty_form t.ty) m.types h.fit_types;
  globals = each FitsGlobal HasGlobalForm global_form m.globals h.fit_globals;
  declares = each FitsDeclare HasDeclareForm declare_form m.declares h.fit_declares;
  functions = each FitsFunction HasFunctionForm function_form m.functions h.fit_functions;
}

-- a text can spell what has its form

phi_line_fits : (x : InstShape) → IsPhi x → HasLineForm x → FitsPhiLine x
phi_line_fits x e h = phi_fits x.body e h

inner_line_fits : (x : InstShape) → IsInner x → HasLineForm x → FitsInstLine x
inner_line_fits x e h = inst_fits x.body e.no_phi e.no_terminator h

block_fits : (b : BlockShape) → HasBlockForm b → FitsBlock b
block_fits b h =
    let whole : AllByRecursion HasLineForm (h.phis ++ (h.inner ++ h.last ∷ [])) = subst (AllByRecursion HasLineForm) h.cut h.bodies in
    let behind : AllByRecursion HasLineForm (h.inner ++ h.last ∷ []) = rest_of HasLineForm h.phis (h.inner ++ h.last ∷ []) whole in
    let at_end : AllByRecursion HasLineForm (h.last ∷ []) = rest_of HasLineForm h.inner (h.last ∷ []) behind in
    let phis = each_of_two IsPhi HasLineForm FitsPhiLine phi_line_fits h.phis h.are_phis (front_of HasLineForm h.phis (h.inner ++ h.last ∷ []) whole) in
    let inner = each_of_two IsInner HasLineForm FitsInstLine inner_line_fits h.inner h.are_inner (front_of HasLineForm h.inner (h.last ∷ []) behind) in
    let alone : h.last ≡ line_of (None, h.last.body) = ap (λ z. line_of (z, h.last.body)) h.no_name in
    record {
      phis = h.phis;
      others = h.inner;
      last = h.last.body;
      cut = h.cut ∙ ap (λ z. h.phis ++ (h.inner ++ z ∷ [])) alone;
      fit_phis = All-from_recursion FitsPhiLine h.phis phis;
      fit_others = All-from_recursion FitsInstLine h.inner inner;
      fits_last = term_fits h.last.body h.is_last at_end.0;
    }

blocks_fit : (bs : List BlockShape) → 1 ≤ length bs → AllByRecursion HasBlockForm bs → FitBlocks bs
blocks_fit [] some h = absurd (omega (arith, some))
blocks_fit (b ∷ bs) some h = (block_fits b h.0, each_back HasBlockForm FitsBlock block_fits bs h.1)

function_fits : (f : FunctionShape) → HasFunctionForm f → FitsFunction f
function_fits f h =
    (ty_fits f.ret h.ret, each_back HasParamForm FitsParam (λ p. ty_fits p.ty) f.params h.params, blocks_fit f.blocks h.has_block h.blocks)

declare_fits : (d : DeclareShape) → HasDeclareForm d → FitsDeclare d
declare_fits d h = (ty_fits d.ret h.ret, each_back HasTyForm FitsTy ty_fits d.params h.params)

global_fits : (g : GlobalShape) → HasGlobalForm g → FitsGlobal g
global_fits g h = (ty_fits g.ty h.ty, const_fits g.init h.init)

pub module_fits : (m : ModuleShape) → HasForm m → FitsModule m
module_fits m h = record {
  fit_types = each_back HasNamedTyForm FitsType (λ t. ty_fits t.ty) m.types h.types;
  fit_globals = each_back HasGlobalForm FitsGlobal global_fits m.globals h.globals;
  fit_declares = each_back HasDeclareForm FitsDeclare declare_fits m.declares h.declares;
  fit_functions = each_back HasFunctionForm FitsFunction function_fits m.functions h.functions;
}
