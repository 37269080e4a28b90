-- What the grammar spells fits: a module that was read is spelled again.
use Rattle.std.proofs.Common.{List, [], ◌∷◌, ◌++◌, map, inl, inr, sym, ◌∙◌, ap, subst}
use Rattle.std.specs.List.{All}
use Rattle.std.proofs.lemmas.List.Elements.{All-nil, All-cons, All-head, All-tail}
use Rattle.grammar.specs.Language.{Lang, many, until}
use Rattle.ir_tree.specs.Shape.{InstShape, BlockShape, ParamShape, ModuleShape}
use Rattle.ir_lex.specs.Symbols.{Symbol}
use Rattle.ir_cursor.specs.Marks.{punct}
use Rattle.ir_grammar_consts.specs.Spelling.{FitsTy}
use Rattle.ir_grammar_consts.proofs.Values.{Every, every_listed}
use Rattle.ir_grammar_consts.proofs.TypeFits.{ty_fits}
use Rattle.ir_grammar_consts.proofs.ConstFits.{const_fits}
use Rattle.ir_grammar_insts.proofs.InstFits.{phi_fits, inst_fits, term_fits}
use Rattle.ir_grammar_modules.specs.Blocks.{phi_line, inst_line, line_of, lines, block_of, block, FirstBlock}
use Rattle.ir_grammar_modules.specs.Items.{ItemShape, type_item, global_item, declare_item, function_item, parameter_of, parameter, Signature, parameters, signature, blocks_of, blocks, type_of, type_line, global_of, global_line, declare_of, declare_line, function_of, function, item}
use Rattle.ir_grammar_modules.specs.Modules.{with_item, module_of, whole_module}
use Rattle.ir_grammar_modules.specs.Spelling.{FitsPhiLine, FitsInstLine, FitLines, FitsBlock, FitBlocks, FitsParam, FitsType, FitsGlobal, FitsDeclare, FitsFunction, FitsModule}

all_of : {V : Type 0} (P : V → Type 0) (vs : List V) → Every P vs → All P vs
all_of P [] h = All-nil P
all_of P (v ∷ vs) h = All-cons P v vs h.0 (all_of P vs h.1)

all_many : {V : Type 0} (a : Lang Symbol V) (P : V → Type 0) → ((ts : List Symbol) (v : V) → a ts v → P v)
    → (ts : List Symbol) (vs : List V) → many a ts vs → All P vs
all_many a P each ts [] word = All-nil P
all_many a P each ts (v ∷ vs) word = All-cons P v vs (each word.0 v word.3) (all_many a P each word.1 vs word.4)

phi_line_fits : (ts : List Symbol) (v : InstShape) → phi_line ts v → FitsPhiLine v
phi_line_fits ts v word =
    let fits : FitsPhiLine (line_of word.0) = phi_fits word.1.1 word.0.1 word.1.4 in
    subst FitsPhiLine (sym word.2) fits

inst_line_fits : (ts : List Symbol) (v : InstShape) → inst_line ts v → FitsInstLine v
inst_line_fits ts v word =
    let fits : FitsInstLine (line_of word.0) = inst_fits word.1.1 word.0.1 word.1.4 in
    subst FitsInstLine (sym word.2) fits

lines_fit : (ts : List Symbol) (insts : List InstShape) → lines ts insts → FitLines insts
lines_fit ts insts word =
    let after = word.1.4 in
    let last = after.1.4 in
    record {
      phis = word.0.0;
      others = after.0.0;
      last = last.0;
      cut = word.2 ∙ ap (λ z. word.0.0 ++ z) after.2 ∙ ap (λ z. word.0.0 ++ (after.0.0 ++ z)) last.2;
      fit_phis = all_many phi_line FitsPhiLine phi_line_fits word.1.0 word.0.0 word.1.3;
      fit_others = all_many inst_line FitsInstLine inst_line_fits after.1.0 after.0.0 after.1.3;
      fits_last = term_fits after.1.1 last.0 last.1;
    }

block_fits : (ts : List Symbol) (v : BlockShape) → block ts v → FitsBlock v
block_fits ts v word =
    let fits : FitsBlock (block_of word.0) = lines_fit word.1.1 word.0.1 word.1.4 in
    subst FitsBlock (sym word.2) fits

until_fit : (ts : List Symbol) (vs : List BlockShape) → until (punct 125) block ts vs → All FitsBlock vs
until_fit ts vs word =
    let every : All FitsBlock word.0.0 = all_many block FitsBlock block_fits word.1.0 word.0.0 word.1.3 in
    subst (All FitsBlock) (sym word.2) every

blocks_fit : (ts : List Symbol) (row : List ParamShape) (v : FirstBlock × List BlockShape) → blocks ts v → FitBlocks (blocks_of row v)
blocks_fit ts row v word = (lines_fit word.3.1 v.0.1 word.3.4, until_fit word.1 v.1 word.4)

parameter_fits : (ts : List Symbol) (v : ParamShape) → parameter ts v → FitsParam v
parameter_fits ts v word =
    let fits : FitsParam (parameter_of word.0) = ty_fits word.1.0 word.0.0 word.1.3 in
    subst FitsParam (sym word.2) fits

parameters_fit : (ts : List Symbol) (row : List ParamShape) → parameters ts row → All FitsParam row
parameters_fit ts row word = all_of FitsParam row (every_listed (punct 44) (punct 41) parameter FitsParam parameter_fits word.1 row word.5)

signature_fits : (ts : List Symbol) (v : Signature) → signature ts v → FitsTy v.0 × All FitsParam v.1.1
signature_fits ts v word = (ty_fits word.0 v.0 word.3, parameters_fit word.4.1 v.1.1 word.4.4)

-- what a text can spell of an item
abbrev FitsItem : ItemShape → Type 0
FitsItem (type_item v) = FitsType v
FitsItem (global_item v) = FitsGlobal v
FitsItem (declare_item v) = FitsDeclare v
FitsItem (function_item v) = FitsFunction v

types_fit : (row : List ParamShape) → All FitsParam row → All FitsTy (map (λ p. p.ty) row)
types_fit [] h = All-nil FitsTy
types_fit (v ∷ row) h = All-cons FitsTy v.ty (map (λ p. p.ty) row) (All-head FitsParam v row h) (types_fit row (All-tail FitsParam v row h))

type_fits : (ts : List Symbol) (v : ItemShape) → type_line ts v → FitsItem v
type_fits ts v word =
    let fits : FitsItem (type_of word.0) = ty_fits word.1.4.5.1 word.0.1 word.1.4.5.5 in
    subst FitsItem (sym word.2) fits

global_fits : (ts : List Symbol) (v : ItemShape) → global_line ts v → FitsItem v
global_fits ts v word =
    let value = word.1.4.5.4 in
    let fits : FitsItem (global_of word.0) = (ty_fits value.0 word.0.1.1.0 value.3, const_fits value.1 word.0.1.1.1 value.4) in
    subst FitsItem (sym word.2) fits

declare_fits : (ts : List Symbol) (v : ItemShape) → declare_line ts v → FitsItem v
declare_fits ts v word =
    let inner = word.5 in
    let parts = signature_fits word.1 inner.0 inner.1 in
    let fits : FitsItem (declare_of inner.0) = (parts.0, types_fit inner.0.1.1 parts.1) in
    subst FitsItem (sym inner.2) fits

function_fits : (ts : List Symbol) (v : ItemShape) → function ts v → FitsItem v
function_fits ts v word =
    let inner = word.5 in
    let pair = inner.1 in
    let parts = signature_fits pair.0 inner.0.0 pair.3 in
    let fits : FitsItem (function_of inner.0) = (parts.0, parts.1, blocks_fit pair.4.1 inner.0.0.1.1 inner.0.1 pair.4.5) in
    subst FitsItem (sym inner.2) fits

item_fits : (ts : List Symbol) (v : ItemShape) → item ts v → FitsItem v
item_fits ts v (inl u) = type_fits ts v u
item_fits ts v (inr (inl u)) = global_fits ts v u
item_fits ts v (inr (inr (inl u))) = declare_fits ts v u
item_fits ts v (inr (inr (inr u))) = function_fits ts v u

with_fits : (v : ItemShape) (m : ModuleShape) → FitsItem v → FitsModule m → FitsModule (with_item v m)
with_fits (type_item v) m h g = record {
  fit_types = All-cons FitsType v m.types h g.fit_types;
  fit_globals = g.fit_globals;
  fit_declares = g.fit_declares;
  fit_functions = g.fit_functions;
}
with_fits (global_item v) m h g = record {
  fit_types = g.fit_types;
  fit_globals = All-cons FitsGlobal v m.globals h g.fit_globals;
  fit_declares = g.fit_declares;
  fit_functions = g.fit_functions;
}
with_fits (declare_item v) m h g = record {
  fit_types = g.fit_types;
  fit_globals = g.fit_globals;
  fit_declares = All-cons FitsDeclare v m.declares h g.fit_declares;
  fit_functions = g.fit_functions;
}
with_fits (function_item v) m h g = record {
  fit_types = g.fit_types;
  fit_globals = g.fit_globals;
  fit_declares = g.fit_declares;
  fit_functions = All-cons FitsFunction v m.functions h g.fit_functions;
}

items_fit : (ts : List Symbol) (vs : List ItemShape) → many item ts vs → FitsModule (module_of vs)
items_fit ts [] word = record {
  fit_types = All-nil FitsType;
  fit_globals = All-nil FitsGlobal;
  fit_declares = All-nil FitsDeclare;
  fit_functions = All-nil FitsFunction;
}
items_fit ts (v ∷ vs) word = with_fits v (module_of vs) (item_fits word.0 v word.3) (items_fit word.1 vs word.4)

pub module_fits : (ts : List Symbol) (m : ModuleShape) → whole_module ts m → FitsModule m
module_fits ts m word = subst FitsModule (sym word.2) (items_fit ts word.0 word.1)
