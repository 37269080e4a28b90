use Rattle.std.proofs.Common.{◌≡◌, ◌<◌, length, arith, sym, ◌∙◌, ap, subst}
use Rattle.std.specs.Prelude.{is_some}
use Rattle.ir_tree.specs.NameTable.{text_of}
use Rattle.ir_tree.specs.declared.module.NamedTy.{NamedTy}
use Rattle.ir_tree.specs.Shape.{TyShape, named}
use Rattle.ir_rules.specs.Constants.{Opens}
use Rattle.ir_openings.proofs.Once.{opens_once}
use Rattle.program_steps.specs.Laid.{laid_of}
use Rattle.program_steps.specs.LaidShapes.{laid_shape}
use Rattle.program_steps.specs.Steps.{names_of, types_of, ty_in}
use Rattle.program_steps.proofs.Alike.{alike_long, alike_at, within_list}
use Rattle.program_steps.proofs.Shaped.{name_shape, no_name}
use Rattle.program_steps.proofs.Leads.{IsNamed, named_type, opens_itself}
use Rattle.program_steps.proofs.steps.TypeSteps.opened.Goals as goal

pub returns-in_default : goal.returns-in_default
returns-in_default c t u laid opens =
    let s = c.args.self.now in
    laid ∙ ap (laid_of (types_of s))
    (sym (opens_itself (types_of s) t u opens (λ name e. no_name (names_of s) c.args.laid.now name c.in_default.not-Named (laid ∙ e))))

pub index-requires : goal.index-requires
index-requires c =
    let s = c.args.self.now in
    let found = c.requires.openings.are_sound.sound c.in-Named.id.0 c.in-Some.at (sym c.in-Some.ensures) in
    let within : c.in-Some.at < length s.module.now.types.items = within_list s.module.now.types.items c.in-Some.at found.item found.is_there in
    let long : length s.laid.items ≡ length s.module.now.types.items =
    alike_long (laid_shape (names_of s)) (λ (t : NamedTy). laid_of (types_of s) (ty_in s t.ty)) s.laid.items s.module.now.types.items c.requires.laid in
    omega (arith, within, long)

pub returns-in-Some : goal.returns-in-Some
returns-in-Some c t u laid opens =
    let s = c.args.self.now in
    let is : IsNamed (names_of s) t c.in-Named.id.0 =
    named_type (names_of s) (types_of s) t u c.in-Named.id.0 opens (sym (name_shape (names_of s) c.in-Named.id) ∙ sym (ap (laid_shape (names_of s)) c.in-Named.is) ∙ laid) in
    let found = c.requires.openings.are_sound.sound c.in-Named.id.0 c.in-Some.at (sym c.in-Some.ensures) in
    let same : ty_in s found.item.ty ≡ u =
    opens_once (types_of s) (named (text_of (names_of s) c.in-Named.id.0)) (ty_in s found.item.ty) u found.opens (subst (λ (z : TyShape). Opens (types_of s) z u) is.is_name opens) in
    alike_at (laid_shape (names_of s)) (λ (t : NamedTy). laid_of (types_of s) (ty_in s t.ty)) s.laid.items s.module.now.types.items c.in-Some.at c.index.result.now found.item
    c.requires.laid found.is_there (sym c.index.ensures) ∙ ap (laid_of (types_of s)) same

pub returns-in-None : goal.returns-in-None
returns-in-None c t u laid opens =
    let s = c.args.self.now in
    let is : IsNamed (names_of s) t c.in-Named.id.0 =
    named_type (names_of s) (types_of s) t u c.in-Named.id.0 opens (sym (name_shape (names_of s) c.in-Named.id) ∙ sym (ap (laid_shape (names_of s)) c.in-Named.is) ∙ laid) in
    let has = c.requires.openings.whole c.in-Named.id.0 u is.known (subst (λ (z : TyShape). Opens (types_of s) z u) is.is_name opens) in
    let wrong = ap is_some c.in-None.ensures ∙ has in
    absurd cc
