use Rattle.std.proofs.Common.{◌≡◌, ℕ, ◌<◌, List, length, map, Option, Some, None, slice_get, get_or, Bor, arith, sym, ◌∙◌, ap, subst, inl, inr}
use Rattle.std.specs.Prelude.{IsSomeAnd}
use Rattle.std.proofs.lemmas.List.{length-map}
use Rattle.ir_tree.specs.Shape.{TyShape}
use Rattle.ir_model.specs.Pointers as model
use Rattle.program_tables.specs.declared.operations.Stride.{Stride}
use Rattle.program_tables.specs.Shapes.{stride_shape}
use Rattle.program_steps.specs.declared.index.Index.{Index}
use Rattle.program_steps.specs.declared.laid.Laid.{Laid}
use Rattle.program_steps.specs.declared.steps.TypeSteps.{TypeSteps}
use Rattle.program_steps.specs.Steps.{names_of, types_of, index_shape, IsStep}
use Rattle.program_steps.specs.Laid.{LaidShape, elements, fields, laid_row, laid_of}
use Rattle.program_steps.specs.LaidShapes.{laid_shape}
use Rattle.program_steps.proofs.Alike.{mapped_at}
use Rattle.program_steps.proofs.Shaped.{plain_shape, elements_shape, fields_shape, name_shape}
use Rattle.program_steps.proofs.Leads.{OpensAs, element_leads, FieldLeads, field_leads, plain_leads, name_leads}
use Rattle.program_steps.proofs.steps.TypeSteps.step.Goals as goal

some_of : {X : Type 0} (x y : X) → Some x ≡ Some y → x ≡ y
some_of x y e = cc

-- the step to a field, by where fields begin and what they are
stepped : (s : TypeSteps) (t u : TyShape) (index : Index) (starts begin : List ℕ) (row inner : List Laid) → begin ≡ starts → inner ≡ row
    → (leads : FieldLeads (types_of s) t u (index_shape index) starts (map (laid_shape (names_of s)) row)) → (r : Option (Stride × Bor Laid))
    → IsSomeAnd r (λ x. (stride_shape x.0 ≡ model.Field (get_or begin leads.number 0)) × (slice_get inner leads.number ≡ Some x.1.now))
    → IsSomeAnd r (λ x. IsStep s t u index x.0 x.1.now)
stepped s t u index starts begin row inner same alike leads None none = none
stepped s t u index starts begin row inner same alike leads (Some x) found = record {
  stride = found.0 ∙ ap (λ (z : List ℕ). model.Field (get_or z leads.number 0)) same ∙ leads.stride;
  inside =
      some_of (laid_shape (names_of s) x.1.now) (laid_of (types_of s) u)
      (sym (mapped_at (laid_shape (names_of s)) row leads.number x.1.now (ap (λ (z : List Laid). slice_get z leads.number) (sym alike) ∙ found.1)) ∙ leads.inside);
}

pub returns-in-Array : goal.returns-in-Array
returns-in-Array c t u laid sized steps =
    let s = c.args.self.now in
    let names = names_of s in
    let ts = types_of s in
    let lies : OpensAs ts t (elements c.in-Array.size (laid_shape names c.in-Array.element.value)) =
    λ v opens. sym (elements_shape names c.in-Array.size c.in-Array.element) ∙ sym (ap (laid_shape names) c.in-Array.is) ∙ c.opened.ensures t v laid opens in
    let leads = element_leads ts t u (index_shape c.args.index) c.in-Array.size (laid_shape names c.in-Array.element.value) sized steps lies in
    record { stride = leads.stride; inside = ap (laid_shape names) c.deref.ensures ∙ leads.inside }

pub returns-in-Struct : goal.returns-in-Struct
returns-in-Struct c t u laid sized steps =
    let s = c.args.self.now in
    let names = names_of s in
    let ts = types_of s in
    let row : List LaidShape = map (laid_shape names) c.in-Struct.fields.items in
    let lies : OpensAs ts t (fields c.in-Struct.starts.items (laid_row row)) =
    λ v opens. sym (fields_shape names c.in-Struct.starts c.in-Struct.fields) ∙ sym (ap (laid_shape names) c.in-Struct.is) ∙ c.opened.ensures t v laid opens in
    let leads = field_leads ts t u (index_shape c.args.index) c.in-Struct.starts.items row sized steps lies in
    let starts : List ℕ = c.deref-in-Struct.result.now in
    let inner : List Laid = c.deref-in-Struct-2.result.now in
    let has_start : leads.number < length starts = subst (λ (z : List ℕ). leads.number < length z) (sym c.deref-in-Struct.ensures.value) leads.has_start in
    let has_field : leads.number < length inner =
    subst (λ (z : List Laid). leads.number < length z) (sym c.deref-in-Struct-2.ensures.value)
    (omega (arith, leads.has_field, length-map c.in-Struct.fields.items (laid_shape names))) in
    stepped s t u c.args.index c.in-Struct.starts.items starts c.in-Struct.fields.items inner c.deref-in-Struct.ensures.value c.deref-in-Struct-2.ensures.value leads c.field_step.result
    (c.field_step.ensures leads.number leads.is_number has_start has_field)

pub returns-in-Plain : goal.returns-in-Plain
returns-in-Plain c t u laid sized steps =
    let s = c.args.self.now in
    let names = names_of s in
    let ts = types_of s in
    elim c.in-Plain.is [
      | inl e ↦ plain_leads ts t u c.args.index.number steps (λ v opens. sym (plain_shape names) ∙ sym (ap (laid_shape names) e) ∙ c.opened.ensures t v laid opens)
      | inr e ↦ name_leads names ts t u c.args.index.number e.0.0 steps
          (λ v opens. sym (name_shape names e.0) ∙ sym (ap (laid_shape names) e.1) ∙ c.opened.ensures t v laid opens)
    ]
